-- What a line leaves, by what came of its checkpoint.
use Rattle.std.proofs.Common.{◌≡◌, ◌≢◌, ℕ, List, [], ◌++◌, true, false, not, Result, Ok, Err, refl, sym, ap, ap₂, ◌∙◌, subst, append-nil}
use Rattle.std.specs.Prelude.{IfOk, IfErr}
use Rattle.stm_history_file.specs.declared.recording.HistoryFile.{HistoryFile}
use Rattle.stm_journal.specs.Disk.{Disk}
use Rattle.stm_commands.specs.Checkpointing.{are_tickets_full}
use Rattle.stm_run.specs.Abstraction.{IsStep}
use Rattle.stm_run.specs.declared.console.Console.{Console}
use Rattle.stm_run.specs.declared.console.Console.TheVariants.{Open}
use Rattle.stm_run.specs.declared.reply.Reply.{Reply}
use Rattle.stm_run.specs.declared.reply.Reply.TheVariants as reply
use Rattle.stm_run.specs.Console.{step}
use Rattle.stm_run.specs.ConsoleState.{present_desk, events_of}
use Rattle.stm_run.specs.LineCheckpoints.{asked_checkpoint_step, auto_step, is_streamed, line_checkpoints, made_step, refused_step}
use Rattle.stm_journaled_run.specs.declared.fault.DurableFault.{DurableFault}
use Rattle.stm_journaled_run.specs.declared.session.Taken.{Taken}
use Rattle.stm_journaled_run.specs.declared.session.Taken.TheVariants.{Unmade, Streamed}
use Rattle.stm_journaled_run.specs.DurableRun.{KeepsConsoles}
use Rattle.stm_journaled_run.specs.Committing.{no_checkpoint_text, has_begun, HasNotTaken, HasTakenLine}
use Rattle.stm_journaled_run.proofs.Committing.{reply_text, streamed_step}
use Rattle.stm_journaled_run.proofs.Taking.{asked_state, asked_text, refused_is, taken_as, unrefused}

module _ {D : Type 0} (disk : Disk D) (old new : HistoryFile D) (every : ℕ) (s t u : Console) (line before mid after : List ℕ) (n n' m : ℕ) where
  -- the line asked for it
  pub asked_taken : (r : Result Taken DurableFault) → step s line ≡ asked_checkpoint_step t → t ≡ Open (present_desk s) → n' ≡ n → mid ≡ before → not (are_tickets_full (present_desk s)) ≡ line_checkpoints s line
      → IfOk r (λ k. k ≡ Unmade → are_tickets_full (present_desk t) ≡ false)
      → IfOk r (λ k. HasTakenLine disk old new (asked_checkpoint_step t) (t, no_checkpoint_text) u mid after n' m k)
      → IfOk r (λ k. HasTakenLine disk old new (made_step every s line) (refused_step s line) u before after n m k)
  asked_taken (Err e) is opened count text told room h = tt
  asked_taken (Ok k) is opened count text told room h =
      taken_as disk old new (asked_checkpoint_step t) (made_step every s line) (t, no_checkpoint_text) (refused_step s line) u before mid after n' n m k count
      (asked_state every s t line is opened)
      (ap₂ (λ (a b : List ℕ). a ++ b) text (asked_text every s t line is opened))
      (λ unmade. let v = refused_is every s t line is opened (room unmade) told in (
        ap (λ (p : Console × List ℕ). p.0) v,
        ap (λ (x : List ℕ). x ++ no_checkpoint_text) text ∙ ap (λ (p : Console × List ℕ). before ++ p.1) v,
      ))
      h

  -- it is due after the line
  pub due_taken : (r : Result Taken DurableFault) → (asked_checkpoint_step t).0 ≡ auto_step every s t → t ≡ (step s line).0 → mid ≡ before ++ (step s line).1 → n' ≡ n → false ≡ line_checkpoints s line
      → IfOk r (λ k. HasTakenLine disk old new ((asked_checkpoint_step t).0, []) (t, []) u mid after n' m k)
      → IfOk r (λ k. HasTakenLine disk old new (made_step every s line) (refused_step s line) u before after n m k)
  due_taken (Err e) is state text count makes h = tt
  due_taken (Ok k) is state text count makes h =
      taken_as disk old new ((asked_checkpoint_step t).0, []) (made_step every s line) (t, []) (refused_step s line) u before mid after n' n m k count
      (is ∙ ap (auto_step every s) state)
      (append-nil mid ∙ text)
      (λ unmade. let v = unrefused s line makes in (
        state ∙ ap (λ (p : Console × List ℕ). p.0) v,
        append-nil mid ∙ text ∙ ap (λ (p : Console × List ℕ). before ++ p.1) v,
      ))
      h

  -- what is left of its answer is to be streamed
  pub streamed_taken : (r : Reply) → r ≢ reply.Text → r ≢ reply.Checkpoint → IsStep r before mid t (step s line) → (is_streamed r ≡ true → events_of t ≡ events_of s) → n' ≡ n → KeepsConsoles disk old new
      → HasTakenLine disk old new (made_step every s line) (refused_step s line) t before mid n n' (Streamed r)
  streamed_taken reply.Text text asks h same count keeps = absurd (text refl)
  streamed_taken reply.Checkpoint text asks h same count keeps = absurd (asks refl)
  streamed_taken reply.History text asks h same count keeps =
      (streamed_step every s t (same refl) ∙ ap (auto_step every s) h.0, reply_text reply.History before mid t (step s line).1 refl h.1, count, keeps)
  streamed_taken (reply.Events k) text asks h same count keeps =
      (streamed_step every s t (same refl) ∙ ap (auto_step every s) h.0, reply_text (reply.Events k) before mid t (step s line).1 refl h.1, count, keeps)

-- what holds of the console before a checkpoint that wasn't made holds after it
pub unless_begun : (P : Console → Type 0) (t u : Console) (r : Result Taken DurableFault) → P t → IfOk r (λ k. has_begun k ≡ false → u ≡ t) → IfOk r (λ k. has_begun k ≡ false → P u)
unless_begun P t u (Err e) p same = tt
unless_begun P t u (Ok k) p same = λ not_begun. subst P (sym (same not_begun)) p

-- the console that a checkpoint would have made
pub unmade_fault : {D : Type 0} (disk : Disk D) (old new : HistoryFile D) (r : Result Taken DurableFault) (made made' : Console) → made ≡ made' → IfErr r (HasNotTaken disk old new made) → IfErr r (HasNotTaken disk old new made')
unmade_fault disk old new r made made' is h = subst (λ (s : Console). IfErr r (HasNotTaken disk old new s)) is h
