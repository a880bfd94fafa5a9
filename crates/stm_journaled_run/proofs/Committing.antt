-- A line more, and what a commit makes of it.
use Rattle.std.proofs.Common.{◌≡◌, ◌≢◌, ⊎_elim, ℕ, ◌≤◌, List, [], ◌∷◌, ◌++◌, length, Bool, true, false, cond, IsTrue, Option, Some, None, Result, Ok, Err, OnOk, IfErr, refl, sym, ap, ap₂, ◌∙◌, subst, arith, append_assoc, append-nil}
use Rattle.std.specs.Prelude.{◌⊎◌, MatchBool, IfOk}
use Rattle.std.specs.Io.KnownBytes.{Appends}
use Rattle.std.proofs.KnownBytes.{Appends-trans}
use Rattle.std.proofs.lemmas.Bool.{le-ltb}
use Rattle.stm_terms.specs.Texts.{IsPrefixOf}
use Rattle.stm_journal.specs.declared.sync_mode.SyncMode.{SyncMode}
use Rattle.stm_lines.specs.LineClass.{line_class}
use Rattle.stm_lines.specs.WrittenFronts.{WritesFront}
use Rattle.stm_lines.specs.declared.run_fault.RunFault.{RunFault}
use Rattle.stm_lines.specs.declared.run_fault.RunFault.TheVariants.{Read}
use Rattle.stm_run.specs.declared.console.Console.{Console}
use Rattle.stm_run.specs.declared.reply.Reply.{Reply}
use Rattle.stm_run.specs.declared.reply.Reply.TheVariants as reply
use Rattle.stm_run.specs.Abstraction.{IsReply, IsStep}
use Rattle.stm_run.specs.Console.{state_after, class_step, step}
use Rattle.stm_run.specs.declared.console.Console.TheVariants.{Declaring, Open}
use Rattle.stm_run.specs.ConsoleState.{present_desk, table_of, events_of, with_checkpoint}
use Rattle.stm_run.specs.Fitting.{VariablesFit, VariablesStayFit}
use Rattle.stm_run.specs.Growing.{Grows}
use Rattle.stm_run.specs.LineCheckpoints.{auto_checkpoint, auto_step, class_checkpoints, line_checkpoints, asks_checkpoint, reply_checkpoints, Turn, turn_of, line_step, state_after_turn, answer_by, states_after, answers_by}
use Rattle.stm_run.proofs.EventsOfConsole.{consoles_grow, grows_not, grows_trans}
use Rattle.stm_journaled_run.specs.declared.fault.DurableFault.{DurableFault}
use Rattle.stm_journaled_run.specs.declared.fault.DurableFault.TheVariants.{Run, Journal}
use Rattle.stm_journaled_run.specs.DurableRun.{LeavesBetween, CoversAnswers}
use Rattle.stm_journaled_run.specs.Committing.{MayCommit, MayBeginAnew, IsBehind, IsAfterLines, streamed_text, no_checkpoint_text, HasFinished, HasNotWritten, HasEndedAtRest, HasFailed}
use Rattle.stm_journaled_run.specs.NewEvents.{MayBeginRun}
use Rattle.stm_journaled_run.proofs.NewEvents.{grown_begins}

-- ---- lines after lines
pub after_append : {Cause : Type 0} (every : ℕ) (s : Console) (xs ys : List (Turn Cause)) → states_after every s (xs ++ ys) ≡ states_after every (states_after every s xs) ys
after_append every s [] ys = refl
after_append every s (x ∷ xs) ys = after_append every (state_after_turn every s x) xs ys

pub answers_append : {Cause : Type 0} (every : ℕ) (s : Console) (xs ys : List (Turn Cause)) → answers_by every s (xs ++ ys) ≡ answers_by every s xs ++ answers_by every (states_after every s xs) ys
answers_append every s [] ys = refl
answers_append every s (x ∷ xs) ys =
    let t = state_after_turn every s x in
    ap (λ (l : List ℕ). answer_by every s x ++ l) (answers_append every t xs ys) ∙ sym (append_assoc (answer_by every s x) (answers_by every t xs) (answers_by every (states_after every t xs) ys))

-- of a line no more counts than how it is judged
pub same_step : (s : Console) (line judged : List ℕ) → line_class line ≡ line_class judged → step s line ≡ step s judged
unfolding step
same_step s line judged e = ap (class_step s) e

same_checkpoints : (s : Console) (line judged : List ℕ) → line_class line ≡ line_class judged → line_checkpoints s line ≡ line_checkpoints s judged
unfolding line_checkpoints
same_checkpoints s line judged e = ap (class_checkpoints s) e

pub same_line_step : {Cause : Type 0} (every : ℕ) (s : Console) (line judged : List ℕ) (refused : Option Cause) → line_class line ≡ line_class judged → line_step every s line refused ≡ line_step every s judged refused
same_line_step every s line judged None e = ap (λ (p : Console × List ℕ). (auto_step every s p.0, p.1)) (same_step s line judged e)
same_line_step every s line judged (Some cause) e =
    ap₂ (λ (b : Bool) (p : Console × List ℕ). cond {A = Console × List ℕ} b (Open (present_desk s), no_checkpoint_text) p) (same_checkpoints s line judged e) (same_step s line judged e)

-- ---- what is written of a reply
pub reply_text : (r : Reply) (old new : List ℕ) (c : Console) (answer : List ℕ) → asks_checkpoint r ≡ false → IsReply r old new c answer → new ++ streamed_text r c ≡ old ++ answer
reply_text reply.Text old new c answer told h = append-nil new ∙ h
reply_text reply.History old new c answer told h = ap₂ (λ (a b : List ℕ). a ++ b) h.0 (sym h.1)
reply_text (reply.Events n) old new c answer told h = ap₂ (λ (a b : List ℕ). a ++ b) h.0 (sym h.1)
reply_text reply.Checkpoint old new c answer told h = absurd (cc told)

-- a line that adds no event makes none due
pub none_due : (every : ℕ) (s t : Console) → length (events_of t) ≤ length (events_of s) → auto_step every s t ≡ t
none_due every s t h = ap (λ (b : Bool). cond {A = Console} b (auto_checkpoint every t) t) (le-ltb (length (events_of s)) (length (events_of t)) h)

pub streamed_step : (every : ℕ) (s t : Console) → events_of t ≡ events_of s → t ≡ auto_step every s t
streamed_step every s t e = let n : length (events_of t) ≡ length (events_of s) = ap length e in sym (none_due every s t (omega arith))

-- ---- what a line leaves, by its reply
pub grows_opened : (s : Console) → Grows s (Open (present_desk s))
grows_opened (Declaring table limit) = record { added = []; events = refl; of_console = tt; same_start = refl; opened = λ e. absurd (cc e) }
grows_opened (Open d) = grows_not (Open d)

grown_by_step : (s t : Console) (line : List ℕ) → false ≡ line_checkpoints s line → t ≡ state_after s line → Grows s t
grown_by_step s t line makes is =
    subst (Grows s) (sym is) (subst (λ (b : Bool). MatchBool b (state_after s line ≡ with_checkpoint s) (Grows s (state_after s line))) (sym makes) (consoles_grow s line))

fit_after_step : (s t : Console) (line : List ℕ) → VariablesStayFit → t ≡ state_after s line → VariablesFit (table_of s) → VariablesFit (table_of t)
fit_after_step s t line law is v = subst (λ (c : Console). VariablesFit (table_of c)) (sym is) (law s (line ∷ []) v)

module _ {X : Type 0} (s t : Console) (line old new : List ℕ) where
  abbrev Told : Result Reply X → Type 0
  Told r = IfOk r (λ r. IsStep r old new t (step s line)) × IfOk r (λ r. asks_checkpoint r ≡ true → t ≡ Open (present_desk s))
      × IfOk r (λ r. reply_checkpoints (present_desk s) r ≡ line_checkpoints s line)

  -- it lets the console grow, if its checkpoint isn't made
  pub grown_by_line : (r : Result Reply X) → Told r → OnOk r (Grows s t)
  grown_by_line (Err x) h = tt
  grown_by_line (Ok reply.Text) h = grown_by_step s t line h.2 h.0.0
  grown_by_line (Ok reply.History) h = grown_by_step s t line h.2 h.0.0
  grown_by_line (Ok (reply.Events n)) h = grown_by_step s t line h.2 h.0.0
  grown_by_line (Ok reply.Checkpoint) h = subst (Grows s) (sym (h.1 refl)) (grows_opened s)

  -- the variables can still be in lines
  pub fit_after_line : VariablesStayFit → (r : Result Reply X) → Told r → OnOk r (VariablesFit (table_of s) → VariablesFit (table_of t))
  fit_after_line law (Err x) h = tt
  fit_after_line law (Ok reply.Text) h = fit_after_step s t line law h.0.0
  fit_after_line law (Ok reply.History) h = fit_after_step s t line law h.0.0
  fit_after_line law (Ok (reply.Events n)) h = fit_after_step s t line law h.0.0
  fit_after_line law (Ok reply.Checkpoint) h = λ v. subst (λ (c : Console). VariablesFit (table_of c)) (sym (h.1 refl)) v

-- ---- a run after some lines
abbrev pub may_commit : {Cause : Type 0} (K : Console → Type 0) (every : ℕ) (s : Console) (lines : List (Turn Cause)) (old new : Option (List ℕ)) (console : Console) (held : List ℕ) (recorded : ℕ)
    → IsAfterLines K every s lines old new console held recorded → MayCommit K console recorded
may_commit K every s lines old new console held recorded a =
    record {
      committed = states_after every s a.behind.answered;
      may_begin = a.behind.may_begin;
      grows = a.grows;
      variables = a.variables;
      count = a.behind.count;
      kept = a.behind.kept;
    }

module _ {Cause : Type 0} (K : Console → Type 0) (every : ℕ) (s : Console) (lines : List (Turn Cause)) (old new : Option (List ℕ)) (console : Console) (held : List ℕ) (recorded : ℕ) (a : IsBehind K every s lines old new console held recorded) where
  -- one line more, whose answer is held
  unfoldable pub line_more : (line judged : List ℕ) (refused : Option Cause) (next : Console) (more : List ℕ) (count : ℕ) → line_class line ≡ line_class judged → next ≡ (line_step every console line refused).0 → more ≡ held ++ (line_step every console line refused).1 → count ≡ recorded
      → IsBehind K every s (lines ++ turn_of judged refused ∷ []) old new next more count
  line_more line judged refused next more count same e h n =
      let x = states_after every s a.answered in
      let turn : Turn Cause = turn_of judged refused in
      let one = same_line_step every console line judged refused same in
      record {
        answered = a.answered;
        awaiting = a.awaiting ++ turn ∷ [];
        parts = ap (λ (l : List (Turn Cause)). l ++ turn ∷ []) a.parts ∙ append_assoc a.answered a.awaiting (turn ∷ []);
        may_begin = a.may_begin;
        appended = a.appended;
        since = e ∙ ap (λ (p : Console × List ℕ). p.0) one ∙ ap (λ (c : Console). state_after_turn every c turn) a.since ∙ sym (after_append every x a.awaiting (turn ∷ []));
        held_is = h ∙ ap (λ (p : Console × List ℕ). held ++ p.1) one ∙ ap₂ (λ (t : List ℕ) (c : Console). t ++ answer_by every c turn) a.held_is a.since
            ∙ ap (λ (t : List ℕ). answers_by every x a.awaiting ++ t) (sym (append-nil (answer_by every (states_after every x a.awaiting) turn))) ∙ sym (answers_append every x a.awaiting (turn ∷ []));
        count = n ∙ a.count;
        kept = a.kept;
      }

  console_is : console ≡ states_after every s lines
  console_is = a.since ∙ sym (after_append every s a.answered a.awaiting) ∙ ap (states_after every s) (sym a.parts)

  texts_are : answers_by every s a.answered ++ held ≡ answers_by every s lines
  texts_are = ap (λ (t : List ℕ). answers_by every s a.answered ++ t) a.held_is ∙ sym (answers_append every s a.answered a.awaiting) ∙ ap (answers_by every s) (sym a.parts)

  -- all was written, and the file has the history
  pub all_written : (K' : Console → Type 0) (later : Option (List ℕ)) (next : Console) (none : List ℕ) (count : ℕ) → Appends new later held → next ≡ console → none ≡ [] → count ≡ length (events_of console) → K' console
      → MayBeginRun console → IsAfterLines K' every s lines old later next none count
  all_written K' later next none count w e h n k may =
      let is = console_is in
      record {
        behind = record {
          answered = lines;
          awaiting = [];
          parts = sym (append-nil lines);
          may_begin = subst MayBeginRun is may;
          appended = subst (Appends old later) texts_are (Appends-trans old new later (answers_by every s a.answered) held a.appended w);
          since = e ∙ is;
          held_is = h;
          count = n ∙ ap (λ (c : Console). length (events_of c)) is;
          kept = subst K' is k;
        };
        grows = subst (Grows (states_after every s lines)) (sym (e ∙ is)) (grows_not (states_after every s lines));
        variables = subst (λ (c : Console). VariablesFit (table_of c)) (sym e) may.variables;
      }

  pub finished : (K' : Console → Type 0) (later : Option (List ℕ)) → Appends new later held → K' console → HasFinished K' every s lines old later
  finished K' later w k = record {
    appended = subst (Appends old later) texts_are (Appends-trans old new later (answers_by every s a.answered) held a.appended w);
    kept = subst K' console_is k;
  }

  -- memory ran out before anything was written
  pub stopped_before : (K' : Console → Type 0) → K' (states_after every s a.answered) → HasEndedAtRest K' every s lines old new
  stopped_before K' k = record {
    answered = a.answered;
    others = a.awaiting;
    parts = a.parts;
    written = answers_by every s a.answered;
    front = ([], sym (append-nil (answers_by every s a.answered)));
    appended = a.appended;
    kept = k;
  }

  -- the reader failed after a commit
  pub stopped_after : (K' : Console → Type 0) (later : Option (List ℕ)) → Appends new later held → K' console → HasEndedAtRest K' every s lines old later
  stopped_after K' later w k = record {
    answered = lines;
    others = [];
    parts = sym (append-nil lines);
    written = answers_by every s lines;
    front = ([], sym (append-nil (answers_by every s lines)));
    appended = subst (Appends old later) texts_are (Appends-trans old new later (answers_by every s a.answered) held a.appended w);
    kept = subst K' console_is k;
  }

  -- the writer failed in what is held
  pub stopped_in : (K' : Console → Type 0) (later : Option (List ℕ)) (front : List ℕ) → IsPrefixOf front held → Appends new later front → K' console → HasEndedAtRest K' every s lines old later
  stopped_in K' later front p w k = record {
    answered = lines;
    others = [];
    parts = sym (append-nil lines);
    written = answers_by every s a.answered ++ front;
    front = (p.0, sym texts_are ∙ ap (λ (t : List ℕ). answers_by every s a.answered ++ t) p.1 ∙ sym (append_assoc (answers_by every s a.answered) front p.0));
    appended = Appends-trans old new later (answers_by every s a.answered) front a.appended w;
    kept = subst K' console_is k;
  }

  -- what a crash leaves of a commit: all that the file had, or some of what is recorded
  abbrev pub LeavesCommit : SyncMode → Bool → List ℕ → Type 0
  LeavesCommit sync zeros c =
      LeavesBetween sync zeros (states_after every s a.answered) (states_after every s a.answered) c ⊎ LeavesBetween sync zeros (states_after every s a.answered) console c

  module _ (sync : SyncMode) (zeros : Bool) (c : List ℕ) (written : List ℕ) (front : IsPrefixOf written (answers_by every s a.answered)) where
    covers_old : LeavesBetween sync zeros (states_after every s a.answered) (states_after every s a.answered) c → CoversAnswers sync zeros every s lines written c
    covers_old h = record {
      answered = a.answered;
      others = a.awaiting;
      parts = a.parts;
      front = front;
      reached = [];
      unreached = a.awaiting;
      parts_reached = refl;
      left = subst (λ (ls : List (Turn Cause)). LeavesBetween sync zeros (states_after every s a.answered) (states_after every s ls) c) (sym (append-nil a.answered)) h;
    }

    covers_new : LeavesBetween sync zeros (states_after every s a.answered) console c → CoversAnswers sync zeros every s lines written c
    covers_new h = record {
      answered = a.answered;
      others = a.awaiting;
      parts = a.parts;
      front = front;
      reached = a.awaiting;
      unreached = [];
      parts_reached = sym (append-nil a.awaiting);
      left = subst (λ (t : Console). LeavesBetween sync zeros (states_after every s a.answered) t c) (a.since ∙ sym (after_append every s a.answered a.awaiting)) h;
    }

    covers : LeavesCommit sync zeros c → CoversAnswers sync zeros every s lines written c
    covers h = ⊎_elim covers_old covers_new h

  pub covers_answered : (sync : SyncMode) (zeros : Bool) (c : List ℕ) → LeavesCommit sync zeros c → CoversAnswers sync zeros every s lines (answers_by every s a.answered) c
  covers_answered sync zeros c h = covers sync zeros c (answers_by every s a.answered) ([], sym (append-nil (answers_by every s a.answered))) h

  pub covers_none : (sync : SyncMode) (zeros : Bool) (c : List ℕ) → LeavesCommit sync zeros c → CoversAnswers sync zeros every s lines [] c
  covers_none sync zeros c h = covers sync zeros c [] (answers_by every s a.answered, refl) h

  -- a commit failed
  pub failed : (honest : Bool) (sync : SyncMode) (zeros : Bool) (may_leave : List ℕ → Type 0) (K' : Console → Type 0) (later : Option (List ℕ)) (e : DurableFault) → HasNotWritten e new later held (K' console)
      → (IsTrue honest → (c : List ℕ) → may_leave c → LeavesCommit sync zeros c) → HasFailed honest sync zeros may_leave K' every s lines old later e
  failed honest sync zeros may_leave K' later (Run f) h left = stopped_in K' later h.1 h.2 h.3 h.4
  failed honest sync zeros may_leave K' later (Journal e) h left = record {
    answered = a.answered;
    others = a.awaiting;
    parts = a.parts;
    appended = subst (Appends old later) (append-nil (answers_by every s a.answered)) (Appends-trans old new later (answers_by every s a.answered) [] a.appended h);
    covered = λ real c l. covers_answered sync zeros c (left real c l);
  }

-- a checkpoint may be made after it
abbrev pub anew_after : (K : Console → Type 0) (s t : Console) (recorded : ℕ) → Grows s t → VariablesFit (table_of t) → MayCommit K s recorded → MayBeginAnew K (with_checkpoint t)
anew_after K s t recorded g v c = record { committed = c.committed; before = t; may_begin = c.may_begin; grows = grows_trans c.committed s t c.grows g; variables = v; made = refl; kept = c.kept }

-- what is committed may begin a run
pub may_begin_next : {Cause : Type 0} (K : Console → Type 0) (every : ℕ) (s : Console) (lines : List (Turn Cause)) (old new : Option (List ℕ)) (console : Console) (held : List ℕ) (recorded : ℕ) → IsAfterLines K every s lines old new console held recorded
    → MayBeginRun console
may_begin_next K every s lines old new console held recorded a = grown_begins (states_after every s a.behind.answered) console a.behind.may_begin a.grows a.variables

-- one line more after which no checkpoint was made
pub held_more : {Cause : Type 0} (K : Console → Type 0) (every : ℕ) (s : Console) (lines : List (Turn Cause)) (old new : Option (List ℕ)) (console : Console) (held : List ℕ) (recorded : ℕ) → IsAfterLines K every s lines old new console held recorded
    → (line judged : List ℕ) (refused : Option Cause) (next : Console) (more : List ℕ) (count : ℕ) → line_class line ≡ line_class judged → next ≡ (line_step every console line refused).0 → more ≡ held ++ (line_step every console line refused).1 → count ≡ recorded
    → Grows console next → VariablesFit (table_of next) → IsAfterLines K every s (lines ++ turn_of judged refused ∷ []) old new next more count
unfolding line_more
held_more K every s lines old new console held recorded a line judged refused next more count same e h n g v = record {
  behind = line_more K every s lines old new console held recorded a.behind line judged refused next more count same e h n;
  grows = grows_trans (states_after every s a.behind.answered) console next a.grows g;
  variables = v;
}

-- another file keeps what this one kept
pub behind_kept : {Cause : Type 0} (K K' : Console → Type 0) (every : ℕ) (s : Console) (lines : List (Turn Cause)) (old new : Option (List ℕ)) (console : Console) (held : List ℕ) (recorded : ℕ)
    → ((c : Console) → K c → K' c) → IsBehind K every s lines old new console held recorded → IsBehind K' every s lines old new console held recorded
behind_kept K K' every s lines old new console held recorded keeps a = record {
  answered = a.answered;
  awaiting = a.awaiting;
  parts = a.parts;
  may_begin = a.may_begin;
  appended = a.appended;
  since = a.since;
  held_is = a.held_is;
  count = a.count;
  kept = keeps (states_after every s a.answered) a.kept;
}

pub after_kept : {Cause : Type 0} (K K' : Console → Type 0) (every : ℕ) (s : Console) (lines : List (Turn Cause)) (old new : Option (List ℕ)) (console : Console) (held : List ℕ) (recorded : ℕ)
    → ((c : Console) → K c → K' c) → IsAfterLines K every s lines old new console held recorded → IsAfterLines K' every s lines old new console held recorded
unfolding behind_kept
after_kept K K' every s lines old new console held recorded keeps a = record {
  behind = behind_kept K K' every s lines old new console held recorded keeps a.behind;
  grows = a.grows;
  variables = a.variables;
}

-- ---- what a commit and what follows it wrote
-- a part of what is streamed was written after a commit
pub unstreamed : (f : RunFault) (old mid new : Option (List ℕ)) (held text : List ℕ) (kept : Type 0) → f ≢ Read → Appends old mid held → WritesFront mid new text → kept → HasNotWritten (Run f) old new (held ++ text) kept
unstreamed f old mid new held text kept not w p h =
    (not, held ++ p.0, (p.1.0, ap (λ (t : List ℕ). held ++ t) p.1.1 ∙ sym (append_assoc held p.0 p.1.0)), Appends-trans old mid new held p.0 w p.2, h)

-- ---- by the result
pub on_done : {A B C X G : Type 0} (r : Result Unit X) → OnOk r A → OnOk r B → OnOk r C → OnOk r G → (H : Type 0) → (A → B → C → G → H) → OnOk r H
on_done (Ok x) a b c k H f = f a b c k
on_done (Err x) a b c k H f = tt

pub on_ok : {T E A B : Type 0} (r : Result T E) → OnOk r A → (A → B) → OnOk r B
on_ok (Ok x) h f = f h
on_ok (Err e) h f = tt

pub on_fault : {T E : Type 0} (r : Result T E) (P Q : E → Type 0) → IfErr r P → ((e : E) → P e → Q e) → IfErr r Q
on_fault (Ok x) P Q p f = tt
on_fault (Err e) P Q p f = f e p
