-- How a session ends, by what its last call returned.
use Rattle.std.proofs.Common.{◌≡◌, ◌≢◌, inr, ℕ, List, Bool, false, IsTrue, Option, Result, Ok, Err, OnOk, IfErr, IfSome, sym, subst}
use Rattle.std.specs.Prelude.{MatchBool}
use Rattle.std.specs.Io.KnownBytes.{Appends}
use Rattle.stm_journal.specs.declared.sync_mode.SyncMode.{SyncMode}
use Rattle.stm_journal.specs.Disk.{Disk}
use Rattle.stm_lines.specs.Lines.{lines_of}
use Rattle.stm_lines.specs.declared.run_fault.RunFault.{RunFault}
use Rattle.stm_lines.specs.declared.run_fault.RunFault.TheVariants.{Read}
use Rattle.stm_run.specs.declared.console.Console.{Console}
use Rattle.stm_run.specs.LineCheckpoints.{ForTurns, states_after, turn_lines}
use Rattle.stm_journaled_run.specs.declared.fault.DurableFault.{DurableFault}
use Rattle.stm_journaled_run.specs.declared.fault.DurableFault.TheVariants.{Run, Journal}
use Rattle.stm_journaled_run.specs.DurableRun.{LeavesBetween, RunsUnlessDisk}
use Rattle.stm_journaled_run.specs.Committing.{HasCome, HasComeToEnd, HasFinished, HasNotWritten}
use Rattle.stm_journaled_run.proofs.Committing.{finished, failed}
use Rattle.stm_journaled_run.proofs.Running.{FailedOver, all_finished, failed_run, failed_synced, last_begins}

-- an error that is passed on
pub passed_fault : (P : DurableFault → Type 0) (r : Result Unit DurableFault) (f e : DurableFault) → r ≡ Err f → f ≡ e → P e → IfErr r P
passed_fault P r f e is same h = subst (λ (q : Result Unit DurableFault). IfErr q P) (sym is) (subst P (sym same) h)

-- faults of a run aren't the journal's
pub run_cause : {D : Type 0} (disk : Disk D) (f : RunFault) → RunsUnlessDisk disk (Run f)
run_cause disk f = λ honest. record { failed = λ e. absurd (cc e); no_space = λ e. absurd (cc e); torn_too_long = λ e. cc e }

pub same_fault : (f e : RunFault) → Run f ≡ Run e → f ≡ e
same_fault f e is = cc is

-- what a commit leaves unwritten is no fault of the reader
pub not_read : (e : DurableFault) (old new : Option (List ℕ)) (text : List ℕ) (kept : Type 0) → HasNotWritten e old new text kept → e ≢ Run Read
not_read (Run f) old new text kept h = λ i. h.0 (cc i)
not_read (Journal f) old new text kept h = λ i. cc i

module _ {Cause : Type 0} (K : Console → Type 0) (every : ℕ) (s : Console) (input old new : Option (List ℕ)) (console : Console) (held : List ℕ) (recorded : ℕ) where
  -- no line is left
  pub come_to_end : (rest : Option (List ℕ)) (more : Bool) → more ≡ false → MatchBool more (HasCome Cause K every s input rest old new console held recorded) (HasComeToEnd Cause K every s input old new console held recorded)
      → HasComeToEnd Cause K every s input old new console held recorded
  come_to_end rest more is h = subst (λ (b : Bool). MatchBool b (HasCome Cause K every s input rest old new console held recorded) (HasComeToEnd Cause K every s input old new console held recorded)) is h

  module _ (h : HasComeToEnd Cause K every s input old new console held recorded) (K' : Console → Type 0) (later : Option (List ℕ)) where
    -- what is held was written
    pub ended : (r : Result Unit DurableFault) → OnOk r (Appends new later held) → OnOk r (K' console) → OnOk r (IfSome input (λ bytes. ForTurns Cause (lines_of bytes) (λ turns. HasFinished K' every s turns old later)))
    ended (Ok x) w k = all_finished K' every s h.lines input old later h.lines_are (finished K every s h.lines old new console held recorded h.after.behind K' later w k)
    ended (Err e) w k = tt

    -- it wasn't
    pub unended : (r : Result Unit DurableFault) (honest : Bool) (sync same : SyncMode) (zeros : Bool) (may_leave : List ℕ → Type 0) → sync ≡ same → IfErr r (λ e. HasNotWritten e new later held (K' console))
        → (IsTrue honest → (c : List ℕ) → may_leave c → LeavesBetween sync zeros (states_after every s h.after.behind.answered) console c)
        → IfErr r (FailedOver Cause honest same zeros may_leave K' every s input old later)
    unended (Ok x) honest sync same zeros may_leave is p left = tt
    unended (Err e) honest sync same zeros may_leave is p left =
        failed_synced Cause honest sync same zeros may_leave K' every s input old later e is
        (failed_run honest sync zeros may_leave K' every s h.lines input old later e (last_begins (turn_lines h.lines) input h.lines_are)
        (failed K every s h.lines old new console held recorded h.after.behind honest sync zeros may_leave K' later e p (λ real c l. inr (left real c l))))
