-- What a crash leaves while a run goes on.
use Rattle.std.proofs.Common.{◌≡◌, ◌⊎◌, inl, inr, ℕ, List, [], Bool, Option, Some, None, subst}
use Rattle.stm_journal.specs.declared.sync_mode.SyncMode.{SyncMode}
use Rattle.stm_journal.specs.Disk.{Disk, LeavesOnly}
use Rattle.stm_history_file.specs.declared.recording.HistoryFile.{HistoryFile}
use Rattle.stm_journal.proofs.Moments.{joined, weaker}
use Rattle.stm_lines.specs.Lines.{lines_of}
use Rattle.stm_run.specs.declared.console.Console.{Console}
use Rattle.stm_run.specs.LineCheckpoints.{Turn, turn_lines, states_after}
use Rattle.stm_run.proofs.EventsOfConsole.{grows_not}
use Rattle.stm_journaled_run.specs.DurableRun.{ConsoleKept, LeavesBetween, CoversAnswers}
use Rattle.stm_journaled_run.specs.Committing.{IsBehind, LeavesRun}
use Rattle.stm_journaled_run.proofs.Committing.{covers_none}
use Rattle.stm_journaled_run.proofs.Ended.{covers_still}
use Rattle.stm_journaled_run.proofs.RecordedEvents.{between_still}
use Rattle.stm_journaled_run.proofs.Running.{BeginsWith, leaves_run}
use Rattle.stm_journaled_run.proofs.Turns.{plains, lines_of_plains}

module _ {D : Type 0} (Cause : Type 0) (disk : Disk D) (sync : SyncMode) (zeros : Bool) (every : ℕ) (s : Console) where
  -- a run after another
  pub runs_on : (input : Option (List ℕ)) (old mid new : D) (same : SyncMode) → same ≡ sync → LeavesOnly disk old mid (LeavesRun Cause sync zeros every s input) → LeavesOnly disk mid new (LeavesRun Cause same zeros every s input) → LeavesOnly disk old new (LeavesRun Cause sync zeros every s input)
  runs_on input old mid new same e first next =
      joined disk old mid new (LeavesRun Cause sync zeros every s input) (LeavesRun Cause same zeros every s input) (LeavesRun Cause sync zeros every s input) first next (λ c h. h)
      (λ c h. subst (λ (m : SyncMode). LeavesRun Cause m zeros every s input c) e h)

  -- some lines after others
  pub lines_on : (lines : List (Turn Cause)) (old mid new : D) (same : SyncMode) → same ≡ sync → LeavesOnly disk old mid (CoversAnswers sync zeros every s lines []) → LeavesOnly disk mid new (CoversAnswers same zeros every s lines [])
      → LeavesOnly disk old new (CoversAnswers sync zeros every s lines [])
  lines_on lines old mid new same e first next =
      joined disk old mid new (CoversAnswers sync zeros every s lines []) (CoversAnswers same zeros every s lines []) (CoversAnswers sync zeros every s lines []) first next (λ c h. h)
      (λ c h. subst (λ (m : SyncMode). CoversAnswers m zeros every s lines [] c) e h)

  module _ (K : Console → Type 0) (lines : List (Turn Cause)) (x y : Option (List ℕ)) (console : Console) (held : List ℕ) (recorded : ℕ) (a : IsBehind K every s lines x y console held recorded) where
    abbrev Left : List ℕ → Type 0
    Left c = LeavesBetween sync zeros (states_after every s a.answered) (states_after every s a.answered) c ⊎ LeavesBetween sync zeros (states_after every s a.answered) console c

    -- a commit
    pub lines_run : (old new : D) → LeavesOnly disk old new Left → LeavesOnly disk old new (CoversAnswers sync zeros every s lines [])
    lines_run old new run =
        weaker disk old new Left (CoversAnswers sync zeros every s lines []) run
        (covers_none K every s lines x y console held recorded a sync zeros)

    -- events alone were recorded
    pub events_run : (old new : D) → LeavesOnly disk old new (LeavesBetween sync zeros (states_after every s a.answered) console) → LeavesOnly disk old new (CoversAnswers sync zeros every s lines [])
    events_run old new run = lines_run old new (weaker disk old new (LeavesBetween sync zeros (states_after every s a.answered) console) Left run (λ c h. inr h))

    -- nothing is recorded
    pub lines_still : (f : HistoryFile D) → f.journal.sync ≡ sync → disk.fills_with_zeros ≡ zeros → ConsoleKept disk f (states_after every s a.answered)
        → ((c : List ℕ) → disk.left_since f.journal.device (disk.moment f.journal.device) c → disk.may_leave f.journal.device c)
        → LeavesOnly disk f.journal.device f.journal.device (CoversAnswers sync zeros every s lines [])
    lines_still f same filled k now =
        let t = states_after every s a.answered in
        lines_run f.journal.device f.journal.device
        (weaker disk f.journal.device f.journal.device (LeavesBetween f.journal.sync disk.fills_with_zeros t t) Left
        (between_still disk f t t (grows_not t) k now)
        (λ c h. inl (subst (λ (m : SyncMode). LeavesBetween m zeros t t c) same (subst (λ (z : Bool). LeavesBetween f.journal.sync z t t c) filled h))))

  -- the lines are the first of the input
  pub input_run : (lines : List (Turn Cause)) (input : Option (List ℕ)) (old new : D) → BeginsWith (turn_lines lines) input → LeavesOnly disk old new (CoversAnswers sync zeros every s lines []) → LeavesOnly disk old new (LeavesRun Cause sync zeros every s input)
  input_run lines input old new b run =
      weaker disk old new (CoversAnswers sync zeros every s lines []) (LeavesRun Cause sync zeros every s input) run (λ c h. leaves_run sync zeros every s lines input c b h)

  -- before the first line
  pub run_still : (input : Option (List ℕ)) (f : HistoryFile D) → f.journal.sync ≡ sync → disk.fills_with_zeros ≡ zeros → ConsoleKept disk f s
      → ((c : List ℕ) → disk.left_since f.journal.device (disk.moment f.journal.device) c → disk.may_leave f.journal.device c)
      → LeavesOnly disk f.journal.device f.journal.device (LeavesRun Cause sync zeros every s input)
  run_still input f same filled k now =
      weaker disk f.journal.device f.journal.device (LeavesBetween f.journal.sync disk.fills_with_zeros s s) (LeavesRun Cause sync zeros every s input)
      (between_still disk f s s (grows_not s) k now)
      (λ c h. by input c (subst (λ (m : SyncMode). LeavesBetween m zeros s s c) same (subst (λ (z : Bool). LeavesBetween f.journal.sync z s s c) filled h)))
    where
      by : (i : Option (List ℕ)) (c : List ℕ) → LeavesBetween sync zeros s s c → LeavesRun Cause sync zeros every s i c
      by None c h = tt
      by (Some i) c h = (plains Cause (lines_of i), lines_of_plains Cause (lines_of i), covers_still every s (plains Cause (lines_of i)) sync zeros c h)
