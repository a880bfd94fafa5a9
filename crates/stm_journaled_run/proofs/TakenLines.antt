-- A run after a line that was taken, or that couldn't be.
use Rattle.std.proofs.Common.{◌≡◌, ⊎_elim, ℕ, ◌≤◌, List, [], ◌∷◌, ◌++◌, Bool, IsTrue, Option, None, refl, subst}
use Rattle.std.proofs.KnownBytes.{Appends-nil}
use Rattle.stm_journal.specs.declared.sync_mode.SyncMode.{SyncMode}
use Rattle.stm_journal.specs.Disk.{Disk, LeavesOnly}
use Rattle.stm_history_file.specs.declared.recording.HistoryFile.{HistoryFile}
use Rattle.stm_lines.specs.LineClass.{line_class}
use Rattle.stm_run.specs.declared.console.Console.{Console}
use Rattle.stm_run.specs.LineCheckpoints.{Turn, made_turn, made_step}
use Rattle.stm_journaled_run.specs.declared.fault.DurableFault.{DurableFault}
use Rattle.stm_journaled_run.specs.declared.fault.DurableFault.TheVariants.{Run, Journal}
use Rattle.stm_journaled_run.specs.DurableRun.{KeepsConsole, CoversAnswers}
use Rattle.stm_journaled_run.specs.Committing.{IsBehind, IsAfterLines, HasFailed, HasNotTaken, TakingLeaves}
use Rattle.stm_journaled_run.proofs.Committing.{line_more, may_commit, stopped_before, stopped_in, failed}
use Rattle.stm_journaled_run.proofs.RunCrashes.{lines_run}

-- a run that has failed has done so by an equal way to sync
pub failed_as : {Cause : Type 0} (honest : Bool) (sync same : SyncMode) (zeros : Bool) (may_leave : List ℕ → Type 0) (K : Console → Type 0) (every : ℕ) (s : Console) (lines : List (Turn Cause)) (old new : Option (List ℕ)) (e : DurableFault) → sync ≡ same
    → HasFailed honest sync zeros may_leave K every s lines old new e → HasFailed honest same zeros may_leave K every s lines old new e
failed_as honest sync same zeros may_leave K every s lines old new e is h = subst (λ (m : SyncMode). HasFailed honest m zeros may_leave K every s lines old new e) is h

module _ {D : Type 0} {Cause : Type 0} (disk : Disk D) (f g : HistoryFile D) (every : ℕ) (s : Console) (before : List (Turn Cause)) (x y : Option (List ℕ)) (console : Console) (held : List ℕ) (recorded : ℕ)
    (a : IsAfterLines (KeepsConsole disk f) every s before x y console held recorded) (line judged : List ℕ) (same : line_class line ≡ line_class judged) where
  -- as if its checkpoint could be made
  abbrev lines : List (Turn Cause)
  lines = before ++ made_turn judged ∷ []

  abbrev made : Console
  made = (made_step every console line).0

  abbrev text : List ℕ
  text = held ++ (made_step every console line).1

  as_made : IsBehind (KeepsConsole disk f) every s lines x y made text recorded
  as_made = line_more (KeepsConsole disk f) every s before x y console held recorded a.behind line judged None made text recorded same refl refl refl

  pub taken_run : IsTrue disk.is_honest → TakingLeaves disk f g console recorded made → LeavesOnly disk f.journal.device g.journal.device (CoversAnswers f.journal.sync disk.fills_with_zeros every s lines [])
  unfolding line_more as_made
  taken_run honest run =
      lines_run Cause disk f.journal.sync disk.fills_with_zeros every s (KeepsConsole disk f) lines x y made text recorded as_made f.journal.device g.journal.device
      (run honest (may_commit (KeepsConsole disk f) every s before x y console held recorded a))

  -- it wasn't taken
  pub untaken : (e : DurableFault) → HasNotTaken disk f g made e → TakingLeaves disk f g console recorded made
      → ((t : ℕ) (c : List ℕ) → t ≤ disk.moment g.journal.device → disk.may_leave g.journal.device c → disk.left_since g.journal.device t c)
      → HasFailed disk.is_honest f.journal.sync disk.fills_with_zeros (disk.may_leave g.journal.device) (KeepsConsole disk g) every s lines x y e
  unfolding line_more as_made
  untaken (Run e) h run now =
      ⊎_elim (λ keeps. stopped_before (KeepsConsole disk f) every s lines x y made text recorded as_made (KeepsConsole disk g) (keeps _ as_made.kept))
      (λ k. stopped_in (KeepsConsole disk f) every s lines x y made text recorded as_made (KeepsConsole disk g) y [] (text, refl) (Appends-nil y) k) h.1
  untaken (Journal e) h run now =
      failed (KeepsConsole disk f) every s lines x y made text recorded as_made disk.is_honest f.journal.sync disk.fills_with_zeros (disk.may_leave g.journal.device) (KeepsConsole disk g) y (Journal e) (Appends-nil y)
      (λ honest o left.
      let moves = run honest (may_commit (KeepsConsole disk f) every s before x y console held recorded a) in
      moves.each o (now (disk.moment f.journal.device) o moves.later left))
