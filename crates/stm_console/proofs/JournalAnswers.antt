-- That a run on a file does what its definition says.
use Rattle.std.proofs.Common.{◌≡◌, ◌<◌, ℕ, Bool, List, [], ◌∷◌, ◌++◌, inl, inr, refl, sym, ap, ◌∙◌, subst, Option, Some, None}
use Rattle.std.specs.Prelude.{◌⊎◌, IfSome, IsTrue, option_map}
use Rattle.stm_terms.specs.Texts.{IsPrefixOf}
use Rattle.std.specs.Io.KnownBytes.{Appends}
use Rattle.stm_history.specs.declared.fault.HistoryFault.TheVariants as history_fault
use Rattle.stm_history.specs.declared.loading.LoadFault.{LoadFault}
use Rattle.stm_history.specs.declared.loading.LoadFault.TheVariants.{Fault, OldFormat}
use Rattle.stm_history.specs.Loading.{ReportsLoadFault}
use Rattle.stm_journal.specs.declared.error.JournalError.TheVariants as journal_error
use Rattle.stm_journal.specs.Journal.{most_batch}
use Rattle.stm_journal.specs.Text.{recovered, dropped_count}
use Rattle.stm_history_file.specs.Durable.{ReportsOpenFault}
use Rattle.stm_history_file.specs.declared.resuming.OpenFault.{OpenFault}
use Rattle.stm_history_file.specs.declared.resuming.OpenFault.TheVariants.{Journal, History, Foreign}
use Rattle.stm_lines.specs.Lines.{lines_of}
use Rattle.stm_run.specs.declared.console.Console.{Console}
use Rattle.stm_run.specs.LineCheckpoints.{Turn, turn_lines, line_step, answer_by, state_after_turn, answers_by, ForTurns}
use Rattle.stm_journaled_run.specs.DurableRun.{durable_status}
use Rattle.stm_journaled_run.specs.declared.fault.DurableFault.{DurableFault}
use Rattle.stm_journaled_run.specs.declared.fault.DurableFault.TheVariants as durable_fault
use Rattle.stm_console.specs.ExitStatus.{IsFailure}
use Rattle.stm_console.specs.Journal.{HasNoHistory, IsFaultOfBytes, open_status, unopened_status}
use Rattle.stm_console.specs.declared.files.OpenError.{OpenError}
use Rattle.stm_console.specs.declared.files.OpenError.TheVariants as open_error
use Rattle.stm_console.specs.Program.{OverLines}
use Rattle.stm_console.specs.declared.status.TheConstants.{NOT_RIGHT}
use Rattle.stm_console.proofs.ProgramAnswers.{failed}

-- what holds of the bytes that a device has holds of those that are known of its file
pub known : (P : List ℕ → Type 0) (honest : Bool) (contents : Option (List ℕ)) (seen : List ℕ)
    → IfSome contents (λ bytes. IsTrue honest × (seen ≡ bytes)) → (IsTrue honest → P seen) → IfSome contents P
known P honest None seen is h = tt
known P honest (Some bytes) seen is h = subst P is.1 (h is.0)

-- ---- why a checkpoint couldn't be made isn't said here
abbrev forget : {Cause : Type 0} → List (Turn Cause) → List (Turn (Unit {0}))
forget [] = []
forget (turn ∷ turns) = record { line = turn.line; refused = option_map (λ c. tt) turn.refused } ∷ forget turns

same_lines : {Cause : Type 0} (turns : List (Turn Cause)) → turn_lines (forget turns) ≡ turn_lines turns
same_lines [] = refl
same_lines (turn ∷ turns) = ap (λ (ls : List (List ℕ)). turn.line ∷ ls) (same_lines turns)

same_step : {Cause : Type 0} (every : ℕ) (s : Console) (line : List ℕ) (refused : Option Cause) → line_step every s line (option_map (λ c. tt {0}) refused) ≡ line_step every s line refused
same_step every s line None = refl
same_step every s line (Some c) = refl

same_answers : {Cause : Type 0} (every : ℕ) (s : Console) (turns : List (Turn Cause)) → answers_by every s (forget turns) ≡ answers_by every s turns
same_answers every s [] = refl
same_answers every s (turn ∷ turns) =
    let e = same_step every s turn.line turn.refused in
    ap (λ (p : Console × List ℕ). p.1 ++ answers_by every p.0 (forget turns)) e
    ∙ ap (λ (text : List ℕ). answer_by every s turn ++ text) (same_answers every (state_after_turn every s turn) turns)

-- what holds of a run's answers holds of them without the causes
over_lines : (Cause : Type 0) (every : ℕ) (s : Console) (input : Option (List ℕ)) (P : List ℕ → Type 0)
    → IfSome input (λ bytes. ForTurns Cause (lines_of bytes) (λ turns. P (answers_by every s turns)))
    → IfSome input (λ bytes. OverLines bytes (λ turns. P (answers_by every s turns)))
over_lines Cause every s None P h = tt
over_lines Cause every s (Some bytes) P h = (forget h.0, same_lines h.0 ∙ h.1, subst P (sym (same_answers every s h.0)) h.2)

-- all was answered
pub answered_lines : (Cause : Type 0) (every : ℕ) (s : Console) (input old new : Option (List ℕ)) (K : List (Turn Cause) → Type 0)
    → IfSome input (λ bytes. ForTurns Cause (lines_of bytes) (λ turns. Appends old new (answers_by every s turns) × K turns))
    → IfSome input (λ bytes. OverLines bytes (λ turns. Appends old new (answers_by every s turns)))
answered_lines Cause every s None old new K h = tt
answered_lines Cause every s (Some bytes) old new K h = over_lines Cause every s (Some bytes) (Appends old new) (h.0, h.1, h.2.0)

-- a part was answered
pub part_answered : (Cause : Type 0) (every : ℕ) (s : Console) (input old new : Option (List ℕ))
    → IfSome input (λ bytes. ForTurns Cause (lines_of bytes) (λ turns. (front : List ℕ) × IsPrefixOf front (answers_by every s turns) × Appends old new front))
    → IfSome input (λ bytes. OverLines bytes (λ turns. (front : List ℕ) × IsPrefixOf front (answers_by every s turns) × Appends old new front))
part_answered Cause every s input old new h = over_lines Cause every s input (λ text. (front : List ℕ) × IsPrefixOf front text × Appends old new front) h

-- ---- what failed

pub durable_failed : (e : DurableFault) (n : ℕ) → n ≡ durable_status e → IsFailure n
durable_failed (durable_fault.Run e) n is = failed e n is
durable_failed (durable_fault.Journal journal_error.NoMemory) n is = inr is
durable_failed (durable_fault.Journal journal_error.Failed) n is = inl is
durable_failed (durable_fault.Journal journal_error.NoSpace) n is = inl is
durable_failed (durable_fault.Journal journal_error.Full) n is = inl is
durable_failed (durable_fault.Journal journal_error.TooLong) n is = inl is
durable_failed (durable_fault.Journal journal_error.TornTooLong) n is = inl is

pub open_failed : (e : OpenError) (n : ℕ) → n ≡ open_status e → IsFailure n
open_failed open_error.NoMemory n is = inr is
open_failed open_error.InUse n is = inl is
open_failed open_error.Directory n is = inl is
open_failed open_error.NotRegular n is = inl is
open_failed open_error.KeptName n is = inl is
open_failed open_error.IsInput n is = inl is
open_failed open_error.IsOutput n is = inl is
open_failed open_error.IsErrors n is = inl is
open_failed open_error.NoStreams n is = inl is
open_failed (open_error.NoLock e) n is = inl is
open_failed (open_error.System e) n is = inl is

-- ---- a file that isn't gone on from

abbrev Ends : Option (List ℕ) → ℕ → Type 0
Ends contents n = ((n ≡ NOT_RIGHT) × IfSome contents HasNoHistory) ⊎ IsFailure n

unloaded : (fault : LoadFault) (seen : List ℕ) → IsFaultOfBytes fault → ReportsLoadFault fault (recovered seen) → HasNoHistory seen
unloaded fault seen of_bytes told = inr (inl (fault, of_bytes, told))

pub unopened : (honest : Bool) (contents : Option (List ℕ)) (seen : List ℕ) (fault : OpenFault) (n : ℕ)
    → IfSome contents (λ bytes. IsTrue honest × (seen ≡ bytes)) → n ≡ unopened_status fault
    → (IsTrue honest → ReportsOpenFault fault seen) → (IsTrue honest → fault ≡ Journal journal_error.TornTooLong → most_batch < dropped_count seen)
    → Ends contents n
unopened honest contents seen (Journal journal_error.NoMemory) n is s told torn = inr (inr s)
unopened honest contents seen (Journal journal_error.Failed) n is s told torn = inr (inl s)
unopened honest contents seen (Journal journal_error.NoSpace) n is s told torn = inr (inl s)
unopened honest contents seen (Journal journal_error.Full) n is s told torn = inr (inl s)
unopened honest contents seen (Journal journal_error.TooLong) n is s told torn = inr (inl s)
unopened honest contents seen (Journal journal_error.TornTooLong) n is s told torn =
    inl (s, known HasNoHistory honest contents seen is (λ h. inr (inr (torn h refl))))
unopened honest contents seen Foreign n is s told torn = inl (s, known HasNoHistory honest contents seen is (λ h. inl (told h)))
unopened honest contents seen (History (Fault history_fault.ReadFault)) n is s told torn = inr (inl s)
unopened honest contents seen (History (Fault history_fault.NoMemory)) n is s told torn = inr (inr s)
unopened honest contents seen (History (Fault history_fault.BadHeader)) n is s told torn =
    inl (s, known HasNoHistory honest contents seen is (λ h. unloaded (Fault history_fault.BadHeader) seen tt (told h)))
unopened honest contents seen (History (Fault (history_fault.BadLine line))) n is s told torn =
    inl (s, known HasNoHistory honest contents seen is (λ h. unloaded (Fault (history_fault.BadLine line)) seen tt (told h)))
unopened honest contents seen (History (Fault (history_fault.NotLegal line))) n is s told torn =
    inl (s, known HasNoHistory honest contents seen is (λ h. unloaded (Fault (history_fault.NotLegal line)) seen tt (told h)))
unopened honest contents seen (History (OldFormat format)) n is s told torn =
    inl (s, known HasNoHistory honest contents seen is (λ h. unloaded (OldFormat format) seen tt (told h)))
