-- Texts that end with a line feed: each refusal that is printed, and the text of a history.
use Rattle.std.proofs.Common.{◌≡◌, ◌≢◌, ℕ, ◌+◌, List, [], ◌∷◌, ◌++◌, length, Option, Some, None, refl, sym, subst, append_assoc}
use Rattle.std.specs.Prelude.{codes, decimal}
use Rattle.stm_parse.specs.declared.fault.ParseFault.TheVariants as parse
use Rattle.stm_check.specs.declared.fault.TypeFault.TheVariants as typed
use Rattle.stm_store.specs.declared.table.DeclareError.TheVariants as declare
use Rattle.stm_store.specs.Naming.{Named, name_numbered}
use Rattle.stm_store.specs.Tables.{Declared}
use Rattle.stm_events.specs.declared.event.Event.{Event}
use Rattle.stm_events.specs.declared.errors.LateDeclareError.{LateDeclareError}
use Rattle.stm_events.specs.declared.errors.LateDeclareError.TheVariants as late
use Rattle.stm_events.specs.declared.errors.SubmitError.{SubmitError}
use Rattle.stm_events.specs.declared.errors.SubmitError.TheVariants as submit
use Rattle.stm_desk.specs.declared.errors.AtomicError.{AtomicError}
use Rattle.stm_desk.specs.declared.errors.AtomicError.TheVariants as atomic
use Rattle.stm_events.specs.declared.errors.DeliverError.{DeliverError}
use Rattle.stm_events.specs.declared.errors.DeliverError.TheVariants as deliver
use Rattle.stm_events.specs.declared.errors.FinishError.{FinishError}
use Rattle.stm_events.specs.declared.errors.FinishError.TheVariants as finish
use Rattle.stm_events.specs.declared.errors.CancelError.{CancelError}
use Rattle.stm_events.specs.declared.errors.CancelError.TheVariants as cancel
use Rattle.stm_events.specs.declared.errors.LabelError.{LabelError}
use Rattle.stm_events.specs.declared.errors.LabelError.TheVariants as label
use Rattle.stm_store.specs.declared.cell.Cell.{Cell}
use Rattle.stm_machine.specs.declared.checkpoint.CheckpointBlock.{CheckpointBlock}
use Rattle.stm_machine.specs.Checkpoints.{CheckpointView}
use Rattle.stm_history_text.specs.HistoryText.{variable_lines, event_lines, cell_lines_from, cell_lines, block_line, block_lines, cells_text, text_before, start_text, history_text}
use Rattle.stm_history_text.specs.Starts.{Start}
use Rattle.stm_event_lines.specs.CheckpointLines.{cell_line, checkpoint_header_line}
use Rattle.stm_event_lines.specs.Lines.{event_line, header_line, variable_line}
use Rattle.stm_source.specs.declared.refusal.Refusal.{Refusal}
use Rattle.stm_source.specs.declared.refusal.Refusal.TheVariants.{Parsing, Typing, Unknown, Declaring}
use Rattle.stm_commands.specs.Refusals.{refused, refused_at, refused_variable, refusal_text, late_declare_error_text, submit_error_text, atomic_error_text, deliver_error_text, finish_error_text, cancel_error_text, label_error_text}
use Rattle.stm_source.specs.OutOfMemory.{IsOutOfMemory}
use Rattle.stm_run_laws.specs.Laws.{EndsALine}

-- ---- refusals
pub refused_ends : (name : List ℕ) → EndsALine (refused name)
unfolding refused
refused_ends name = (codes "refused " ++ name, refl)

refused_at_ends : (name : List ℕ) (place : ℕ) → EndsALine (refused_at name place)
unfolding refused_at
refused_at_ends name place = (codes "refused " ++ name ++ 32 ∷ decimal place, refl)

refused_variable_ends : (name : List ℕ) (number : ℕ) → EndsALine (refused_variable name number)
unfolding refused_variable
refused_variable_ends name number = (codes "refused " ++ name ++ codes " #" ++ decimal number, refl)

pub refusal_ends : (e : Refusal) → ¬ IsOutOfMemory e → EndsALine (refusal_text e)
refusal_ends (Parsing (parse.BadByte n)) t = refused_at_ends (codes "BadByte") n
refusal_ends (Parsing (parse.BadNumber n)) t = refused_at_ends (codes "BadNumber") n
refusal_ends (Parsing (parse.NameTooLong n)) t = refused_at_ends (codes "NameTooLong") n
refusal_ends (Parsing (parse.Unexpected n)) t = refused_at_ends (codes "Unexpected") n
refusal_ends (Parsing parse.EndOfText) t = refused_ends (codes "EndOfText")
refusal_ends (Parsing parse.TooDeep) t = refused_ends (codes "TooDeep")
refusal_ends (Parsing parse.TooLarge) t = refused_ends (codes "TooLarge")
refusal_ends (Parsing parse.NoMemory) t = absurd (t refl)
refusal_ends (Typing (typed.Unknown n)) t = refused_at_ends (codes "Unknown") n
refusal_ends (Typing (typed.Mismatch n)) t = refused_at_ends (codes "Mismatch") n
refusal_ends (Typing (typed.NotAVariable n)) t = refused_at_ends (codes "NotAVariable") n
refusal_ends (Typing (typed.Untyped n)) t = refused_at_ends (codes "Untyped") n
refusal_ends (Typing (typed.TypeTooDeep n)) t = refused_at_ends (codes "TypeTooDeep") n
refusal_ends (Typing typed.NoMemory) t = absurd (t refl)
refusal_ends (Unknown n) t = refused_at_ends (codes "Unknown") n
refusal_ends (Declaring declare.Twice) t = refused_ends (codes "Twice")
refusal_ends (Declaring declare.TypeOfValue) t = refused_ends (codes "TypeOfValue")
refusal_ends (Declaring declare.TableFull) t = refused_ends (codes "TableFull")
refusal_ends (Declaring declare.NoMemory) t = absurd (t refl)

pub late_declare_error_ends : (e : LateDeclareError) → e ≢ late.NoMemory → EndsALine (late_declare_error_text e)
late_declare_error_ends late.Twice h = refused_ends (codes "Twice")
late_declare_error_ends late.TypeOfValue h = refused_ends (codes "TypeOfValue")
late_declare_error_ends late.HistoryFull h = refused_ends (codes "HistoryFull")
late_declare_error_ends late.CellsFull h = refused_ends (codes "CellsFull")
late_declare_error_ends late.NoMemory h = absurd (h refl)

pub submit_error_ends : (e : SubmitError) → e ≢ submit.NoMemory → EndsALine (submit_error_text e)
submit_error_ends (submit.Foreign i) h = refused_variable_ends (codes "Foreign") i
submit_error_ends submit.WaitingFull h = refused_ends (codes "WaitingFull")
submit_error_ends submit.HistoryFull h = refused_ends (codes "HistoryFull")
submit_error_ends submit.NoMemory h = absurd (h refl)

pub atomic_error_ends : (e : AtomicError) → e ≢ atomic.NoMemory → EndsALine (atomic_error_text e)
atomic_error_ends (atomic.Foreign i) h = refused_variable_ends (codes "Foreign") i
atomic_error_ends atomic.WaitingFull h = refused_ends (codes "WaitingFull")
atomic_error_ends atomic.HistoryFull h = refused_ends (codes "HistoryFull")
atomic_error_ends atomic.CellsFull h = refused_ends (codes "CellsFull")
atomic_error_ends atomic.NoMemory h = absurd (h refl)

pub deliver_error_ends : (e : DeliverError) → e ≢ deliver.NoMemory → EndsALine (deliver_error_text e)
deliver_error_ends deliver.Gone h = refused_ends (codes "Gone")
deliver_error_ends deliver.OtherBlock h = refused_ends (codes "OtherBlock")
deliver_error_ends deliver.Already h = refused_ends (codes "Already")
deliver_error_ends (deliver.Overtaken i) h = refused_variable_ends (codes "Overtaken") i
deliver_error_ends deliver.HistoryFull h = refused_ends (codes "HistoryFull")
deliver_error_ends deliver.NoMemory h = absurd (h refl)

pub finish_error_ends : (e : FinishError) → e ≢ finish.NoMemory → EndsALine (finish_error_text e)
finish_error_ends finish.NoTicket h = refused_ends (codes "NoTicket")
finish_error_ends finish.NotEvaluated h = refused_ends (codes "NotEvaluated")
finish_error_ends finish.Stale h = refused_ends (codes "Stale")
finish_error_ends finish.Blocks h = refused_ends (codes "Blocks")
finish_error_ends finish.HistoryFull h = refused_ends (codes "HistoryFull")
finish_error_ends finish.CellsFull h = refused_ends (codes "CellsFull")
finish_error_ends finish.NoMemory h = absurd (h refl)

pub cancel_error_ends : (e : CancelError) → e ≢ cancel.NoMemory → EndsALine (cancel_error_text e)
cancel_error_ends cancel.NoTicket h = refused_ends (codes "NoTicket")
cancel_error_ends cancel.HistoryFull h = refused_ends (codes "HistoryFull")
cancel_error_ends cancel.NoMemory h = absurd (h refl)

pub label_error_ends : (e : LabelError) → e ≢ label.NoMemory → EndsALine (label_error_text e)
label_error_ends label.NoTicket h = refused_ends (codes "NoTicket")
label_error_ends label.HistoryFull h = refused_ends (codes "HistoryFull")
label_error_ends label.NoMemory h = absurd (h refl)

-- ---- the history
-- a text ends with a line feed whatever stands before it
behind : (text more : List ℕ) → EndsALine more → EndsALine (text ++ more)
behind text more e = (text ++ e.0, subst (λ (m : List ℕ). text ++ m ≡ text ++ e.0 ++ 10 ∷ []) (sym e.1) (sym (append_assoc text e.0 (10 ∷ []))))

variables_end : (table : List Declared) → EndsALine (10 ∷ variable_lines table)
variables_end [] = ([], refl)
variables_end (d ∷ ds) = behind (10 ∷ variable_line d) (10 ∷ variable_lines ds) (variables_end ds)

blocks_end : (blocks : List CheckpointBlock) → EndsALine (10 ∷ block_lines blocks)
blocks_end [] = ([], refl)
blocks_end (b ∷ bs) = behind (10 ∷ block_line b) (10 ∷ block_lines bs) (blocks_end bs)

cells_end : (i : ℕ) (names : List Named) (cells : List Cell) → EndsALine (10 ∷ cell_lines_from i names cells)
cells_end i names [] = ([], refl)
cells_end i names (c ∷ cs) = behind (10 ∷ cell_line (name_numbered i names) c) (10 ∷ cell_lines_from (i + 1) names cs) (cells_end (i + 1) names cs)

-- lines of events after a line feed
events_end : (history : List Event) → EndsALine (10 ∷ event_lines history)
events_end [] = ([], refl)
events_end (x ∷ xs) = behind (10 ∷ event_line x) (10 ∷ event_lines xs) (events_end xs)

-- lines after a text that ends with one
joined : (text lines : List ℕ) → EndsALine text → EndsALine (10 ∷ lines) → EndsALine (text ++ lines)
joined text lines e more =
    let all : e.0 ++ 10 ∷ [] ++ lines ≡ e.0 ++ (10 ∷ lines) = append_assoc e.0 (10 ∷ []) lines in
    subst (λ (t : List ℕ). EndsALine (t ++ lines)) (sym e.1) (subst EndsALine (sym all) (behind e.0 (10 ∷ lines) more))

before_end : (format : ℕ) (table : List Declared) (o : Option CheckpointView) → EndsALine (text_before format table o)
before_end format table None = behind (header_line format (length table)) (10 ∷ variable_lines table) (variables_end table)
before_end format table (Some c) =
    joined (cells_text format c.next (length c.store) (length c.blocks) c.names c.store) (block_lines c.blocks)
    (behind (checkpoint_header_line format c.next (length c.store) (length c.blocks)) (10 ∷ cell_lines c.names c.store) (cells_end 0 c.names c.store)) (blocks_end c.blocks)

pub history_ends : (start : Start) (history : List Event) → EndsALine (history_text start history)
history_ends start history = joined (start_text start) (event_lines history) (before_end start.format start.table start.checkpoint) (events_end history)

-- and so does a line after the lines of events
pub counted_end : (history : List Event) (line : List ℕ) → EndsALine (event_lines history ++ (line ++ 10 ∷ []))
counted_end history line = behind (event_lines history) (line ++ 10 ∷ []) (line, refl)
