-- What is printed if a line is refused.
use Rattle.std.specs.Prelude.{ℕ, List, [], ◌∷◌, ◌++◌, codes, decimal}
use Rattle.stm_parse.specs.declared.fault.ParseFault.{ParseFault}
use Rattle.stm_parse.specs.declared.fault.ParseFault.TheVariants as parse
use Rattle.stm_check.specs.declared.fault.TypeFault.{TypeFault}
use Rattle.stm_check.specs.declared.fault.TypeFault.TheVariants as typed
use Rattle.stm_store.specs.declared.table.DeclareError.{DeclareError}
use Rattle.stm_store.specs.declared.table.DeclareError.TheVariants as declare
use Rattle.stm_events.specs.declared.errors.SubmitError.{SubmitError}
use Rattle.stm_events.specs.declared.errors.SubmitError.TheVariants as submit
use Rattle.stm_events.specs.declared.errors.LateDeclareError.{LateDeclareError}
use Rattle.stm_events.specs.declared.errors.LateDeclareError.TheVariants as late
use Rattle.stm_events.specs.declared.errors.LabelError.{LabelError}
use Rattle.stm_events.specs.declared.errors.LabelError.TheVariants as label
use Rattle.stm_events.specs.declared.errors.DeliverError.{DeliverError}
use Rattle.stm_events.specs.declared.errors.DeliverError.TheVariants as deliver
use Rattle.stm_events.specs.declared.errors.FinishError.{FinishError}
use Rattle.stm_events.specs.declared.errors.FinishError.TheVariants as finish
use Rattle.stm_events.specs.declared.errors.CancelError.{CancelError}
use Rattle.stm_events.specs.declared.errors.CancelError.TheVariants as cancel
use Rattle.stm_desk.specs.declared.errors.AtomicError.{AtomicError}
use Rattle.stm_desk.specs.declared.errors.AtomicError.TheVariants as atomic
use Rattle.stm_source.specs.declared.refusal.Refusal.{Refusal}
use Rattle.stm_source.specs.declared.refusal.Refusal.TheVariants.{Parsing, Typing, Unknown, Declaring}

-- a refusal by its name
unfoldable pub refused : List ℕ → List ℕ
refused name = codes "refused " ++ name ++ 10 ∷ []

-- a refusal by its name, with the place of its cause, in bytes from 0 in the argument
unfoldable pub refused_at : List ℕ → ℕ → List ℕ
refused_at name place = codes "refused " ++ name ++ 32 ∷ decimal place ++ 10 ∷ []

-- a refusal by its name, with the number of its variable
unfoldable pub refused_variable : List ℕ → ℕ → List ℕ
refused_variable name number = codes "refused " ++ name ++ codes " #" ++ decimal number ++ 10 ∷ []

-- what is printed of a fault of the grammar
abbrev pub parse_fault_text : ParseFault → List ℕ
parse_fault_text (parse.BadByte n) = refused_at (codes "BadByte") n
parse_fault_text (parse.BadNumber n) = refused_at (codes "BadNumber") n
parse_fault_text (parse.NameTooLong n) = refused_at (codes "NameTooLong") n
parse_fault_text (parse.Unexpected n) = refused_at (codes "Unexpected") n
parse_fault_text parse.EndOfText = refused (codes "EndOfText")
parse_fault_text parse.TooDeep = refused (codes "TooDeep")
parse_fault_text parse.TooLarge = refused (codes "TooLarge")
parse_fault_text parse.NoMemory = []

-- what is printed of a fault of types
abbrev pub type_fault_text : TypeFault → List ℕ
type_fault_text (typed.Unknown n) = refused_at (codes "Unknown") n
type_fault_text (typed.Mismatch n) = refused_at (codes "Mismatch") n
type_fault_text (typed.NotAVariable n) = refused_at (codes "NotAVariable") n
type_fault_text (typed.Untyped n) = refused_at (codes "Untyped") n
type_fault_text (typed.TypeTooDeep n) = refused_at (codes "TypeTooDeep") n
type_fault_text typed.NoMemory = []

-- why the table refuses a declaration
abbrev pub declare_error_text : DeclareError → List ℕ
declare_error_text declare.Twice = refused (codes "Twice")
declare_error_text declare.TypeOfValue = refused (codes "TypeOfValue")
declare_error_text declare.TableFull = refused (codes "TableFull")
declare_error_text declare.NoMemory = []

-- why a variable isn't declared on an open desk
abbrev pub late_declare_error_text : LateDeclareError → List ℕ
late_declare_error_text late.Twice = refused (codes "Twice")
late_declare_error_text late.TypeOfValue = refused (codes "TypeOfValue")
late_declare_error_text late.HistoryFull = refused (codes "HistoryFull")
late_declare_error_text late.CellsFull = refused (codes "CellsFull")
late_declare_error_text late.NoMemory = []

-- why a block doesn't get a label
abbrev pub label_error_text : LabelError → List ℕ
label_error_text label.NoTicket = refused (codes "NoTicket")
label_error_text label.HistoryFull = refused (codes "HistoryFull")
label_error_text label.NoMemory = []

-- why a block isn't submitted
abbrev pub submit_error_text : SubmitError → List ℕ
submit_error_text (submit.Foreign i) = refused_variable (codes "Foreign") i
submit_error_text submit.WaitingFull = refused (codes "WaitingFull")
submit_error_text submit.HistoryFull = refused (codes "HistoryFull")
submit_error_text submit.NoMemory = []

-- why a block isn't run atomically
abbrev pub atomic_error_text : AtomicError → List ℕ
atomic_error_text (atomic.Foreign i) = refused_variable (codes "Foreign") i
atomic_error_text atomic.WaitingFull = refused (codes "WaitingFull")
atomic_error_text atomic.HistoryFull = refused (codes "HistoryFull")
atomic_error_text atomic.CellsFull = refused (codes "CellsFull")
atomic_error_text atomic.NoMemory = []

-- why a verdict isn't delivered
abbrev pub deliver_error_text : DeliverError → List ℕ
deliver_error_text deliver.Gone = refused (codes "Gone")
deliver_error_text deliver.OtherBlock = refused (codes "OtherBlock")
deliver_error_text deliver.Already = refused (codes "Already")
deliver_error_text (deliver.Overtaken i) = refused_variable (codes "Overtaken") i
deliver_error_text deliver.HistoryFull = refused (codes "HistoryFull")
deliver_error_text deliver.NoMemory = []

-- why a block isn't finished
abbrev pub finish_error_text : FinishError → List ℕ
finish_error_text finish.NoTicket = refused (codes "NoTicket")
finish_error_text finish.NotEvaluated = refused (codes "NotEvaluated")
finish_error_text finish.Stale = refused (codes "Stale")
finish_error_text finish.Blocks = refused (codes "Blocks")
finish_error_text finish.HistoryFull = refused (codes "HistoryFull")
finish_error_text finish.CellsFull = refused (codes "CellsFull")
finish_error_text finish.NoMemory = []

-- why a block isn't cancelled
abbrev pub cancel_error_text : CancelError → List ℕ
cancel_error_text cancel.NoTicket = refused (codes "NoTicket")
cancel_error_text cancel.HistoryFull = refused (codes "HistoryFull")
cancel_error_text cancel.NoMemory = []

-- why a block or a declaration is refused
abbrev pub refusal_text : Refusal → List ℕ
refusal_text (Parsing fault) = parse_fault_text fault
refusal_text (Typing fault) = type_fault_text fault
refusal_text (Unknown n) = refused_at (codes "Unknown") n
refusal_text (Declaring error) = declare_error_text error
