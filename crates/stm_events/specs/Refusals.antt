-- Why each call is refused: the first reason that holds. An out-of-memory error is reported only if none holds.
-- `full` says that the history has no room for an event.
use Rattle.std.specs.Prelude.{◌≡◌, ◌≢◌, ℕ, ◌+◌, Bool, false, not, nat_le, nat_lt, is_some, if◌then◌else◌, List, [], ◌∷◌, length, Option, Some, None, Result, Ok, Err}
use Rattle.stm_terms.specs.declared.kinds.Ty.{Ty}
use Rattle.stm_terms.specs.declared.values.Value.{Value}
use Rattle.stm_terms.specs.declared.verdicts.Verdict.{Verdict}
use Rattle.stm_terms.specs.Value.{same_value}
use Rattle.stm_terms.specs.UnlessNoMemory.{RefusedAs}
use Rattle.stm_terms.specs.Changes.{Variables}
use Rattle.stm_store.specs.declared.cell.Cell.{Cell}
use Rattle.stm_store.specs.Cells.{plains, kinds_of, made_by}
use Rattle.stm_store.specs.Naming.{number_named, may_hold_known}
use Rattle.stm_store.specs.Tables.{is_type}
use Rattle.stm_check.specs.TypedBlock.{Block}
use Rattle.stm_queue.specs.Queue.{Entry, queued_again}
use Rattle.stm_events.specs.SlowDesk.{Waiter, Slow, under, verdict_on, is_blocks, is_new, is_current, find_waiter, max_cells}
use Rattle.stm_terms.specs.Limits.{max_waiting}
use Rattle.stm_events.specs.declared.errors.SubmitError.{SubmitError}
use Rattle.stm_events.specs.declared.errors.SubmitError.TheVariants as submit
use Rattle.stm_events.specs.declared.errors.DeliverError.{DeliverError}
use Rattle.stm_events.specs.declared.errors.DeliverError.TheVariants as deliver
use Rattle.stm_events.specs.declared.errors.FinishError.{FinishError}
use Rattle.stm_events.specs.declared.errors.FinishError.TheVariants as finish
use Rattle.stm_events.specs.declared.errors.LateDeclareError.{LateDeclareError}
use Rattle.stm_events.specs.declared.errors.LateDeclareError.TheVariants as declare
use Rattle.stm_events.specs.declared.errors.CancelError.{CancelError}
use Rattle.stm_events.specs.declared.errors.CancelError.TheVariants as cancel
use Rattle.stm_events.specs.declared.errors.LabelError.{LabelError}
use Rattle.stm_events.specs.declared.errors.LabelError.TheVariants as label

-- ---- submit
-- the first variable that is not there with its type
abbrev pub missing : List (Ty × Value) → List (ℕ × Ty) → Option ℕ
missing cells [] = None
missing cells (u ∷ us) = if is_type (kinds_of cells u.0) u.1 then missing cells us else Some u.0

-- the first that holds: a variable is missing, too many blocks wait, the history is full
abbrev pub submit_first : Option ℕ → Bool → Bool → Option SubmitError
submit_first (Some i) many full = Some (submit.Foreign i)
submit_first None many full = if many then Some submit.WaitingFull else if full then Some submit.HistoryFull else None

-- why a block can't be submitted, if it can't
abbrev pub submit_refused : Slow → Bool → Block → Option SubmitError
submit_refused s full block = submit_first (missing (plains s.store) block.uses) (nat_le max_waiting (length s.waiters)) full

-- ---- cancel
-- the first that holds: no block waits under the ticket, the history is full
abbrev pub cancel_first : Option Waiter → Bool → Option CancelError
cancel_first None full = Some cancel.NoTicket
cancel_first (Some w) full = if full then Some cancel.HistoryFull else None

-- why a ticket can't be cancelled, if it can't
abbrev pub cancel_refused : Slow → Bool → ℕ → Option CancelError
cancel_refused s full t = cancel_first (find_waiter t s.waiters) full

-- ---- label
-- the first that holds: no block waits under the ticket, the history is full
abbrev pub label_first : Option Waiter → Bool → Option LabelError
label_first None full = Some label.NoTicket
label_first (Some w) full = if full then Some label.HistoryFull else None

-- why the block under a ticket can't be labelled, if it can't; the caller knows that the text is a label
abbrev pub label_refused : Slow → Bool → ℕ → Option LabelError
label_refused s full t = label_first (find_waiter t s.waiters) full

-- ---- declare
-- the first that holds: the name is another variable's, the value isn't of the type, the history is full, the store is
abbrev pub declare_first : Bool → Bool → Bool → Bool → Option LateDeclareError
declare_first taken holds full room =
    if taken then Some declare.Twice else if not holds then Some declare.TypeOfValue
    else if full then Some declare.HistoryFull else if room then None else Some declare.CellsFull

-- why a variable can't be declared, if it can't; the caller knows that the name is one
abbrev pub late_declare_refused : Slow → Bool → List ℕ → Ty → Value → Option LateDeclareError
late_declare_refused s full name kind value =
    declare_first (is_some (number_named name s.names)) (may_hold_known s.names kind value) full (nat_lt (length s.store) max_cells)

-- ---- deliver
-- the variable is there with this value
abbrev pub has_value : Option Value → Value → Bool
has_value (Some x) v = same_value x v
has_value None v = false

-- the first variable read whose value differs, or that isn't there
abbrev pub differing : Variables → List (ℕ × Value) → Option ℕ
differing S [] = None
differing S (r ∷ rs) = if has_value (S r.0) r.1 then differing S rs else Some r.0

-- the first that holds: a variable read has another value now, the history is full
abbrev pub overtaken_first : Option ℕ → Bool → Option DeliverError
overtaken_first (Some i) full = Some (deliver.Overtaken i)
overtaken_first None full = if full then Some deliver.HistoryFull else None

-- if the message is of the block that waits
abbrev pub install_first : List Cell → Bool → Waiter → List (ℕ × Value) → Option DeliverError
install_first store full w reads =
    if is_current w then Some deliver.Already else overtaken_first (differing (under store) reads) full

-- where this block waits under the ticket or none does: the message must be of a block with its tree
abbrev pub DeliveryRefusedAt : {A : Type 0}
    → List Cell → Bool → Option Waiter → Block → List (ℕ × Value) → Result A DeliverError → Type 0
DeliveryRefusedAt store full None block reads result = RefusedAs deliver.NoMemory (Some deliver.Gone) result
DeliveryRefusedAt store full (Some w) block reads result =
    (w.block.tree ≢ block.tree → RefusedAs deliver.NoMemory (Some deliver.OtherBlock) result)
    × (w.block.tree ≡ block.tree → RefusedAs deliver.NoMemory (install_first store full w reads) result)

-- the delivery of a message to a ticket is refused for the first reason that holds; where none holds, for lack of memory at most
abbrev pub DeliveryRefusedAs : {A : Type 0} → Slow → Bool → ℕ → Block → List (ℕ × Value) → Result A DeliverError → Type 0
DeliveryRefusedAs s full t block reads result = DeliveryRefusedAt s.store full (find_waiter t s.waiters) block reads result

-- a result without the message that is handed back beside the error
abbrev pub without_message : {A B : Type 0} → Result A (B × DeliverError) → Result A DeliverError
without_message (Ok x) = Ok x
without_message (Err e) = Err e.1

-- after a refused message: a ticket that was overtaken is queued
abbrev pub pending_left : DeliverError → ℕ → List Entry → List Entry
pending_left (deliver.Overtaken i) t es = queued_again t es
pending_left deliver.Gone t es = es
pending_left deliver.OtherBlock t es = es
pending_left deliver.Already t es = es
pending_left deliver.HistoryFull t es = es
pending_left deliver.NoMemory t es = es

-- ---- finish
-- there is a verdict, and by it the block blocks
abbrev pub blocks_there : Option Verdict → Bool
blocks_there (Some v) = is_blocks v
blocks_there None = false

-- the new variables don't fit
abbrev pub overflows : List Cell → Option Verdict → Bool
overflows store (Some v) = not (nat_le (length store + length (made_by v)) max_cells)
overflows store None = false

-- the first that holds: no block waits there, it is new, stale or blocks, or the history or the store has no room
abbrev pub finish_first : List Cell → Bool → Option Waiter → Option FinishError
finish_first store full None = Some finish.NoTicket
finish_first store full (Some w) =
    if is_new w then Some finish.NotEvaluated
    else if not (is_current w) then Some finish.Stale
    else if blocks_there (verdict_on store w.block) then Some finish.Blocks
    else if full then Some finish.HistoryFull
    else if overflows store (verdict_on store w.block) then Some finish.CellsFull else None

-- why the block under a ticket can't finish, if it can't
abbrev pub finish_refused : Slow → Bool → ℕ → Option FinishError
finish_refused s full t = finish_first s.store full (find_waiter t s.waiters)
