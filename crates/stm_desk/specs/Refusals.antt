-- Why each call on a desk is refused: the first reason that holds. An out-of-memory error is reported only if none holds.
use Rattle.std.specs.Prelude.{◌≡◌, ℕ, Bool, false, if◌then◌else◌, nat_le, List, length, Option, Some, None, Result}
use Rattle.stm_terms.specs.declared.kinds.Ty.{Ty}
use Rattle.stm_terms.specs.declared.values.Value.{Value}
use Rattle.stm_terms.specs.declared.verdicts.Verdict.{Verdict}
use Rattle.stm_store.specs.Cells.{plains}
use Rattle.stm_check.specs.TypedBlock.{Block}
use Rattle.stm_eval.specs.declared.message.Evaluated.{Evaluated}
use Rattle.stm_eval.specs.EvaluatedFields.{message_ticket, message_block, message_reads}
use Rattle.stm_events.specs.declared.errors.SubmitError.{SubmitError}
use Rattle.stm_events.specs.declared.errors.LabelError.{LabelError}
use Rattle.stm_events.specs.declared.errors.CancelError.{CancelError}
use Rattle.stm_events.specs.declared.errors.LateDeclareError.{LateDeclareError}
use Rattle.stm_events.specs.declared.errors.DeliverError.{DeliverError}
use Rattle.stm_events.specs.declared.errors.FinishError.{FinishError}
use Rattle.stm_events.specs.SlowDesk.{Slow, verdict_on}
use Rattle.stm_terms.specs.Limits.{max_waiting}
use Rattle.stm_events.specs.Refusals.{missing, blocks_there, overflows, submit_refused, late_declare_refused, label_refused, cancel_refused, finish_refused, DeliveryRefusedAs, pending_left}
use Rattle.stm_desk.specs.declared.errors.AtomicError.{AtomicError}
use Rattle.stm_desk.specs.declared.errors.AtomicError.TheVariants as atomic
use Rattle.stm_desk.specs.DeskView.{DeskView, state_of, is_full, lacks_room}

-- why a block can't be submitted, if it can't
abbrev pub submit_refusal : DeskView → Block → Option SubmitError
submit_refusal d block = submit_refused (state_of d) (is_full d) block

-- why a variable can't be declared, if it can't; the caller knows that the name is one
abbrev pub late_declare_refusal : DeskView → List ℕ → Ty → Value → Option LateDeclareError
late_declare_refusal d name kind value = late_declare_refused (state_of d) (is_full d) name kind value

-- why the block under a ticket can't get a label, if it can't; the caller knows that the text is one
abbrev pub label_refusal : DeskView → ℕ → Option LabelError
label_refusal d t = label_refused (state_of d) (is_full d) t

-- why a ticket can't be cancelled, if it can't
abbrev pub cancel_refusal : DeskView → ℕ → Option CancelError
cancel_refusal d t = cancel_refused (state_of d) (is_full d) t

-- why the block under a ticket can't finish, if it can't
abbrev pub finish_refusal : DeskView → ℕ → Option FinishError
finish_refusal d t = finish_refused (state_of d) (is_full d) t

-- the delivery of a message is refused for the first reason that holds; if none holds, for lack of memory at most
abbrev pub RefusesDelivery : {A : Type 0} → Result A DeliverError → DeskView → Evaluated → Type 0
RefusesDelivery result d message =
    DeliveryRefusedAs (state_of d) (is_full d) (message_ticket message) (message_block message) (message_reads message) result

-- the desk after a delivery to a ticket was refused: if the message was overtaken, the ticket is queued
abbrev pub requeued_if_overtaken : DeliverError → ℕ → DeskView → DeskView
requeued_if_overtaken e t d = record d { pending = pending_left e t d.pending }

-- ---- atomically
-- the first that holds: a variable is missing, too many blocks wait, the history has no room for all events, the store has none for
-- the new variables
abbrev pub atomic_first : Option ℕ → Bool → Bool → Bool → Option AtomicError
atomic_first (Some i) many full crowded = Some (atomic.Foreign i)
atomic_first None many full crowded =
    if many then Some atomic.WaitingFull
    else if full then Some atomic.HistoryFull
    else if crowded then Some atomic.CellsFull else None

-- how many events it has: two if the block blocks, and otherwise three
abbrev pub events_needed : Option Verdict → ℕ
events_needed v = if blocks_there v then 2 else 3

-- why a block can't be run atomically on a state, by which numbers of events have no room
abbrev pub atomic_refused : Slow → (ℕ → Bool) → Block → Option AtomicError
atomic_refused s lacks block =
    atomic_first (missing (plains s.store) block.uses) (nat_le max_waiting (length s.waiters)) (lacks (events_needed (verdict_on s.store block)))
    (overflows s.store (verdict_on s.store block))

-- why a block can't be run atomically, if it can't
abbrev pub atomic_refusal : DeskView → Block → Option AtomicError
atomic_refusal d block = atomic_refused (state_of d) (lacks_room d) block

-- why a block can't be run atomically, as far as it shows before the block is evaluated: each takes two events at least
abbrev pub atomic_refusal_before : DeskView → Block → Option AtomicError
atomic_refusal_before d block =
    let s = state_of d in
    atomic_first (missing (plains s.store) block.uses) (nat_le max_waiting (length s.waiters)) (lacks_room d 2) false

-- the error is due: the first reason that holds; or out of memory, if no reason holds that shows before the block is evaluated
abbrev pub IsAtomicError : DeskView → Block → AtomicError → Type 0
IsAtomicError d block (atomic.Foreign i) = atomic_refusal d block ≡ Some (atomic.Foreign i)
IsAtomicError d block atomic.WaitingFull = atomic_refusal d block ≡ Some atomic.WaitingFull
IsAtomicError d block atomic.HistoryFull = atomic_refusal d block ≡ Some atomic.HistoryFull
IsAtomicError d block atomic.CellsFull = atomic_refusal d block ≡ Some atomic.CellsFull
IsAtomicError d block atomic.NoMemory = atomic_refusal_before d block ≡ None
