-- What a waiting block waits for: a definition over the history. A block that is stale waits for another evaluation, because of
-- the first finish after its last delivery that left a variable which it had read with another value. If that finish came before the
-- checkpoint that the history begins from, the checkpoint says which it was; it may not know.
use Rattle.std.specs.Prelude.{ℕ, Bool, false, not, ◌&&◌, nat_eq, if◌then◌else◌, List, [], ◌∷◌, ◌++◌, Option, Some, None, option_map}
use Rattle.stm_terms.specs.declared.values.Value.{Value}
use Rattle.stm_terms.specs.Changes.{Variables, find}
use Rattle.stm_terms.specs.ReadSet.{reads_of}
use Rattle.stm_terms.specs.Value.{same_value}
use Rattle.stm_store.specs.declared.cell.Cell.{Cell}
use Rattle.stm_events.specs.declared.event.Event.{Event}
use Rattle.stm_events.specs.declared.event.What.{What}
use Rattle.stm_events.specs.declared.event.What.TheVariants.{Submitted, Installed, Finished, Cancelled, Declared as DeclaredLate, Labelled}
use Rattle.stm_events.specs.declared.kept_cause.KeptCause.{KeptCause}
use Rattle.stm_events.specs.BlockStatus.{read_now}
use Rattle.stm_events.specs.Headline.{installs_to, is_installed}
use Rattle.stm_events.specs.SlowDesk.{Since, Slow, Waiter, after, find_waiter, is_current, is_new, is_stale_since, under}
use Rattle.stm_events.specs.SlowSettle.{can_end}
use Rattle.stm_machine.specs.declared.checkpoint.CheckpointBlock.{CheckpointBlock}
use Rattle.stm_machine.specs.Checkpoints.{CheckpointView}
use Rattle.stm_desk.specs.declared.reason.Change.{Change}
use Rattle.stm_desk.specs.DeskView.{DeskView, start_state, state_of}

-- ---- causes
-- the change of a variable from the value that was read to the one that it has, if that is another one
abbrev pub change_to : ℕ → Value → Option Value → List Change
change_to i v None = []
change_to i v (Some new) = if same_value v new then [] else record { variable = i; read = v; left = new } ∷ []

-- the variables of these reads that have another value
abbrev pub changes_from : List (ℕ × Value) → Variables → List Change
changes_from [] variables = []
changes_from (r ∷ rs) variables = change_to r.0 r.1 (variables r.0) ++ changes_from rs variables

-- the ticket of an event; 0 for a declaration
abbrev pub ticket_of : What → ℕ
ticket_of (Submitted t block) = t
ticket_of (Installed t v) = t
ticket_of (Finished t v n stale) = t
ticket_of (Cancelled t) = t
ticket_of (DeclaredLate name kind value) = 0
ticket_of (Labelled t label) = t

-- why a block is stale: the ticket of a finish, and the variables that the block had read and that were left with other values
pub record Cause : Type 0 where
  pub finish : ℕ
  pub changes : List Change

-- the event of this ticket is the cause, if it changed something, or else a later one is
abbrev pub cause_or : ℕ → List Change → Option Cause → Option Cause
cause_or t [] later = later
cause_or t (c ∷ cs) later = Some (record { finish = t; changes = c ∷ cs })

-- the first of these events, which begin on a state, after which variables of the reads have other values
abbrev pub first_cause : List (ℕ × Value) → Slow → List Event → Option Cause
first_cause reads s [] = None
first_cause reads s (e ∷ es) =
    cause_or (ticket_of e.what) (changes_from reads (under (after s e.what).store)) (first_cause reads (after s e.what) es)

-- the first cause among the events after the last delivery to a ticket, of these events, which begin on a state
abbrev pub cause_since_delivery : ℕ → List (ℕ × Value) → Slow → List Event → Option Cause
cause_since_delivery t reads s [] = None
cause_since_delivery t reads s (e ∷ es) =
    if is_installed t es then cause_since_delivery t reads (after s e.what) es
    else if installs_to t e.what then first_cause reads (after s e.what) es
    else cause_since_delivery t reads (after s e.what) es

-- the cause that a checkpoint keeps of a block of these reads
abbrev pub cause_again : List (ℕ × Value) → KeptCause → Cause
cause_again reads k = record { finish = k.finish; changes = changes_from reads (λ i. find i k.left) }

-- the cause that these blocks of a checkpoint keep of a ticket, if they keep one
abbrev pub kept_cause_in : ℕ → List CheckpointBlock → Option KeptCause
kept_cause_in t [] = None
kept_cause_in t (b ∷ bs) = if nat_eq t b.ticket then b.cause else kept_cause_in t bs

-- the cause that a checkpoint keeps of a ticket, if there is a checkpoint and it keeps one
abbrev pub kept_cause_at : ℕ → Option CheckpointView → Option KeptCause
kept_cause_at t None = None
kept_cause_at t (Some c) = kept_cause_in t c.blocks

-- ---- reasons
-- what a waiting block waits for
pub data WaitReason : Type 0 where
  -- an evaluation: there was none yet
  NotEvaluated : WaitReason
  -- another evaluation
  IsStale : Cause → WaitReason
  -- another evaluation, but it was stale already at the checkpoint that the history begins from, which doesn't know why
  WasStale : WaitReason
  -- a change of one of these variables, of which it read these values: it is current and blocks
  Waits : List (ℕ × Value) → WaitReason
  -- its finish: it is current and doesn't block
  CanFinish : WaitReason

-- what a current block waits for
abbrev pub current_reason : List Cell → Waiter → WaitReason
current_reason store w = if can_end store w then CanFinish else Waits (read_now store w)

-- the block was stale: there was a delivery to it, and it was not current
abbrev pub was_stale : Option Waiter → Bool
was_stale None = false
was_stale (Some w) = not (is_new w) && not (is_current w)

-- why a block of these reads was stale at a checkpoint, by the cause that it keeps
abbrev pub reason_kept : List (ℕ × Value) → Option KeptCause → WaitReason
reason_kept reads None = WasStale
reason_kept reads (Some k) = IsStale (cause_again reads k)

-- why a block of these reads is stale to which nothing was delivered in these events, which begin on a state, with this cause if it was
-- stale there
abbrev pub reason_before : Option KeptCause → ℕ → List (ℕ × Value) → Slow → List Event → Option WaitReason
reason_before kept t reads s events =
    if was_stale (find_waiter t s.waiters) then Some (reason_kept reads kept) else option_map IsStale (first_cause reads s events)

-- why a stale block of these reads is stale
abbrev pub stale_reason : Option KeptCause → ℕ → List (ℕ × Value) → Slow → List Event → Option WaitReason
stale_reason kept t reads s events =
    if is_installed t events then option_map IsStale (cause_since_delivery t reads s events) else reason_before kept t reads s events

-- what a block waits for, by its last delivery
abbrev pub reason_since : DeskView → Waiter → Option Since → Option WaitReason
reason_since d w None = Some NotEvaluated
reason_since d w (Some s) =
    if is_stale_since w.block s
    then stale_reason (kept_cause_at w.ticket d.checkpoint) w.ticket (reads_of (under s.store_then) w.block.tree) (start_state d) d.history
    else Some (current_reason (state_of d).store w)

-- what a waiting block waits for, if there is one
abbrev pub reason_of_waiter : DeskView → Option Waiter → Option WaitReason
reason_of_waiter d None = None
reason_of_waiter d (Some w) = reason_since d w w.since

-- what the block under a ticket waits for
unfoldable pub reason_of : DeskView → ℕ → Option WaitReason
reason_of d t = reason_of_waiter d (find_waiter t (state_of d).waiters)
