-- States that events may go on from: the state after each legal history is one, and so is that of a checkpoint. And what can be
-- observed of a state: what is allowed, and what is observed after it, depends on nothing else.
use Rattle.std.specs.Prelude.{◌≡◌, ℕ, ◌<◌, ◌≤◌, true, false, nat_eq, List, [], ◌∷◌, map, length, Option, Some, None, is_some}
use Rattle.std.specs.List.{list_any}
use Rattle.stm_terms.specs.declared.kinds.Ty.{Ty}
use Rattle.stm_terms.specs.declared.values.Value.{Value}
use Rattle.stm_terms.specs.declared.verdicts.Verdict.{Verdict}
use Rattle.stm_store.specs.declared.cell.Cell.{Cell}
use Rattle.stm_store.specs.Cells.{plains, kinds_of, Covers, Fits, StoreIsTyped}
use Rattle.stm_store.specs.Naming.{Named, named_uses}
use Rattle.stm_store.specs.Tables.{Declared, opened}
use Rattle.stm_check.specs.TypedBlock.{Block}
use Rattle.stm_events.specs.declared.event.Event.{Event}
use Rattle.stm_events.specs.declared.event.What.{What}
use Rattle.stm_events.specs.declared.staleness.StalenessRule.{StalenessRule}
use Rattle.stm_events.specs.BlockStatus.{read_since_then}
use Rattle.stm_events.specs.Laws.{AreRising, IsWellTyped, SubmittedAreWellTyped}
use Rattle.stm_events.specs.SlowDesk.{Since, Waiter, Slow, Standing, under, verdict_on, weak_standing, find_waiter, after, Allows, initial_state, state_from, LegalFrom}
use Rattle.stm_terms.specs.Limits.{max_waiting, max_events}

-- ---- states that events may go on from
-- the variables that each waiting block names are there
abbrev pub AreCovered : List Cell → List Waiter → Type 0
AreCovered store [] = Unit {0}
AreCovered store (w ∷ ws) = Covers (plains store) w.block.uses × AreCovered store ws

-- each variable that woke nobody since a delivery has the value that it had then
abbrev pub IsUnwoken : List Cell → Option Since → Type 0
IsUnwoken store None = Unit {0}
IsUnwoken store (Some s) =
    (i : ℕ) (x : Value) → list_any (nat_eq i) s.woken ≡ false → under s.store_then i ≡ Some x → under store i ≡ Some x

-- each variable that woke nobody since the delivery of a waiting block has the value that it had then
abbrev pub AreUnwoken : List Cell → List Waiter → Type 0
AreUnwoken store [] = Unit {0}
AreUnwoken store (w ∷ ws) = IsUnwoken store w.since × AreUnwoken store ws

-- the block had a verdict at its last delivery, if there was one
abbrev pub HadVerdict : Block → Option Since → Type 0
HadVerdict block None = Unit {0}
HadVerdict block (Some s) = is_some (verdict_on s.store_then block) ≡ true

-- each waiting block had a verdict at its last delivery, if there was one
abbrev pub HadVerdicts : List Waiter → Type 0
HadVerdicts [] = Unit {0}
HadVerdicts (w ∷ ws) = HadVerdict w.block w.since × HadVerdicts ws

-- events may go on from this state; each name is that of a variable that is there, with its type
pub record IsPossible (s : Slow) : Type 0 where
  pub begun : 0 < s.next
  pub rising : AreRising s.next 0 s.waiters
  pub few : length s.waiters ≤ max_waiting
  pub named : Covers (plains s.store) (named_uses s.names)
  pub covered : AreCovered s.store s.waiters
  pub unwoken : AreUnwoken s.store s.waiters
  pub evaluated : HadVerdicts s.waiters

-- the state in which nothing has happened is possible, and so is each that an allowed event leads to from a possible one
pub record PossibleStatesStay : Type 0 where
  pub initial : (rule : StalenessRule) (table : List Declared) → IsPossible (initial_state rule table)
  pub next : (s : Slow) (what : What) → IsPossible s → Allows s what → IsPossible (after s what)
  pub later : (s : Slow) (events : List Event) → IsPossible s → LegalFrom s events → IsPossible (state_from s events)

-- the variables that a state covers stay covered
abbrev pub VariablesStayCovered : Type 0
VariablesStayCovered =
    (s : Slow) (events : List Event) (uses : List (ℕ × Ty)) → Covers (plains s.store) uses → Covers (plains (state_from s events).store) uses

-- the ticket was given to this block: if a block waits under it, it is this one
pub record IsTicketOf (block : Block) (s : Slow) (t : ℕ) : Type 0 where
  pub given : t < s.next
  pub waits : (w : Waiter) → find_waiter t s.waiters ≡ Some w → w.block ≡ block

-- the ticket of a block that waits was given to it, and no later event gives it to another one
pub record TicketsStay : Type 0 where
  pub waiting : (s : Slow) (t : ℕ) (w : Waiter) → IsPossible s → find_waiter t s.waiters ≡ Some w → IsTicketOf w.block s t
  pub next : (s : Slow) (what : What) (block : Block) (t : ℕ) → IsPossible s → Allows s what → IsTicketOf block s t
      → IsTicketOf block (after s what) t
  pub later : (s : Slow) (events : List Event) (block : Block) (t : ℕ) → IsPossible s → LegalFrom s events → IsTicketOf block s t
      → IsTicketOf block (state_from s events) t

-- each waiting block is well typed
abbrev pub AreWellTyped : List Waiter → Type 0
AreWellTyped [] = Unit {0}
AreWellTyped (w ∷ ws) = IsWellTyped w.block × AreWellTyped ws

-- the store of a delivery was well typed, and its variables are there still, with their types
abbrev pub WasTyped : List Cell → Option Since → Type 0
WasTyped store None = Unit {0}
WasTyped store (Some s) =
    StoreIsTyped (plains s.store_then)
    × ((i : ℕ) (k : Ty) → kinds_of (plains s.store_then) i ≡ Some k → kinds_of (plains store) i ≡ Some k)

-- of each waiting block the store of its delivery was well typed, and its variables are there still, with their types
abbrev pub WereTyped : List Cell → List Waiter → Type 0
WereTyped store [] = Unit {0}
WereTyped store (w ∷ ws) = WasTyped store w.since × WereTyped store ws

-- the store and the waiting blocks are well typed, and so were the stores of their deliveries
pub record IsTypedState (s : Slow) : Type 0 where
  pub store : StoreIsTyped (plains s.store)
  pub blocks : AreWellTyped s.waiters
  pub deliveries : WereTyped s.store s.waiters

-- they stay so if each block that is submitted is well typed, and then each block that waits has a verdict, which fits the store
pub record TypedStatesStay : Type 0 where
  pub initial : (rule : StalenessRule) (table : List Declared) → StoreIsTyped (plains (opened table)) → IsTypedState (initial_state rule table)
  pub later : (s : Slow) (events : List Event) → IsPossible s → LegalFrom s events → SubmittedAreWellTyped events → IsTypedState s
      → IsTypedState (state_from s events)
  pub verdicts : (s : Slow) (t : ℕ) (w : Waiter) → IsPossible s → IsTypedState s → find_waiter t s.waiters ≡ Some w
      → (v : Verdict) × (verdict_on s.store w.block ≡ Some v) × Fits (plains s.store) v

-- ---- what can be observed of a state
-- a waiting block: how it stands, and what it read at its last delivery
pub record ObservedWaiter : Type 0 where
  pub ticket : ℕ
  pub block : Block
  pub standing : Standing
  pub reads : Option (List (ℕ × Value))

-- of a waiting block
abbrev pub observed_waiter : Waiter → ObservedWaiter
observed_waiter w =
    record { ticket = w.ticket; block = w.block; standing = weak_standing w; reads = read_since_then w.block w.since }

-- a state
pub record Observed : Type 0 where
  pub rule : StalenessRule
  pub store : List Cell
  pub names : List Named
  pub next : ℕ
  pub waiters : List ObservedWaiter

-- of a state: the stores and the woken variables since deliveries can't be observed, but for what they make of verdicts, reads
-- and marks
abbrev pub observed : Slow → Observed
observed s =
    record { rule = s.rule; store = s.store; names = s.names; next = s.next; waiters = map observed_waiter s.waiters }

-- two states of which the same is observed allow the same, and after it the same is observed
pub record ObservationsDecide : Type 0 where
  pub next : (s s' : Slow) (what : What) → IsPossible s → IsPossible s' → observed s ≡ observed s' → Allows s what
      → (Allows s' what × (observed (after s what) ≡ observed (after s' what)))
  pub later : (s s' : Slow) (events : List Event) → IsPossible s → IsPossible s' → observed s ≡ observed s' → LegalFrom s events
      → (LegalFrom s' events × (observed (state_from s events) ≡ observed (state_from s' events)))

-- ---- histories that begin from a state
-- each event is allowed in its turn, from this state on, and there are no more than there may be
pub record IsLegalFrom (s : Slow) (history : List Event) : Type 0 where
  pub each : LegalFrom s history
  pub few : length history ≤ max_events
