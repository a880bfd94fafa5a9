-- What holds after every legal history, by either rule of what makes blocks stale.
use Rattle.std.specs.Prelude.{◌≡◌, ℕ, ◌<◌, ◌≤◌, ◌+◌, false, length, List, [], ◌∷◌, ◌++◌, Some}
use Rattle.stm_terms.specs.declared.kinds.Ty.{Ty}
use Rattle.stm_terms.specs.declared.values.Value.{Value}
use Rattle.stm_terms.specs.declared.verdicts.Verdict.{Verdict}
use Rattle.stm_terms.specs.Typing.{ActionType, action_type, kinds_in}
use Rattle.stm_store.specs.Cells.{plains, Covers, Fits, StoreIsTyped}
use Rattle.stm_store.specs.Tables.{Declared, declared_cells, opened}
use Rattle.stm_check.specs.TypedBlock.{Block}
use Rattle.stm_eval.specs.Messages.{Holds}
use Rattle.stm_events.specs.declared.event.Event.{Event}
use Rattle.stm_events.specs.declared.event.What.{What}
use Rattle.stm_events.specs.declared.event.What.TheVariants.{Submitted, Installed, Finished, Cancelled, Declared as DeclaredLate, Labelled}
use Rattle.stm_events.specs.declared.staleness.StalenessRule.{StalenessRule}
use Rattle.stm_events.specs.SlowDesk.{Since, Waiter, Slow, under, verdict_on, is_stale_since, find_waiter, initial_state, state_by, serial_steps_from, serial, standing, weak_standing, IsLegalBy}

-- above k, each above the one before it, all below n
abbrev pub AreRising : ℕ → ℕ → List Waiter → Type 0
AreRising n k [] = Unit {0}
AreRising n k (w ∷ ws) = (k < w.ticket) × (w.ticket < n) × AreRising n w.ticket ws

-- waiting tickets rise, and are below the next one; and tickets don't run out before the history
pub record TicketsAreRight (s : Slow) (events : ℕ) : Type 0 where
  pub rising : AreRising s.next 0 s.waiters
  pub few : s.next ≤ 1 + events

-- after every legal history the tickets are right so
abbrev pub TicketsRise : Type 0
TicketsRise =
    (rule : StalenessRule) (table : List Declared) (history : List Event) → IsLegalBy rule table history
    → TicketsAreRight (state_by rule table history) (length history)

-- the variables that a waiting block names are there
abbrev pub BlocksAreCovered : Type 0
BlocksAreCovered =
    (rule : StalenessRule) (table : List Declared) (history : List Event) (t : ℕ) (w : Waiter) → IsLegalBy rule table history
    → find_waiter t (state_by rule table history).waiters ≡ Some w
    → Covers (plains (state_by rule table history).store) w.block.uses

-- what a current block did at its delivery, it does on the present store
abbrev pub CurrentHolds : Type 0
CurrentHolds =
    (rule : StalenessRule) (table : List Declared) (history : List Event) (t : ℕ) (w : Waiter) (s : Since)
    (reads : List (ℕ × Value)) (v : Verdict)
    → IsLegalBy rule table history → find_waiter t (state_by rule table history).waiters ≡ Some w → w.since ≡ Some s
    → is_stale_since w.block s ≡ false
    → Holds w.block.tree (under s.store_then) reads v → Holds w.block.tree (under (state_by rule table history).store) reads v

-- the store is that of running the finished blocks alone and making the declared variables, one after another
abbrev pub StoreIsSerial : Type 0
StoreIsSerial =
    (rule : StalenessRule) (table : List Declared) (history : List Event) → IsLegalBy rule table history
    → (state_by rule table history).store ≡ serial (opened table) (serial_steps_from (initial_state rule table) history)

-- how a waiting block stands is said alike with the verdict of its delivery and, for a current block, with that on the present
-- store
abbrev pub WeakIsPresent : Type 0
WeakIsPresent =
    (rule : StalenessRule) (table : List Declared) (history : List Event) (t : ℕ) (w : Waiter) → IsLegalBy rule table history
    → find_waiter t (state_by rule table history).waiters ≡ Some w
    → standing (state_by rule table history).store w ≡ weak_standing w

-- what the declared variables cover stays covered: no event takes a variable away or changes its type
abbrev pub DeclaredAreCovered : Type 0
DeclaredAreCovered =
    (rule : StalenessRule) (table : List Declared) (history : List Event) (us : List (ℕ × Ty)) → IsLegalBy rule table history
    → Covers (plains (opened table)) us → Covers (plains (state_by rule table history).store) us

-- as long as a block waits under a ticket it is the same block: no ticket is given twice
abbrev pub BlocksStay : Type 0
BlocksStay =
    (rule : StalenessRule) (table : List Declared) (before more : List Event) (t : ℕ) (v w : Waiter)
    → IsLegalBy rule table (before ++ more)
    → find_waiter t (state_by rule table before).waiters ≡ Some v
    → find_waiter t (state_by rule table (before ++ more)).waiters ≡ Some w
    → w.block ≡ v.block

-- a block whose tree has a type if the variables that it names have theirs
abbrev pub IsWellTyped : Block → Type 0
IsWellTyped block = (r : ActionType) × (action_type (kinds_in block.uses) [] block.tree ≡ Some r)

-- each block that is submitted is one
abbrev pub SubmitsWellTyped : What → Type 0
SubmitsWellTyped (Submitted t block) = IsWellTyped block
SubmitsWellTyped (Installed t v) = Unit {0}
SubmitsWellTyped (Finished t v n stale) = Unit {0}
SubmitsWellTyped (Cancelled t) = Unit {0}
SubmitsWellTyped (DeclaredLate name kind value) = Unit {0}
SubmitsWellTyped (Labelled t label) = Unit {0}

-- each block that the events submit is well typed
abbrev pub SubmittedAreWellTyped : List Event → Type 0
SubmittedAreWellTyped [] = Unit {0}
SubmittedAreWellTyped (e ∷ es) = SubmitsWellTyped e.what × SubmittedAreWellTyped es

-- each block that waits is well typed if each that was submitted is
abbrev pub WaitingAreWellTyped : Type 0
WaitingAreWellTyped =
    (rule : StalenessRule) (table : List Declared) (history : List Event) (t : ℕ) (w : Waiter) → SubmittedAreWellTyped history
    → find_waiter t (state_by rule table history).waiters ≡ Some w → IsWellTyped w.block

-- The store stays well typed. Legality alone isn't enough: a block without a type may write a value of any kind.
abbrev pub StoresAreTyped : Type 0
StoresAreTyped =
    (rule : StalenessRule) (table : List Declared) (history : List Event) → StoreIsTyped (declared_cells table)
    → SubmittedAreWellTyped history
    → IsLegalBy rule table history → StoreIsTyped (plains (state_by rule table history).store)

-- on a well typed store each well typed block that waits has a verdict, and it fits the store
abbrev pub BlocksHaveVerdicts : Type 0
BlocksHaveVerdicts =
    (rule : StalenessRule) (table : List Declared) (history : List Event) (t : ℕ) (w : Waiter) (r : ActionType)
    → IsLegalBy rule table history
    → StoreIsTyped (plains (state_by rule table history).store) → find_waiter t (state_by rule table history).waiters ≡ Some w
    → action_type (kinds_in w.block.uses) [] w.block.tree ≡ Some r
    → (v : Verdict) × (verdict_on (state_by rule table history).store w.block ≡ Some v)
    × Fits (plains (state_by rule table history).store) v
