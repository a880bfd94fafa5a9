-- What a label leaves as it is, and who has one.
use Rattle.std.specs.Prelude.{◌≡◌, ℕ, List, [], None}
use Rattle.stm_events.specs.declared.event.Event.{Event}
use Rattle.stm_events.specs.declared.event.What.TheVariants.{Labelled}
use Rattle.stm_events.specs.Labels.{Labels, label_of, labels_from}
use Rattle.stm_events.specs.SlowDesk.{Slow, find_waiter, after, state_from, LegalFrom}
use Rattle.stm_events.specs.States.{IsPossible}

-- a label changes nothing of the state: not the store, not the blocks that wait, and not what their verdicts are worth
abbrev pub LabelsChangeNothing : Type 0
LabelsChangeNothing = (s : Slow) (t : ℕ) (label : List ℕ) → after s (Labelled t label) ≡ s

-- a ticket under which no block waits has no label
abbrev pub AreOfWaiting : Slow → Labels → Type 0
AreOfWaiting s labels = (t : ℕ) → find_waiter t s.waiters ≡ None → label_of t labels ≡ []

-- only waiting blocks have labels: if that is so in a possible state, it is after all events that may follow
abbrev pub LabelsAreOfWaiting : Type 0
LabelsAreOfWaiting =
    (s : Slow) (labels : Labels) (history : List Event) → IsPossible s → AreOfWaiting s labels → LegalFrom s history
    → AreOfWaiting (state_from s history) (labels_from labels history)
