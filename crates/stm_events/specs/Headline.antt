-- The promise of the scheduler, over the events of a history: which waiting blocks are marked stale, and what the verdict of
-- each other one is worth.
use Rattle.std.specs.Prelude.{◌≡◌, ℕ, Bool, true, false, not, ◌||◌, nat_eq, List, [], ◌∷◌, ◌++◌, Some}
use Rattle.stm_terms.specs.declared.verdicts.Verdict.{Verdict}
use Rattle.stm_store.specs.Tables.{Declared, opened}
use Rattle.stm_events.specs.declared.event.Event.{Event}
use Rattle.stm_events.specs.declared.event.What.{What}
use Rattle.stm_events.specs.declared.event.What.TheVariants.{Submitted, Installed, Finished, Cancelled, Declared as DeclaredLate, Labelled}
use Rattle.stm_events.specs.declared.staleness.StalenessRule.{StalenessRule}
use Rattle.stm_events.specs.declared.staleness.StalenessRule.TheVariants.{Changed}
use Rattle.stm_events.specs.SlowDesk.{Slow, Waiter, looked_on, verdict_on, waking, intersects, is_new, is_current, find_waiter, after, initial_state, state_by, serial, serial_steps_from, IsLegalBy}

-- the event is an accepted delivery to the ticket
abbrev pub installs_to : ℕ → What → Bool
installs_to t (Submitted u block) = false
installs_to t (Installed u v) = nat_eq t u
installs_to t (Finished u v n stale) = false
installs_to t (Cancelled u) = false
installs_to t (DeclaredLate name kind value) = false
installs_to t (Labelled u label) = false

-- one of the events is a delivery to the ticket
abbrev pub is_installed : ℕ → List Event → Bool
is_installed t [] = false
is_installed t (e ∷ es) = installs_to t e.what || is_installed t es

-- the variables by which an event on a state makes their readers stale: those of the verdict of a block that finishes
abbrev pub waking_at : Slow → What → List ℕ
waking_at s (Submitted t block) = []
waking_at s (Installed t v) = []
waking_at s (Finished t v n stale) = waking s.rule s.store v
waking_at s (Cancelled t) = []
waking_at s (DeclaredLate name kind value) = []
waking_at s (Labelled t label) = []

-- the variables by which these events, which begin on a state, make their readers stale
abbrev pub waking_from : Slow → List Event → List ℕ
waking_from s [] = []
waking_from s (e ∷ es) = waking_at s e.what ++ waking_from (after s e.what) es

-- the last delivery to a ticket, with the verdict that it brought, the events before it and those after it
pub record LastDelivery (history : List Event) (t : ℕ) : Type 0 where
  pub before : List Event
  pub client : ℕ
  pub verdict : Verdict
  pub later : List Event
  pub whole : history ≡ before ++ record { client = client; what = Installed t verdict } ∷ later
  pub last : is_installed t later ≡ false

-- the state that the delivery left
abbrev pub state_then_by : StalenessRule → List Declared → (history : List Event) (t : ℕ) → LastDelivery history t → Slow
state_then_by rule table history t d = after (state_by rule table d.before) (Installed t d.verdict)

-- What a delivery to a waiting block means: its verdict is that of the store at the delivery; the block is marked stale
-- exactly if a block that finished since then changed (under the earlier rule: wrote) a variable that its evaluation read,
-- reads of discarded branches included; and if it isn't marked so, running the block from scratch on the present store
-- gives that verdict. Under the present rule `waking_from` are the variables that the verdicts of these blocks change, by
-- `changed_by`, each on the store on which it took effect.
pub record IsMarkedRightlyBy
    (rule : StalenessRule) (table : List Declared) (history : List Event) (t : ℕ) (w : Waiter) (d : LastDelivery history t)
    : Type 0 where
  pub evaluated : verdict_on (state_by rule table d.before).store w.block ≡ Some d.verdict
  pub marked : not (is_current w)
      ≡ intersects (waking_from (state_then_by rule table history t d) d.later)
      (looked_on (state_by rule table d.before).store w.block)
  pub present : is_current w ≡ true → verdict_on (state_by rule table history).store w.block ≡ Some d.verdict

-- a waiting block is new, and nothing was delivered to it, or its last delivery is marked rightly
pub data IsKnownBy (rule : StalenessRule) (table : List Declared) (history : List Event) (t : ℕ) (w : Waiter) : Type 0 where
  Fresh : is_new w ≡ true → is_installed t history ≡ false → IsKnownBy rule table history t w
  Evaluated : is_new w ≡ false → (d : LastDelivery history t) → IsMarkedRightlyBy rule table history t w d
      → IsKnownBy rule table history t w

-- of every waiting block that, and the store is that of running the finished blocks alone and making the declared variables, one after
-- another
pub record HeadlineHoldsBy (rule : StalenessRule) (table : List Declared) (history : List Event) : Type 0 where
  pub blocks : (t : ℕ) (w : Waiter) → find_waiter t (state_by rule table history).waiters ≡ Some w
      → IsKnownBy rule table history t w
  pub store : (state_by rule table history).store ≡ serial (opened table) (serial_steps_from (initial_state rule table) history)

-- so it is after every legal history, by a rule of what makes blocks stale
abbrev pub HeadlineBy : StalenessRule → Type 0
HeadlineBy rule =
    (table : List Declared) (history : List Event) → IsLegalBy rule table history → HeadlineHoldsBy rule table history

-- under the present rule, by which a variable makes its readers stale where its value is changed
abbrev pub Headline : Type 0
Headline = HeadlineBy Changed
