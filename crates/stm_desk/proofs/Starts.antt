-- The state that a history begins from is possible, all in it is well typed, and it leaves enough tickets.
use Rattle.std.proofs.Common.{◌≡◌, ℕ, ◌≤◌, List, Option, Some, None, refl, sym, subst, arith}
use Rattle.stm_store.specs.Cells.{StoreIsTyped}
use Rattle.stm_store.specs.Tables.{Declared, declared_cells}
use Rattle.stm_store.proofs.Opening.{plains-opened}
use Rattle.stm_events.specs.declared.staleness.StalenessRule.TheVariants.{Changed}
use Rattle.stm_events.specs.declared.event.Event.{Event}
use Rattle.stm_events.specs.Laws.{SubmittedAreWellTyped}
use Rattle.stm_events.specs.SlowDesk.{Slow, state_from, LegalFrom, IsLegal, state}
use Rattle.stm_events.specs.Headline.{HeadlineHoldsBy}
use Rattle.stm_events.specs.States.{IsPossible, IsTypedState, IsLegalFrom}
use Rattle.stm_events.proofs.Headline.{headline}
use Rattle.stm_events.proofs.Possible.{possible_initial}
use Rattle.stm_events.proofs.TypedStores.{typed_initial, typed_from}
use Rattle.stm_machine.specs.Checkpoints.{CheckpointView, start_of, MayStart, max_next}
use Rattle.stm_machine.specs.Machine.{Parts}
use Rattle.stm_machine.proofs.CheckpointStates.{is_possible, checkpoints_are_possible}
use Rattle.stm_desk.specs.Kept.{DeskInvariant}

pub start_possible : (table : List Declared) (o : Option CheckpointView) → MayStart table o → IsPossible (start_of table o)
start_possible table None m = possible_initial Changed table
start_possible table (Some c) m = is_possible c m.0

pub start_typed : (table : List Declared) (o : Option CheckpointView) → MayStart table o → StoreIsTyped (declared_cells table) → IsTypedState (start_of table o)
start_typed table None m cells = typed_initial Changed table (subst StoreIsTyped (sym (plains-opened table)) cells)
start_typed table (Some c) m cells = (checkpoints_are_possible c m.0).1

pub start_rule : (table : List Declared) (o : Option CheckpointView) → (start_of table o).rule ≡ Changed
start_rule table None = refl
start_rule table (Some c) = refl

pub start_next : (table : List Declared) (o : Option CheckpointView) → MayStart table o → (start_of table o).next ≤ max_next
start_next table None m = omega arith
start_next table (Some c) m = m.0.tickets

-- events that are legal from a possible state in which all is well typed, as each block that they submit is
pub record IsTypedHistory (s : Slow) (history : List Event) : Type 0 where
  pub possible : IsPossible s
  pub state : IsTypedState s
  pub rule : s.rule ≡ Changed
  pub legal : LegalFrom s history
  pub typed : SubmittedAreWellTyped history

-- so is the history of a desk
pub typed_history : (table : List Declared) (o : Option CheckpointView) (limit : ℕ) (history : List Event) (m : Parts) → DeskInvariant table o limit history m → StoreIsTyped (declared_cells table) → IsTypedHistory (start_of table o) history
typed_history table o limit history m k cells = record {
  possible = start_possible table o k.start;
  state = start_typed table o k.start cells;
  rule = start_rule table o;
  legal = k.legal.each;
  typed = k.typed;
}

-- and all is well typed in the state that it leads to
pub typed_now : (s : Slow) (history : List Event) → IsTypedHistory s history → IsTypedState (state_from s history)
typed_now s history k = typed_from s history k.possible k.legal k.typed k.state

-- ---- a history that begins with the first values of the variables
pub legal_of_variables : (table : List Declared) (o : Option CheckpointView) (history : List Event) → o ≡ None → IsLegalFrom (start_of table o) history → IsLegal table history
legal_of_variables table None history e l = record { each = l.each; few = l.few }
legal_of_variables table (Some c) history e l = absurd (cc)

-- the promise of the scheduler holds of it
pub headline_of_variables : (table : List Declared) (o : Option CheckpointView) (history : List Event) → IsLegalFrom (start_of table o) history → o ≡ None → HeadlineHoldsBy Changed table history
headline_of_variables table o history l e = headline Changed table history (legal_of_variables table o history e l)
