-- What a declaration leaves as it is, and what later names leave of texts.
use Rattle.std.specs.Prelude.{◌≡◌, ℕ, List, [], Some, Ok}
use Rattle.stm_terms.specs.declared.kinds.Ty.{Ty}
use Rattle.stm_terms.specs.declared.values.Value.{Value}
use Rattle.stm_terms.specs.declared.verdicts.Verdict.{Verdict}
use Rattle.stm_terms.specs.Ast.{Act}
use Rattle.stm_terms.specs.ParsedAst as raw
use Rattle.stm_terms.specs.Typing.{ActionType, uses_of}
use Rattle.stm_store.specs.declared.cell.Cell.{Cell}
use Rattle.stm_store.specs.Cells.{plains, Covers, applied}
use Rattle.stm_store.specs.Naming.{known_kinds, number_named}
use Rattle.stm_check.specs.TypedBlock.{Block}
use Rattle.stm_check.specs.CheckFunction.{checked}
use Rattle.stm_events.specs.declared.event.Event.{Event}
use Rattle.stm_events.specs.declared.event.What.TheVariants.{Declared as DeclaredLate}
use Rattle.stm_events.specs.SlowDesk.{Slow, Waiter, declaration, verdict_on, standing, find_waiter, after, Allows, state_from}
use Rattle.stm_events.specs.States.{IsPossible}

-- A declaration changes nothing for the blocks that wait: the same wait, each with its last delivery; a block that has a verdict has the
-- same one after it; and each stands as it stood, so none becomes stale.
pub record DeclarationsChangeNothing : Type 0 where
  pub waiters : (s : Slow) (name : List ℕ) (kind : Ty) (value : Value) → (after s (DeclaredLate name kind value)).waiters ≡ s.waiters
  pub verdicts : (store : List Cell) (kind : Ty) (value : Value) (block : Block) (v : Verdict)
      → verdict_on store block ≡ Some v → verdict_on (applied store (declaration kind value)) block ≡ Some v
  pub standing : (s : Slow) (name : List ℕ) (kind : Ty) (value : Value) (t : ℕ) (w : Waiter)
      → IsPossible s → Allows s (DeclaredLate name kind value) → find_waiter t s.waiters ≡ Some w
      → standing (after s (DeclaredLate name kind value)).store w ≡ standing s.store w

-- No event takes a name away or gives it another number. A text that the check accepts is the same block after each event, with the same
-- type and variables; and in a state that events may go on from, the store has these.
pub record NamesStay : Type 0 where
  pub numbers : (s : Slow) (events : List Event) (name : List ℕ) (n : ℕ)
      → number_named name s.names ≡ Some n → number_named name (state_from s events).names ≡ Some n
  pub texts : (s : Slow) (events : List Event) (text : List ℕ) (parsed : raw.RawAct) (a : Act) (r : ActionType)
      → checked s.names text [] parsed ≡ Ok (a, r)
      → (checked (state_from s events).names text [] parsed ≡ Ok (a, r))
      × (uses_of (known_kinds (state_from s events).names) a ≡ uses_of (known_kinds s.names) a)
  pub covered : (s : Slow) (a : Act) → IsPossible s → Covers (plains s.store) (uses_of (known_kinds s.names) a)
