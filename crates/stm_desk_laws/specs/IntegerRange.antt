-- The range of the language's integers. If the literals of a block and the values of a store are in it, so is each value of the block's
-- verdict, since arithmetic that leaves the range is an overflow; and so is each value of a history's verdicts and stores.
use Rattle.std.specs.Prelude.{◌≡◌, ℕ, true, List, [], ◌∷◌, Some, IfSome, ⊤}
use Rattle.stm_terms.specs.declared.kinds.Ty.{Ty}
use Rattle.stm_terms.specs.declared.values.Value.{Value}
use Rattle.stm_terms.specs.declared.values.Value.TheVariants.{Int, Bool as Truth, Unit as Nil, Var}
use Rattle.stm_terms.specs.declared.values.Fault.{Fault}
use Rattle.stm_terms.specs.declared.values.Fault.TheVariants.{Thrown, Overflow}
use Rattle.stm_terms.specs.declared.verdicts.Verdict.{Verdict}
use Rattle.stm_terms.specs.declared.verdicts.Verdict.TheVariants.{Commits, Throws, Blocks}
use Rattle.stm_terms.specs.Ast.{Term, lit, local, global, bin, Act, return, read, write, make, retry, throw, if_else, or_else, bind, let_in, seq, catch}
use Rattle.stm_terms.specs.Changes.{Variables}
use Rattle.stm_terms.specs.Value.{fits_i64}
use Rattle.stm_terms.specs.Verdict.{verdict}
use Rattle.stm_store.specs.declared.cell.Cell.{Cell}
use Rattle.stm_store.specs.Tables.{Declared}
use Rattle.stm_events.specs.declared.event.Event.{Event}
use Rattle.stm_events.specs.declared.event.What.{What}
use Rattle.stm_events.specs.declared.event.What.TheVariants.{Submitted, Installed, Finished, Cancelled, Declared as DeclaredLate, Labelled}
use Rattle.stm_events.specs.declared.staleness.StalenessRule.{StalenessRule}
use Rattle.stm_events.specs.SlowDesk.{Waiter, Slow, initial_state, state_from, LegalFrom}

-- ---- blocks and their verdicts
-- the integer is from -9223372036854775808 to 9223372036854775807; any other value is in range
abbrev pub Is64Bit : Value → Type 0
Is64Bit (Int n) = fits_i64 n ≡ true
Is64Bit (Truth b) = ⊤
Is64Bit Nil = ⊤
Is64Bit (Var r) = ⊤

-- so is each literal of an expression
abbrev pub IsTerm64Bit : Term → Type 0
IsTerm64Bit (lit v) = Is64Bit v
IsTerm64Bit (local i) = ⊤
IsTerm64Bit (global i) = ⊤
IsTerm64Bit (bin op a b) = IsTerm64Bit a × IsTerm64Bit b

-- so is each literal of an action
abbrev pub IsAct64Bit : Act → Type 0
IsAct64Bit (return e) = IsTerm64Bit e
IsAct64Bit (read e) = IsTerm64Bit e
IsAct64Bit (write r e) = IsTerm64Bit r × IsTerm64Bit e
IsAct64Bit (make t e) = IsTerm64Bit e
IsAct64Bit retry = ⊤
IsAct64Bit (throw e) = IsTerm64Bit e
IsAct64Bit (if_else e a b) = IsTerm64Bit e × IsAct64Bit a × IsAct64Bit b
IsAct64Bit (or_else a b) = IsAct64Bit a × IsAct64Bit b
IsAct64Bit (bind a b) = IsAct64Bit a × IsAct64Bit b
IsAct64Bit (let_in e b) = IsTerm64Bit e × IsAct64Bit b
IsAct64Bit (seq a b) = IsAct64Bit a × IsAct64Bit b
IsAct64Bit (catch a b) = IsAct64Bit a × IsAct64Bit b

-- so is each value of these variables
abbrev pub AreVariables64Bit : Variables → Type 0
AreVariables64Bit under = (i : ℕ) → IfSome (under i) Is64Bit

-- so is each value that is written
abbrev pub AreWrites64Bit : List (ℕ × Value) → Type 0
AreWrites64Bit [] = ⊤
AreWrites64Bit (w ∷ ws) = Is64Bit w.1 × AreWrites64Bit ws

-- so is the value of each new variable
abbrev pub AreNews64Bit : List (Ty × Value) → Type 0
AreNews64Bit [] = ⊤
AreNews64Bit (c ∷ cs) = Is64Bit c.1 × AreNews64Bit cs

-- so is the number that is thrown
abbrev pub IsFault64Bit : Fault → Type 0
IsFault64Bit (Thrown n) = Is64Bit (Int n)
IsFault64Bit Overflow = ⊤

-- so is each value of a verdict
abbrev pub IsVerdict64Bit : Verdict → Type 0
IsVerdict64Bit (Commits writes news result) = AreWrites64Bit writes × AreNews64Bit news × Is64Bit result
IsVerdict64Bit (Throws f) = IsFault64Bit f
IsVerdict64Bit Blocks = ⊤

-- the verdict of a block in range on variables in range is in range
abbrev pub VerdictsAre64Bit : Type 0
VerdictsAre64Bit =
    (under : Variables) (block : Act) (found : Verdict)
    → AreVariables64Bit under → IsAct64Bit block → verdict under block ≡ Some found → IsVerdict64Bit found

-- ---- histories
-- the values of a store are in range
abbrev pub AreCells64Bit : List Cell → Type 0
AreCells64Bit [] = ⊤
AreCells64Bit (c ∷ cs) = Is64Bit c.value × AreCells64Bit cs

-- so are the literals of the blocks that wait
abbrev pub AreWaiters64Bit : List Waiter → Type 0
AreWaiters64Bit [] = ⊤
AreWaiters64Bit (w ∷ ws) = IsAct64Bit w.block.tree × AreWaiters64Bit ws

-- so are the values and the waiting blocks of a state
pub record IsState64Bit (s : Slow) : Type 0 where
  pub store : AreCells64Bit s.store
  pub blocks : AreWaiters64Bit s.waiters

-- so are the first values of a table
abbrev pub AreDeclared64Bit : List Declared → Type 0
AreDeclared64Bit [] = ⊤
AreDeclared64Bit (d ∷ ds) = Is64Bit d.value × AreDeclared64Bit ds

-- so is what a client gives: the literals of a block that is submitted, and the first value of a variable
abbrev pub IsGiven64Bit : What → Type 0
IsGiven64Bit (Submitted ticket block) = IsAct64Bit block.tree
IsGiven64Bit (Installed ticket v) = ⊤
IsGiven64Bit (Finished ticket v first_new stale) = ⊤
IsGiven64Bit (Cancelled ticket) = ⊤
IsGiven64Bit (DeclaredLate name kind value) = Is64Bit value
IsGiven64Bit (Labelled ticket label) = ⊤

-- so is each value of an event's verdict
abbrev pub HasVerdict64Bit : What → Type 0
HasVerdict64Bit (Submitted ticket block) = ⊤
HasVerdict64Bit (Installed ticket v) = IsVerdict64Bit v
HasVerdict64Bit (Finished ticket v first_new stale) = IsVerdict64Bit v
HasVerdict64Bit (Cancelled ticket) = ⊤
HasVerdict64Bit (DeclaredLate name kind value) = ⊤
HasVerdict64Bit (Labelled ticket label) = ⊤

-- so is what clients give in these events
abbrev pub AreGiven64Bit : List Event → Type 0
AreGiven64Bit [] = ⊤
AreGiven64Bit (e ∷ es) = IsGiven64Bit e.what × AreGiven64Bit es

-- so are the verdicts of these events
abbrev pub HaveVerdicts64Bit : List Event → Type 0
HaveVerdicts64Bit [] = ⊤
HaveVerdicts64Bit (e ∷ es) = HasVerdict64Bit e.what × HaveVerdicts64Bit es

-- A state with a table in range, in which nothing has happened, is in range. If clients give what is in range, then from a state in range
-- on each verdict of a legal history is in range, and so is the state that it leads to.
pub record HistoriesStay64Bit : Type 0 where
  pub initial : (rule : StalenessRule) (table : List Declared) → AreDeclared64Bit table → IsState64Bit (initial_state rule table)
  pub verdicts : (s : Slow) (events : List Event) → IsState64Bit s → LegalFrom s events → AreGiven64Bit events → HaveVerdicts64Bit events
  pub later : (s : Slow) (events : List Event) → IsState64Bit s → LegalFrom s events → AreGiven64Bit events
      → IsState64Bit (state_from s events)
