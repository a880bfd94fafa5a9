-- What the events of a desk have to do with `atomic`.
use Rattle.std.specs.Prelude.{◌≡◌, ℕ, List, [], ◌∷◌, ◌++◌, Some, IsSomeAnd}
use Rattle.stm_terms.specs.declared.verdicts.Verdict.{Verdict}
use Rattle.stm_terms.specs.declared.verdicts.Verdict.TheVariants.{Blocks}
use Rattle.stm_terms.specs.Ast.{lit, Act, make}
use Rattle.stm_store.specs.Cells.{StoreIsTyped}
use Rattle.stm_store.specs.Tables.{Declared, declared_cells, opened}
use Rattle.stm_events.specs.declared.event.Event.{Event}
use Rattle.stm_events.specs.declared.event.What.TheVariants.{Finished}
use Rattle.stm_events.specs.declared.staleness.StalenessRule.{StalenessRule}
use Rattle.stm_events.specs.SlowDesk.{Waiter, SerialStep, Runs, Declares, verdict_on, find_waiter, initial_state, state_by, serial_steps_from, IsLegalBy}
use Rattle.stm_events.specs.Laws.{SubmittedAreWellTyped}
use Rattle.stm_paper_laws.specs.Transitions.{Heap, ◌⇝◌}
use Rattle.stm_paper_laws.specs.Atomic.{store_heap, Makes}

-- In a legal history each block that finishes does what `atomic` does with it on the store of that moment: one step of ARET or ATHROW
-- leads to the store after the event. The declared variables and the submitted blocks are well typed, as the desk's own types say.
abbrev pub FinishesAreAtomic : Type 0
FinishesAreAtomic =
    (rule : StalenessRule) (table : List Declared) (before more : List Event) (e : Event) (t n : ℕ) (v : Verdict) (stale : List ℕ)
    → StoreIsTyped (declared_cells table) → SubmittedAreWellTyped before → IsLegalBy rule table (before ++ e ∷ more)
    → e.what ≡ Finished t v n stale
    → IsSomeAnd
    (find_waiter t (state_by rule table before).waiters)
    (λ w. Makes w.block.tree (state_by rule table before).store v (state_by rule table (before ++ e ∷ [])).store)

-- And a waiting block whose verdict on the present store is that it blocks can't make a step there.
abbrev pub BlockedWait : Type 0
BlockedWait =
    (rule : StalenessRule) (table : List Declared) (history : List Event) (t : ℕ) (w : Waiter) (y : Act × Heap)
    → StoreIsTyped (declared_cells table) → SubmittedAreWellTyped history → IsLegalBy rule table history
    → find_waiter t (state_by rule table history).waiters ≡ Some w
    → verdict_on (state_by rule table history).store w.block ≡ Some Blocks
    → (w.block.tree, store_heap (state_by rule table history).store) ⇝ y → ⊥

-- what runs in a turn: a block, or the `newTVar` of a variable that is declared
abbrev pub turn_action : SerialStep → Act
turn_action (Runs b) = b.tree
turn_action (Declares kind value) = make kind (lit value)

-- these turns, in one step of `atomic` each, lead from a heap to another one
pub data AreAtomicTurns : List SerialStep → Heap → Heap → Type 0 where
  no_turns : {Θ : Heap} → AreAtomicTurns [] Θ Θ
  one_turn : {t : SerialStep} {ts : List SerialStep} {N : Act} {Θ Θ' Θ'' : Heap}
      → (turn_action t, Θ) ⇝ (N, Θ') → AreAtomicTurns ts Θ' Θ'' → AreAtomicTurns (t ∷ ts) Θ Θ''

-- So a legal history does what a program of the paper does that runs its blocks one after another, in the order in which they finish.
abbrev pub HistoriesAreAtomic : Type 0
HistoriesAreAtomic =
    (rule : StalenessRule) (table : List Declared) (history : List Event)
    → StoreIsTyped (declared_cells table) → SubmittedAreWellTyped history → IsLegalBy rule table history
    → AreAtomicTurns (serial_steps_from (initial_state rule table) history) (store_heap (opened table)) (store_heap (state_by rule table history).store)
