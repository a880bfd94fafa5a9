-- The laws of histories.
use Rattle.std.proofs.Common.{◌≡◌, ℕ, false, List, [], ◌∷◌, ◌++◌, Option, Some, None, refl, ap, sym, ◌∙◌, subst, arith, length-append}
use Rattle.std.specs.Prelude.{IsSomeAnd}
use Rattle.stm_terms.specs.declared.verdicts.Verdict.{Verdict}
use Rattle.stm_terms.specs.declared.verdicts.Verdict.TheVariants.{Commits, Throws, Blocks}
use Rattle.stm_terms.specs.Ast.{Act}
use Rattle.stm_terms.specs.Typing.{kinds_in}
use Rattle.stm_store.specs.declared.cell.Cell.{Cell}
use Rattle.stm_store.specs.Cells.{plains, kinds_of, StoreIsTyped, applied}
use Rattle.stm_store.specs.Tables.{Declared, declared_cells}
use Rattle.stm_check.proofs.Weakening.{action_more, covered}
use Rattle.stm_events.specs.declared.event.Event.{Event}
use Rattle.stm_events.specs.declared.event.What.TheVariants.{Finished}
use Rattle.stm_events.specs.declared.staleness.StalenessRule.{StalenessRule}
use Rattle.stm_events.specs.SlowDesk.{Slow, Waiter, is_blocks, find_waiter, after, Allows, MayFinish, initial_state, state_by, IsLegalBy}
use Rattle.stm_events.specs.Laws.{SubmittedAreWellTyped}
use Rattle.stm_events.proofs.Covered.{blocks_are_covered}
use Rattle.stm_events.proofs.Folds.{state-push}
use Rattle.stm_events.proofs.KeptByLegalHistories.{legal-append}
use Rattle.stm_events.proofs.TypedStores.{waiting_are_well_typed, stores_are_typed}
use Rattle.stm_paper_laws.specs.Laws.{IsTypedOn}
use Rattle.stm_paper_laws.specs.Atomic.{IsAtomic, Makes}
use Rattle.stm_paper_laws.specs.Histories.{FinishesAreAtomic, BlockedWait}
use Rattle.stm_paper_laws.proofs.AtomicLaws.{verdicts_are_atomic}

-- a waiting block is well typed on the present store
typed_on : (rule : StalenessRule) (table : List Declared) (history : List Event) (t : ℕ) (w : Waiter) → StoreIsTyped (declared_cells table) → SubmittedAreWellTyped history → IsLegalBy rule table history
    → find_waiter t (state_by rule table history).waiters ≡ Some w → IsTypedOn (plains (state_by rule table history).store) w.block.tree
typed_on rule table history t w typed blocks legal e =
    let b = waiting_are_well_typed rule table history t w blocks e in
    let cells = plains (state_by rule table history).store in
    record {
      store = stores_are_typed rule table history typed blocks legal;
      typed = (b.0, action_more (kinds_in w.block.uses) (kinds_of cells) (covered cells w.block.uses (blocks_are_covered rule table history t w legal e)) w.block.tree [] b.0 b.1);
    }

pub makes_of : (block : Act) (store : List Cell) (v : Verdict) → is_blocks v ≡ false → IsAtomic block store v → Makes block store v (applied store v)
makes_of block store (Commits writes news result) e p = p
makes_of block store (Throws f) e p = p
makes_of block store Blocks e p = absurd (cc)

finishes_at : (rule : StalenessRule) (table : List Declared) (before : List Event) (t n : ℕ) (v : Verdict) (stale : List ℕ) → StoreIsTyped (declared_cells table) → SubmittedAreWellTyped before → IsLegalBy rule table before
    → (o : Option Waiter) → find_waiter t (state_by rule table before).waiters ≡ o → IsSomeAnd o (λ w. MayFinish (state_by rule table before) t w v n stale)
    → IsSomeAnd o (λ w. Makes w.block.tree (state_by rule table before).store v (after (state_by rule table before) (Finished t v n stale)).store)
finishes_at rule table before t n v stale typed blocks legal None e m = m
finishes_at rule table before t n v stale typed blocks legal (Some w) e m =
    makes_of w.block.tree (state_by rule table before).store v m.ends
    (verdicts_are_atomic (state_by rule table before).store w.block.tree v (typed_on rule table before t w typed blocks legal e) m.verdict_is)

pub finishes_are_atomic : FinishesAreAtomic
finishes_are_atomic rule table before more e t n v stale typed blocks legal is =
    let s : Slow = state_by rule table before in
    let both = legal-append (initial_state rule table) before (e ∷ more) legal.each in
    let first : IsLegalBy rule table before = record { each = both.first; few = let few = legal.few in omega (arith, length-append before (e ∷ more), few) } in
    let allowed : Allows s (Finished t v n stale) = subst (Allows s) is both.rest.0.what in
    let made = finishes_at rule table before t n v stale typed blocks first (find_waiter t s.waiters) refl allowed in
    let next : (after s (Finished t v n stale)).store ≡ (state_by rule table (before ++ e ∷ [])).store =
    ap (λ x. (after s x).store) (sym is) ∙ ap (λ z. z.store) (sym (state-push (initial_state rule table) before e)) in
    subst (λ store. IsSomeAnd (find_waiter t s.waiters) (λ w. Makes w.block.tree s.store v store)) next made

pub blocked_wait : BlockedWait
blocked_wait rule table history t w y typed blocks legal e blocked =
    verdicts_are_atomic (state_by rule table history).store w.block.tree Blocks (typed_on rule table history t w typed blocks legal e) blocked y
