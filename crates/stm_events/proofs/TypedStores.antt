-- The store stays well typed, and so do the blocks that wait.
use Rattle.std.proofs.Common.{◌≡◌, ℕ, Bool, true, false, cond, List, [], ◌∷◌, ◌++◌, map, Option, Some, None, refl, sym, subst}
use Rattle.std.specs.Prelude.{nat_eq, IsSomeAnd}
use Rattle.stm_terms.specs.declared.kinds.Ty.{Ty}
use Rattle.stm_terms.specs.declared.values.Value.{Value}
use Rattle.stm_terms.specs.declared.verdicts.Verdict.{Verdict}
use Rattle.stm_store.specs.declared.cell.Cell.{Cell}
use Rattle.stm_store.specs.Cells.{plains, Covers, Fits, StoreIsTyped, applied}
use Rattle.stm_store.proofs.ApplyPreservesTyping.{applied_typed, kinds_stay}
use Rattle.stm_store.proofs.Opening.{plains-opened}
use Rattle.stm_store.specs.Naming.{named_uses}
use Rattle.stm_store.specs.Tables.{Declared, opened}
use Rattle.stm_check.specs.TypedBlock.{Block}
use Rattle.stm_check.proofs.TypingLaws.{every_verdict_fits}
use Rattle.stm_check.proofs.Weakening.{verdict_fits}
use Rattle.stm_events.specs.declared.event.Event.{Event}
use Rattle.stm_events.specs.declared.event.What.{What}
use Rattle.stm_events.specs.declared.event.What.TheVariants.{Submitted, Installed, Finished, Cancelled, Declared as DeclaredLate, Labelled}
use Rattle.stm_events.specs.declared.staleness.StalenessRule.{StalenessRule}
use Rattle.stm_events.specs.SlowDesk.{Since, Waiter, Slow, declaration, verdict_on, waking, MayFinish, find_waiter, without_waiter, with_delivery, delivered, woken_more, after_writes, after, Allows, initial_state, state_from, state_by, LegalFrom}
use Rattle.stm_events.specs.Laws.{IsWellTyped, SubmitsWellTyped, SubmittedAreWellTyped, WaitingAreWellTyped, StoresAreTyped, BlocksHaveVerdicts}
use Rattle.stm_events.specs.States.{AreCovered, AreWellTyped, WasTyped, WereTyped, IsPossible, IsTypedState, TypedStatesStay}
use Rattle.stm_events.proofs.Covered.{covered_waiter, blocks_are_covered}
use Rattle.stm_events.proofs.NamedVariables.{declaration_fits}
use Rattle.stm_events.proofs.Possible.{possible_initial, possible_after}

-- ---- the blocks that wait
without_cons : (b : Bool) (w : Waiter) (ws vs : List Waiter) → IsWellTyped w.block → AreWellTyped ws → AreWellTyped vs → AreWellTyped (cond b ws (w ∷ vs))
without_cons true w ws vs c cs ds = cs
without_cons false w ws vs c cs ds = (c, ds)

typed_without : (t : ℕ) (ws : List Waiter) → AreWellTyped ws → AreWellTyped (without_waiter t ws)
typed_without t [] c = tt
typed_without t (w ∷ ws) c = without_cons (nat_eq t w.ticket) w ws (without_waiter t ws) c.0 c.1 (typed_without t ws c.1)

delivered_cons : (b : Bool) (v w : Waiter) (ws vs : List Waiter) → IsWellTyped v.block → IsWellTyped w.block → AreWellTyped ws → AreWellTyped vs → AreWellTyped (cond b (v ∷ ws) (w ∷ vs))
delivered_cons true v w ws vs c d cs ds = (c, cs)
delivered_cons false v w ws vs c d cs ds = (d, ds)

typed_delivered : (t : ℕ) (s : List Cell) (ws : List Waiter) → AreWellTyped ws → AreWellTyped (delivered t s ws)
typed_delivered t s [] c = tt
typed_delivered t s (w ∷ ws) c = delivered_cons (nat_eq t w.ticket) (with_delivery s w) w ws (delivered t s ws) c.0 c.0 c.1 (typed_delivered t s ws c.1)

typed_marks : (woken : List ℕ) (ws : List Waiter) → AreWellTyped ws → AreWellTyped (map (after_writes woken) ws)
typed_marks woken [] c = tt
typed_marks woken (w ∷ ws) c = (c.0, typed_marks woken ws c.1)

typed_push : (w : Waiter) (ws : List Waiter) → AreWellTyped ws → IsWellTyped w.block → AreWellTyped (ws ++ w ∷ [])
typed_push w [] c d = (d, tt)
typed_push w (v ∷ ws) c d = (c.0, typed_push w ws c.1 d)

blocks_after : (s : Slow) (d : What) → AreWellTyped s.waiters → SubmitsWellTyped d → AreWellTyped (after s d).waiters
blocks_after s (Submitted t b) c a = typed_push _ s.waiters c a
blocks_after s (Installed t v) c a = typed_delivered t s.store s.waiters c
blocks_after s (Finished t v n l) c a = typed_marks (waking s.rule s.store v) (without_waiter t s.waiters) (typed_without t s.waiters c)
blocks_after s (Cancelled t) c a = typed_without t s.waiters c
blocks_after s (DeclaredLate name kind value) c a = c
blocks_after s (Labelled t label) c a = c

found_cons : (b : Bool) (w one : Waiter) (o : Option Waiter) → IsWellTyped w.block → (o ≡ Some one → IsWellTyped one.block) → cond b (Some w) o ≡ Some one → IsWellTyped one.block
found_cons true w one o c more e = let h : w ≡ one = cc in subst (λ (x : Waiter). IsWellTyped x.block) h c
found_cons false w one o c more e = more e

typed_waiter : (t : ℕ) (ws : List Waiter) (one : Waiter) → AreWellTyped ws → find_waiter t ws ≡ Some one → IsWellTyped one.block
typed_waiter t [] one c e = cc
typed_waiter t (w ∷ ws) one c e = found_cons (nat_eq t w.ticket) w one (find_waiter t ws) c.0 (typed_waiter t ws one c.1) e

blocks_from : (s : Slow) (es : List Event) → SubmittedAreWellTyped es → AreWellTyped s.waiters → AreWellTyped (state_from s es).waiters
blocks_from s [] w c = c
blocks_from s (e ∷ es) w c = blocks_from (after s e.what) es w.1 (blocks_after s e.what c w.0)

-- of histories one after the other
pub submitted-append : (before more : List Event) → SubmittedAreWellTyped before → SubmittedAreWellTyped more → SubmittedAreWellTyped (before ++ more)
submitted-append [] more w u = u
submitted-append (e ∷ before) more w u = (w.0, submitted-append before more w.1 u)

pub waiting_are_well_typed : WaitingAreWellTyped
waiting_are_well_typed rule table history t w typed e = typed_waiter t (state_by rule table history).waiters w (blocks_from (initial_state rule table) history typed tt) e

-- ---- the store
finished_typed : (s : Slow) (t : ℕ) (v : Verdict) (n : ℕ) (l : List ℕ) (o : Option Waiter) → AreCovered s.store s.waiters → AreWellTyped s.waiters → StoreIsTyped (plains s.store) → find_waiter t s.waiters ≡ o
    → IsSomeAnd o (λ w. MayFinish s t w v n l) → StoreIsTyped (plains (applied s.store v))
finished_typed s t v n l None c bs k e m = absurd m
finished_typed s t v n l (Some w) c bs k e m =
    let b = typed_waiter t s.waiters w bs e in
    applied_typed s.store v (verdict_fits (plains s.store) w.block.uses w.block.tree b.0 v k (covered_waiter t s.store s.waiters w c e) b.1 m.verdict_is) k

store_after : (s : Slow) (d : What) → Covers (plains s.store) (named_uses s.names) → AreCovered s.store s.waiters → AreWellTyped s.waiters → StoreIsTyped (plains s.store) → Allows s d → StoreIsTyped (plains (after s d).store)
store_after s (Submitted t b) n c bs k a = k
store_after s (Installed t v) n c bs k a = k
store_after s (Finished t v f l) n c bs k a = finished_typed s t v f l (find_waiter t s.waiters) c bs k refl a
store_after s (Cancelled t) n c bs k a = k
store_after s (DeclaredLate name kind value) n c bs k a = applied_typed s.store (declaration kind value) (declaration_fits s name kind value n a) k
store_after s (Labelled t label) n c bs k a = k

-- ---- the stores of the deliveries
were_without_cons : (b : Bool) (store : List Cell) (w : Waiter) (ws vs : List Waiter) → WasTyped store w.since → WereTyped store ws → WereTyped store vs → WereTyped store (cond b ws (w ∷ vs))
were_without_cons true store w ws vs c cs ds = cs
were_without_cons false store w ws vs c cs ds = (c, ds)

were_without : (t : ℕ) (store : List Cell) (ws : List Waiter) → WereTyped store ws → WereTyped store (without_waiter t ws)
were_without t store [] c = tt
were_without t store (w ∷ ws) c = were_without_cons (nat_eq t w.ticket) store w ws (without_waiter t ws) c.0 c.1 (were_without t store ws c.1)

were_delivered_cons : (b : Bool) (store : List Cell) (v w : Waiter) (ws vs : List Waiter) → WasTyped store v.since → WasTyped store w.since → WereTyped store ws → WereTyped store vs → WereTyped store (cond b (v ∷ ws) (w ∷ vs))
were_delivered_cons true store v w ws vs c d cs ds = (c, cs)
were_delivered_cons false store v w ws vs c d cs ds = (d, ds)

were_delivered : (t : ℕ) (store : List Cell) (ws : List Waiter) → StoreIsTyped (plains store) → WereTyped store ws → WereTyped store (delivered t store ws)
were_delivered t store [] k c = tt
were_delivered t store (w ∷ ws) k c =
    were_delivered_cons (nat_eq t w.ticket) store (with_delivery store w) w ws (delivered t store ws) (k, λ i r e. e) c.0 c.1 (were_delivered t store ws k c.1)

was_more : (rule : StalenessRule) (store : List Cell) (v : Verdict) (o : Option Since) → WasTyped store o → WasTyped (applied store v) (woken_more (waking rule store v) o)
was_more rule store v None c = tt
was_more rule store v (Some s) c = (c.0, λ i k e. kinds_stay store v i k (c.1 i k e))

were_marks : (rule : StalenessRule) (store : List Cell) (v : Verdict) (ws : List Waiter) → WereTyped store ws → WereTyped (applied store v) (map (after_writes (waking rule store v)) ws)
were_marks rule store v [] c = tt
were_marks rule store v (w ∷ ws) c = (was_more rule store v w.since c.0, were_marks rule store v ws c.1)

were_push : (store : List Cell) (t : ℕ) (block : Block) (ws : List Waiter) → WereTyped store ws → WereTyped store (ws ++ record { ticket = t; block = block; since = None } ∷ [])
were_push store t block [] c = (tt, tt)
were_push store t block (w ∷ ws) c = (c.0, were_push store t block ws c.1)

-- a variable more
was_declared : (store : List Cell) (kind : Ty) (value : Value) (o : Option Since) → WasTyped store o → WasTyped (applied store (declaration kind value)) o
was_declared store kind value None c = tt
was_declared store kind value (Some s) c = (c.0, λ i k e. kinds_stay store (declaration kind value) i k (c.1 i k e))

were_declared : (store : List Cell) (kind : Ty) (value : Value) (ws : List Waiter) → WereTyped store ws → WereTyped (applied store (declaration kind value)) ws
were_declared store kind value [] c = tt
were_declared store kind value (w ∷ ws) c = (was_declared store kind value w.since c.0, were_declared store kind value ws c.1)

were_after : (s : Slow) (d : What) → StoreIsTyped (plains s.store) → WereTyped s.store s.waiters → WereTyped (after s d).store (after s d).waiters
were_after s (Submitted t b) k c = were_push s.store t b s.waiters c
were_after s (Installed t v) k c = were_delivered t s.store s.waiters k c
were_after s (Finished t v n l) k c = were_marks s.rule s.store v (without_waiter t s.waiters) (were_without t s.store s.waiters c)
were_after s (Cancelled t) k c = were_without t s.store s.waiters c
were_after s (DeclaredLate name kind value) k c = were_declared s.store kind value s.waiters c
were_after s (Labelled t label) k c = c

-- ---- states
pub typed_initial : (rule : StalenessRule) (table : List Declared) → StoreIsTyped (plains (opened table)) → IsTypedState (initial_state rule table)
typed_initial rule table k = record { store = k; blocks = tt; deliveries = tt }

pub typed_after : (s : Slow) (what : What) → IsPossible s → Allows s what → SubmitsWellTyped what → IsTypedState s → IsTypedState (after s what)
typed_after s what p a w k = record {
  store = store_after s what p.named p.covered k.blocks k.store a;
  blocks = blocks_after s what k.blocks w;
  deliveries = were_after s what k.store k.deliveries;
}

pub typed_from : (s : Slow) (events : List Event) → IsPossible s → LegalFrom s events → SubmittedAreWellTyped events → IsTypedState s → IsTypedState (state_from s events)
typed_from s [] p l w k = k
typed_from s (e ∷ es) p l w k = typed_from (after s e.what) es (possible_after s e.what p l.0.what) l.1 w.1 (typed_after s e.what p l.0.what w.0 k)

pub typed_verdict : (s : Slow) (t : ℕ) (w : Waiter) → IsPossible s → IsTypedState s → find_waiter t s.waiters ≡ Some w → (v : Verdict) × (verdict_on s.store w.block ≡ Some v) × Fits (plains s.store) v
typed_verdict s t w p k e =
    let b = typed_waiter t s.waiters w k.blocks e in
    every_verdict_fits (plains s.store) w.block.uses w.block.tree b.0 k.store (covered_waiter t s.store s.waiters w p.covered e) b.1

pub typed_states_stay : TypedStatesStay
typed_states_stay = record { initial = typed_initial; later = typed_from; verdicts = typed_verdict }

pub stores_are_typed : StoresAreTyped
stores_are_typed rule table history typed blocks legal =
    (typed_from (initial_state rule table) history (possible_initial rule table) legal.each blocks
    (typed_initial rule table (subst StoreIsTyped (sym (plains-opened table)) typed))).store

pub blocks_have_verdicts : BlocksHaveVerdicts
blocks_have_verdicts rule table history t w r legal typed e action =
    every_verdict_fits (plains (state_by rule table history).store) w.block.uses w.block.tree r typed (blocks_are_covered rule table history t w legal e) action
