-- What a current block did at its delivery, it does on the present store.
use Rattle.std.proofs.Common.{◌≡◌, ⊎_elim, ℕ, Bool, true, false, ◌||◌, cond, List, [], ◌∷◌, ◌++◌, map, Option, Some, None, IsSome, refl, sym, subst, ◌∙◌}
use Rattle.std.specs.Prelude.{nat_eq}
use Rattle.std.specs.List.{list_any}
use Rattle.std.proofs.lemmas.List.Folds.{list_any-append}
use Rattle.stm_terms.specs.declared.kinds.Ty.{Ty}
use Rattle.stm_terms.specs.declared.values.Value.{Value}
use Rattle.stm_terms.specs.declared.verdicts.Verdict.{Verdict}
use Rattle.stm_terms.specs.Changes.{find}
use Rattle.stm_terms.specs.ReadSet.{reads_of}
use Rattle.stm_store.specs.declared.cell.Cell.{Cell}
use Rattle.stm_store.specs.Cells.{applied}
use Rattle.stm_store.specs.Tables.{Declared}
use Rattle.stm_check.specs.TypedBlock.{Block}
use Rattle.stm_eval.specs.Laws.{In}
use Rattle.stm_eval.specs.Messages.{Agrees, Holds}
use Rattle.stm_eval.proofs.FragmentsAndStores.{looked, holds_agrees, holds_again}
use Rattle.stm_events.specs.declared.event.Event.{Event}
use Rattle.stm_events.specs.declared.event.What.{What}
use Rattle.stm_events.specs.declared.event.What.TheVariants.{Submitted, Installed, Finished, Cancelled, Declared as DeclaredLate, Labelled}
use Rattle.stm_events.specs.declared.staleness.StalenessRule.{StalenessRule}
use Rattle.stm_events.specs.declared.staleness.StalenessRule.TheVariants.{Written}
use Rattle.stm_events.specs.SlowDesk.{Since, Waiter, Slow, declaration, under, looked_on, waking, intersects, is_stale_since, find_waiter, without_waiter, with_delivery, delivered, woken_more, after_writes, after, initial_state, state_from, state_by}
use Rattle.stm_events.specs.Laws.{CurrentHolds}
use Rattle.stm_events.specs.States.{IsUnwoken, AreUnwoken}
use Rattle.stm_events.proofs.Stores.{or_left, or_right, value_stays}

fresh_without_cons : (b : Bool) (s : List Cell) (w : Waiter) (ws vs : List Waiter) → IsUnwoken s w.since → AreUnwoken s ws → AreUnwoken s vs → AreUnwoken s (cond b ws (w ∷ vs))
fresh_without_cons true s w ws vs c cs ds = cs
fresh_without_cons false s w ws vs c cs ds = (c, ds)

pub fresh_without : (t : ℕ) (s : List Cell) (ws : List Waiter) → AreUnwoken s ws → AreUnwoken s (without_waiter t ws)
fresh_without t s [] c = tt
fresh_without t s (w ∷ ws) c = fresh_without_cons (nat_eq t w.ticket) s w ws (without_waiter t ws) c.0 c.1 (fresh_without t s ws c.1)

fresh_delivered_cons : (b : Bool) (s : List Cell) (v w : Waiter) (ws vs : List Waiter) → IsUnwoken s v.since → IsUnwoken s w.since → AreUnwoken s ws → AreUnwoken s vs → AreUnwoken s (cond b (v ∷ ws) (w ∷ vs))
fresh_delivered_cons true s v w ws vs c d cs ds = (c, cs)
fresh_delivered_cons false s v w ws vs c d cs ds = (d, ds)

fresh_delivered : (t : ℕ) (s : List Cell) (ws : List Waiter) → AreUnwoken s ws → AreUnwoken s (delivered t s ws)
fresh_delivered t s [] c = tt
fresh_delivered t s (w ∷ ws) c = fresh_delivered_cons (nat_eq t w.ticket) s (with_delivery s w) w ws (delivered t s ws) (λ i x h e. e) c.0 c.1 (fresh_delivered t s ws c.1)

fresh_push : (s : List Cell) (w : Waiter) (ws : List Waiter) → AreUnwoken s ws → w.since ≡ None → AreUnwoken s (ws ++ w ∷ [])
fresh_push s w [] c d = (rw d tt, tt)
fresh_push s w (v ∷ ws) c d = (c.0, fresh_push s w ws c.1 d)

unwoken_more : (rule : StalenessRule) (v : Verdict) (store : List Cell) (o : Option Since) → IsUnwoken store o → IsUnwoken (applied store v) (woken_more (waking rule store v) o)
unwoken_more rule v store None u = tt
unwoken_more rule v store (Some s) u = λ i x h e.
    let k : (list_any (nat_eq i) s.woken || list_any (nat_eq i) (waking rule store v)) ≡ false = sym (list_any-append (nat_eq i) s.woken (waking rule store v)) ∙ h in
    value_stays rule store v i x (or_right (list_any (nat_eq i) s.woken) (list_any (nat_eq i) (waking rule store v)) k)
    (u i x (or_left (list_any (nat_eq i) s.woken) (list_any (nat_eq i) (waking rule store v)) k) e)

fresh_marks : (rule : StalenessRule) (v : Verdict) (store : List Cell) (ws : List Waiter) → AreUnwoken store ws → AreUnwoken (applied store v) (map (after_writes (waking rule store v)) ws)
fresh_marks rule v store [] c = tt
fresh_marks rule v store (w ∷ ws) c = (unwoken_more rule v store w.since c.0, fresh_marks rule v store ws c.1)

-- a variable more
unwoken_declared : (kind : Ty) (value : Value) (store : List Cell) (o : Option Since) → IsUnwoken store o → IsUnwoken (applied store (declaration kind value)) o
unwoken_declared kind value store None u = tt
unwoken_declared kind value store (Some s) u = λ i x h e. value_stays Written store (declaration kind value) i x refl (u i x h e)

fresh_declared : (kind : Ty) (value : Value) (store : List Cell) (ws : List Waiter) → AreUnwoken store ws → AreUnwoken (applied store (declaration kind value)) ws
fresh_declared kind value store [] c = tt
fresh_declared kind value store (w ∷ ws) c = (unwoken_declared kind value store w.since c.0, fresh_declared kind value store ws c.1)

pub fresh_after : (s : Slow) (d : What) → AreUnwoken s.store s.waiters → AreUnwoken (after s d).store (after s d).waiters
fresh_after s (Submitted t b) c = fresh_push s.store _ s.waiters c refl
fresh_after s (Installed t v) c = fresh_delivered t s.store s.waiters c
fresh_after s (Finished t v n l) c = fresh_marks s.rule v s.store (without_waiter t s.waiters) (fresh_without t s.store s.waiters c)
fresh_after s (Cancelled t) c = fresh_without t s.store s.waiters c
fresh_after s (DeclaredLate name kind value) c = fresh_declared kind value s.store s.waiters c
fresh_after s (Labelled t label) c = c

pub fresh_from : (s : Slow) (es : List Event) → AreUnwoken s.store s.waiters → AreUnwoken (state_from s es).store (state_from s es).waiters
fresh_from s [] c = c
fresh_from s (e ∷ es) c = fresh_from (after s e.what) es (fresh_after s e.what c)

pub fresh_state : (rule : StalenessRule) (table : List Declared) (es : List Event) → AreUnwoken (state_by rule table es).store (state_by rule table es).waiters
fresh_state rule table es = fresh_from (initial_state rule table) es tt

found_cons : (b : Bool) (s : List Cell) (w one : Waiter) (o : Option Waiter) → IsUnwoken s w.since → (o ≡ Some one → IsUnwoken s one.since) → cond b (Some w) o ≡ Some one → IsUnwoken s one.since
found_cons true s w one o c more e = let h : w ≡ one = cc in subst (λ (x : Waiter). IsUnwoken s x.since) h c
found_cons false s w one o c more e = more e

pub fresh_waiter : (t : ℕ) (s : List Cell) (ws : List Waiter) (one : Waiter) → AreUnwoken s ws → find_waiter t ws ≡ Some one → IsUnwoken s one.since
fresh_waiter t s [] one c e = cc
fresh_waiter t s (w ∷ ws) one c e = found_cons (nat_eq t w.ticket) s w one (find_waiter t ws) c.0 (fresh_waiter t s ws one c.1) e

-- a variable that was looked at is none of these, where the block isn't stale
not_met : (woken is : List ℕ) (i : ℕ) → intersects woken is ≡ false → In i is → list_any (nat_eq i) woken ≡ false
not_met woken [] i h m = absurd m
not_met woken (j ∷ is) i h m =
    ⊎_elim (λ (e : j ≡ i). subst (λ (k : ℕ). list_any (nat_eq k) woken ≡ false) e (or_left (list_any (nat_eq j) woken) (intersects woken is) h))
    (λ (n : In i is). not_met woken is i (or_right (list_any (nat_eq j) woken) (intersects woken is) h) n) m

-- so what was read has its value on the present store
pub stays : (block : Block) (store : List Cell) (s : Since) (reads : List (ℕ × Value)) (v : Verdict)
    → IsUnwoken store (Some s) → is_stale_since block s ≡ false → Holds block.tree (under s.store_then) reads v → Holds block.tree (under store) reads v
stays block store s reads v u n holds =
    let agrees : Agrees reads (under store) = λ i x e.
    let some : IsSome (find i (reads_of (under s.store_then) block.tree)) = rw (holds.reads_are, e) refl in
    u i x (not_met s.woken (looked_on s.store_then block) i n ((looked block.tree (under s.store_then) v holds.verdict_is i).1 some))
    (holds_agrees block.tree (under s.store_then) reads v holds i x e) in
    holds_again block.tree reads v (under s.store_then) (under store) holds agrees

-- so a block that waits and isn't stale does on the present store what it did then
pub still_holds : (t : ℕ) (store : List Cell) (ws : List Waiter) (w : Waiter) (s : Since) (reads : List (ℕ × Value)) (v : Verdict) → AreUnwoken store ws → find_waiter t ws ≡ Some w → w.since ≡ Some s
    → is_stale_since w.block s ≡ false → Holds w.block.tree (under s.store_then) reads v → Holds w.block.tree (under store) reads v
still_holds t store ws w s reads v f e since n holds = stays w.block store s reads v (subst (IsUnwoken store) since (fresh_waiter t store ws w f e)) n holds

pub current_holds : CurrentHolds
current_holds rule table history t w s reads v l = still_holds t (state_by rule table history).store (state_by rule table history).waiters w s reads v (fresh_state rule table history)
