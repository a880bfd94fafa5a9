-- How many blocks wait after legal events.
use Rattle.std.proofs.Common.{◌≡◌, ℕ, suc, ◌≤◌, Bool, true, false, cond, List, [], ◌∷◌, length, refl, ap, arith, length-append, None}
use Rattle.std.specs.Prelude.{nat_eq}
use Rattle.std.proofs.lemmas.List.{length-map}
use Rattle.stm_store.specs.declared.cell.Cell.{Cell}
use Rattle.stm_events.specs.declared.event.What.{What}
use Rattle.stm_events.specs.declared.event.What.TheVariants.{Submitted, Installed, Finished, Cancelled, Declared as DeclaredLate, Labelled}
use Rattle.stm_events.specs.SlowDesk.{Waiter, Slow, waking, without_waiter, delivered, with_delivery, after_writes, after, Allows}
use Rattle.stm_terms.specs.Limits.{max_waiting}

less_by : (b : Bool) (w : Waiter) (ws vs : List Waiter) → length vs ≤ length ws → length (cond b ws (w ∷ vs)) ≤ suc (length ws)
less_by true w ws vs h = omega arith
less_by false w ws vs h = omega (arith, h)

length_without : (t : ℕ) (ws : List Waiter) → length (without_waiter t ws) ≤ length ws
length_without t [] = omega arith
length_without t (w ∷ ws) = less_by (nat_eq t w.ticket) w ws (without_waiter t ws) (length_without t ws)

same_by : (b : Bool) (v w : Waiter) (ws vs : List Waiter) → length vs ≡ length ws → length (cond b (v ∷ ws) (w ∷ vs)) ≡ suc (length ws)
same_by true v w ws vs h = refl
same_by false v w ws vs h = ap suc h

length_delivered : (t : ℕ) (store : List Cell) (ws : List Waiter) → length (delivered t store ws) ≡ length ws
length_delivered t store [] = refl
length_delivered t store (w ∷ ws) = same_by (nat_eq t w.ticket) (with_delivery store w) w ws (delivered t store ws) (length_delivered t store ws)

pub few_after : (s : Slow) (d : What) → Allows s d → length s.waiters ≤ max_waiting → length (after s d).waiters ≤ max_waiting
few_after s (Submitted t b) a h = let w : Waiter = record { ticket = t; block = b; since = None } in let l = length-append s.waiters (w ∷ []) in omega (arith, a.2, l)
few_after s (Installed t v) a h = let l = length_delivered t s.store s.waiters in omega (arith, h, l)
few_after s (Finished t v n k) a h = let l = length-map (without_waiter t s.waiters) (after_writes (waking s.rule s.store v)) in let m = length_without t s.waiters in omega (arith, h, l, m)
few_after s (Cancelled t) a h = let m = length_without t s.waiters in omega (arith, h, m)
few_after s (DeclaredLate name kind value) a h = h
few_after s (Labelled t label) a h = h
