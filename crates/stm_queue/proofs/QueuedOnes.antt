-- The queued tickets of the one list are the list of those.
use Rattle.std.proofs.Common.{◌≡◌, ℕ, zero, suc, ◌<◌, ◌≤◌, get_or, length, Some, None, Bool, true, false, not, cond, List, [], ◌∷◌, map, filter, refl, sym, ap, subst, ◌∙◌, arith}
use Rattle.std.specs.Prelude.{nat_lt, slice_get}
use Rattle.std.proofs.lemmas.Bool.Decides.{nat_tests}
use Rattle.stm_queue.specs.Queue.{Entry, with_ticket, first_queued, queued}
use Rattle.stm_queue.specs.SortedTickets.{RisesAbove, IsRising}
use Rattle.stm_queue.specs.QueueInvariant.{outs, merged}

pick : (o : Bool) (f : Entry) (es : List Entry) → map (λ e. e.0) (cond (not o) (f ∷ es) es) ≡ cond (not o) (f.0 ∷ map (λ e. e.0) es) (map (λ e. e.0) es)
pick true f es = refl
pick false f es = refl

queued_cons : (f : Entry) (es : List Entry) → queued (f ∷ es) ≡ cond (not f.1) (f.0 ∷ queued es) (queued es)
queued_cons f es = pick f.1 f (filter (λ e. not e.1) es)

lowest_step : (b o : Bool) (q : ℕ) (f : Entry) (es fs : List Entry) → nat_lt q f.0 ≡ b → f.1 ≡ o → RisesAbove q (cond (not o) (f.0 ∷ queued es) (queued es)) → (RisesAbove q (queued es) → queued fs ≡ q ∷ queued es)
    → queued (cond b ((q, false) ∷ f ∷ es) (f ∷ fs)) ≡ q ∷ queued (f ∷ es)
lowest_step true o q f es fs h e r more = refl
lowest_step false true q f es fs h e r more =
    let a : queued (f ∷ fs) ≡ queued fs = queued_cons f fs ∙ ap (λ (o : Bool). cond (not o) (f.0 ∷ queued fs) (queued fs)) e in
    let b : queued (f ∷ es) ≡ queued es = queued_cons f es ∙ ap (λ (o : Bool). cond (not o) (f.0 ∷ queued es) (queued es)) e in
    a ∙ more r ∙ sym (ap (λ (ts : List ℕ). q ∷ ts) b)
lowest_step false false q f es fs h e r more = let l : q < f.0 = r.0 in absurd (grind (arith, nat_tests))

lowest : (q : ℕ) (es : List Entry) → RisesAbove q (queued es) → queued (with_ticket q es) ≡ q ∷ queued es
lowest q [] r = refl
lowest q (f ∷ es) r =
    lowest_step (nat_lt q f.0) f.1 q f es (with_ticket q es) refl refl (subst (RisesAbove q) (queued_cons f es) r) (lowest q es)

none_queued : (os : List ℕ) → queued (outs os) ≡ []
none_queued [] = refl
none_queued (t ∷ os) = none_queued os

from_above : (k : ℕ) (xs : List ℕ) → RisesAbove k xs → IsRising xs
from_above k [] r = tt
from_above k (x ∷ xs) r = r.1

pub queued_merged : (qs os : List ℕ) → IsRising qs → queued (merged qs os) ≡ qs
queued_merged [] os r = none_queued os
queued_merged (q ∷ qs) os r =
    let e : queued (merged qs os) ≡ qs = queued_merged qs os (from_above q qs r) in
    lowest q (merged qs os) (subst (RisesAbove q) (sym e) r) ∙ ap (λ (ts : List ℕ). q ∷ ts) e

pub got : (xs : List ℕ) (i v : ℕ) → i < length xs → v ≡ get_or xs i v → slice_get xs i ≡ Some v
got [] i v h e = absurd (omega arith)
got (x ∷ xs) zero v h e = ap Some (sym e)
got (x ∷ xs) (suc i) v h e = got xs i v (omega arith) e

pub got_none : (xs : List ℕ) (i : ℕ) → length xs ≤ i → slice_get xs i ≡ None
got_none [] i h = refl
got_none (x ∷ xs) zero h = absurd (omega arith)
got_none (x ∷ xs) (suc i) h = got_none xs i (omega arith)

first_step : (o : Bool) (f : Entry) (es : List Entry) → slice_get (queued es) 0 ≡ first_queued es → slice_get (cond (not o) (f.0 ∷ queued es) (queued es)) 0 ≡ cond o (first_queued es) (Some f.0)
first_step true f es h = h
first_step false f es h = refl

-- the first of the queued tickets is the lowest queued one
pub first_of_queued : (es : List Entry) → slice_get (queued es) 0 ≡ first_queued es
first_of_queued [] = refl
first_of_queued (f ∷ es) = ap (λ (ts : List ℕ). slice_get ts 0) (queued_cons f es) ∙ first_step f.1 f es (first_of_queued es)
