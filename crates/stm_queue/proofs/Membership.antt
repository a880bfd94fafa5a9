-- Which tickets are queued or out after each change of the list.
use Rattle.std.proofs.Common.{◌≡◌, ℕ, zero, suc, Bool, true, false, not, ◌&&◌, ◌||◌, cond, List, [], ◌∷◌, map, filter, Some, None, refl, ap, ◌∙◌, arith}
use Rattle.std.specs.Prelude.{nat_eq, slice_get}
use Rattle.std.proofs.lemmas.Bool.Decides.{nat_tests}
use Rattle.std.proofs.lemmas.Bool.{or_right}
use Rattle.stm_queue.specs.Queue.{Entry, has_ticket, without_ticket, marked, queued}
use Rattle.stm_queue.specs.Laws.{RemovedAreGone, MarksKeepTickets, SendingKeepsTickets, RecallKeepsTickets, QueuedAreThere}
use Rattle.stm_queue.proofs.Merging.{itself}

-- ---- a removal
gone_head : (u t x : ℕ) (h : Bool) → nat_eq t x ≡ true → (not (nat_eq u t) && h) ≡ (not (nat_eq u t) && (nat_eq u x || h))
gone_head u t x h e = grind (arith, nat_tests)

stays_head : (u t x : ℕ) (h : Bool) → nat_eq t x ≡ false → (nat_eq u x || (not (nat_eq u t) && h)) ≡ (not (nat_eq u t) && (nat_eq u x || h))
stays_head u t x h e = grind (arith, nat_tests)

without_step : (b : Bool) (u t : ℕ) (e : Entry) (es fs : List Entry) → nat_eq t e.0 ≡ b → has_ticket u fs ≡ (not (nat_eq u t) && has_ticket u es)
    → has_ticket u (cond (not b) (e ∷ fs) fs) ≡ (not (nat_eq u t) && (nat_eq u e.0 || has_ticket u es))
without_step true u t e es fs h more = more ∙ gone_head u t e.0 (has_ticket u es) h
without_step false u t e es fs h more = ap (λ (b : Bool). nat_eq u e.0 || b) more ∙ stays_head u t e.0 (has_ticket u es) h

nothing_left : (a : Bool) → false ≡ (not a && false)
nothing_left true = refl
nothing_left false = refl

pub has_without : RemovedAreGone
has_without u t [] = nothing_left (nat_eq u t)
has_without u t (e ∷ es) = without_step (nat_eq t e.0) u t e es (without_ticket t es) refl (has_without u t es)

-- ---- marks
marked_step : (b : Bool) (u t : ℕ) (out : Bool) (e : Entry) (es fs : List Entry) → has_ticket u fs ≡ has_ticket u es → has_ticket u (cond b (e.0, out) e ∷ fs) ≡ has_ticket u (e ∷ es)
marked_step true u t out e es fs h = ap (λ (b : Bool). nat_eq u e.0 || b) h
marked_step false u t out e es fs h = ap (λ (b : Bool). nat_eq u e.0 || b) h

pub has_marked : MarksKeepTickets
has_marked u t out [] = refl
has_marked u t out (e ∷ es) = marked_step (nat_eq t e.0) u t out e es (marked t out es) (has_marked u t out es)

pub has_sent_out : SendingKeepsTickets
has_sent_out u None es = refl
has_sent_out u (Some t) es = has_marked u t true es

pub has_recalled : RecallKeepsTickets
has_recalled u [] = refl
has_recalled u (e ∷ es) = ap (λ (b : Bool). nat_eq u e.0 || b) (has_recalled u es)

in_step : (o : Bool) (t i : ℕ) (f : Entry) (es : List Entry) → f.1 ≡ o → ((j : ℕ) → slice_get (queued es) j ≡ Some t → has_ticket t es ≡ true)
    → slice_get (map (λ e. e.0) (cond (not o) (f ∷ filter (λ e. not e.1) es) (filter (λ e. not e.1) es))) i ≡ Some t → (nat_eq t f.0 || has_ticket t es) ≡ true
in_step true t i f es e more h = or_right (nat_eq t f.0) (has_ticket t es) (more i h)
in_step false t zero f es e more h = let q : f.0 ≡ t = cc in rw (q, itself t) refl
in_step false t (suc i) f es e more h = or_right (nat_eq t f.0) (has_ticket t es) (more i h)

pub in_queue : QueuedAreThere
in_queue t i [] h = cc
in_queue t i (f ∷ es) h = in_step f.1 t i f es refl (λ j. in_queue t j es) h
