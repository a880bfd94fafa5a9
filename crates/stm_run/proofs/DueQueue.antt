-- The queue of a desk that has taken some lines is that of the new and stale blocks: both rise and have the same tickets.
use Rattle.std.proofs.Common.{◌≡◌, ℕ, ◌<◌, ◌≤◌, Bool, true, false, not, ◌||◌, cond, List, [], ◌∷◌, map, filter, Some, refl, sym, ap, ap₂, subst, ◌∙◌, arith}
use Rattle.std.specs.Prelude.{nat_eq, nat_lt}
use Rattle.std.proofs.lemmas.Bool.Decides.{nat_tests}
use Rattle.stm_queue.specs.Queue.{Entry, tickets}
use Rattle.stm_queue.specs.SortedTickets.{RisesAbove, IsRising, member}
use Rattle.stm_queue.proofs.BoolLemmas.{neither}
use Rattle.stm_queue.proofs.Merging.{itself}
use Rattle.stm_queue.proofs.SortedInsertion.{absent_above}
use Rattle.stm_events.specs.Laws.{AreRising}
use Rattle.stm_machine.specs.QueueAndIndex.{due_of}
use Rattle.stm_events.specs.SlowDesk.{Waiter, is_current, find_waiter}
use Rattle.stm_events.proofs.Rising.{not_above}
use Rattle.stm_commands.specs.DueTickets.{due_tickets, tickets_out}
use Rattle.stm_commands.proofs.KeptQueue.{QueueKept, filtered_above, member_tickets}

-- ---- ascending lists with the same members are equal
from_above : (k : ℕ) (ts : List ℕ) → RisesAbove k ts → IsRising ts
from_above k [] r = tt
from_above k (t ∷ ts) r = r.1

lower_absent : (t u : ℕ) (us : List ℕ) → t < u → RisesAbove u us → member t (u ∷ us) ≡ false
lower_absent t u us l r =
    let e : nat_eq t u ≡ false = grind (arith, nat_tests) in
    neither (nat_eq t u) (member t us) e (absent_above t u us (omega arith) r)

first_there : (t : ℕ) (ts : List ℕ) → member t (t ∷ ts) ≡ true
first_there t ts = rw (itself t) refl

rest_same : (b : Bool) (v t : ℕ) (ts us : List ℕ) → nat_eq v t ≡ b → RisesAbove t ts → RisesAbove t us → (b || member v ts) ≡ (b || member v us) → member v ts ≡ member v us
rest_same true v t ts us e r s h = let l : v ≤ t = grind (arith, nat_tests) in absent_above v t ts l r ∙ sym (absent_above v t us l s)
rest_same false v t ts us e r s h = h

same_first : (a b : Bool) (t u : ℕ) (ts us : List ℕ) → nat_lt t u ≡ a → nat_lt u t ≡ b → RisesAbove t ts → RisesAbove u us → ((v : ℕ) → member v (t ∷ ts) ≡ member v (u ∷ us)) → t ≡ u
same_first true b t u ts us e f r s h =
    let l : t < u = grind (arith, nat_tests) in
    let z : true ≡ false = sym (first_there t ts) ∙ h t ∙ lower_absent t u us l s in
    absurd cc
same_first false true t u ts us e f r s h =
    let l : u < t = grind (arith, nat_tests) in
    let z : true ≡ false = sym (first_there u us) ∙ sym (h u) ∙ lower_absent u t ts l r in
    absurd cc
same_first false false t u ts us e f r s h = grind (arith, nat_tests)

same_rising : (ts us : List ℕ) → IsRising ts → IsRising us → ((v : ℕ) → member v ts ≡ member v us) → ts ≡ us
same_rising [] [] r s h = refl
same_rising [] (u ∷ us) r s h = let z : false ≡ true = h u ∙ first_there u us in absurd cc
same_rising (t ∷ ts) [] r s h = let z : true ≡ false = sym (first_there t ts) ∙ h t in absurd cc
same_rising (t ∷ ts) (u ∷ us) r s h =
    let q : t ≡ u = same_first (nat_lt t u) (nat_lt u t) t u ts us refl refl r s h in
    let above : RisesAbove t us = subst (λ (x : ℕ). RisesAbove x us) (sym q) s in
    let rest : (v : ℕ) → member v ts ≡ member v us = λ v.
    rest_same (nat_eq v t) v t ts us refl r above (subst (λ (x : ℕ). (nat_eq v t || member v ts) ≡ (nat_eq v x || member v us)) (sym q) (h v)) in
    ap₂ (λ (x : ℕ) (xs : List ℕ). x ∷ xs) q (same_rising ts us (from_above t ts r) (from_above u us s) rest)

-- ---- the tickets of the new and stale blocks
due_step : (d c : Bool) (t n k : ℕ) (w : Waiter) (ws : List Waiter) → nat_eq t w.ticket ≡ d → not (is_current w) ≡ c → AreRising n k (w ∷ ws)
    → member t (due_tickets ws) ≡ due_of (find_waiter t ws)
    → member t (map (λ x. x.ticket) (cond c (w ∷ filter (λ x. not (is_current x)) ws) (filter (λ x. not (is_current x)) ws))) ≡ due_of (cond d (Some w) (find_waiter t ws))
due_step true true t n k w ws e s r more = rw (e, s) refl
due_step true false t n k w ws e s r more =
    let l : t ≤ w.ticket = grind (arith, nat_tests) in
    more ∙ ap due_of (not_above t n w.ticket ws l r.2) ∙ sym s
due_step false true t n k w ws e s r more = rw e more
due_step false false t n k w ws e s r more = more

member_due : (t n k : ℕ) (ws : List Waiter) → AreRising n k ws → member t (due_tickets ws) ≡ due_of (find_waiter t ws)
member_due t n k [] r = refl
member_due t n k (w ∷ ws) r = due_step (nat_eq t w.ticket) (not (is_current w)) t n k w ws refl refl r (member_due t n w.ticket ws r.2)

pub due_rising : (n : ℕ) (ws : List Waiter) → AreRising n 0 ws → IsRising (due_tickets ws)
due_rising n ws r = from_above 0 (due_tickets ws) (filtered_above (λ w. not (is_current w)) n 0 ws r)

pub tickets_are_due : (n : ℕ) (ws : List Waiter) (es : List Entry) → AreRising n 0 ws → QueueKept ws es → tickets es ≡ due_tickets ws
tickets_are_due n ws es r k = same_rising (tickets es) (due_tickets ws) k.rising (due_rising n ws r) (λ t. member_tickets t es ∙ k.right t ∙ sym (member_due t n 0 ws r))

-- ---- the list is that of its tickets and of those that are out
abbrev pub entries : List ℕ → List ℕ → List Entry
entries out ts = map (λ t. (t, member t out)) ts

out_pick : (b : Bool) (e : Entry) (es : List Entry) → map (λ x. x.0) (cond b (e ∷ es) es) ≡ cond b (e.0 ∷ map (λ x. x.0) es) (map (λ x. x.0) es)
out_pick true e es = refl
out_pick false e es = refl

out_cons : (e : Entry) (es : List Entry) → tickets_out (e ∷ es) ≡ cond e.1 (e.0 ∷ tickets_out es) (tickets_out es)
out_cons e es = out_pick e.1 e (filter (λ x. x.1) es)

weaker : (j k : ℕ) (ts : List ℕ) → j ≤ k → RisesAbove k ts → RisesAbove j ts
weaker j k [] l r = tt
weaker j k (t ∷ ts) l r = let m : k < t = r.0 in (omega arith, r.1)

out_step : (b : Bool) (k t : ℕ) (ts : List ℕ) → k < t → RisesAbove t ts → RisesAbove k (cond b (t ∷ ts) ts)
out_step true k t ts l r = (l, r)
out_step false k t ts l r = weaker k t ts (omega arith) r

out_above : (k : ℕ) (es : List Entry) → RisesAbove k (tickets es) → RisesAbove k (tickets_out es)
out_above k [] r = tt
out_above k (e ∷ es) r = subst (RisesAbove k) (sym (out_cons e es)) (out_step e.1 k e.0 (tickets_out es) r.0 (out_above e.0 es r.1))

-- the first is out if it is among those that are
head_out : (b : Bool) (t : ℕ) (ts : List ℕ) → RisesAbove t ts → b ≡ member t (cond b (t ∷ ts) ts)
head_out true t ts r = sym (first_there t ts)
head_out false t ts r = sym (absent_above t t ts (omega arith) r)

-- and of those above it nothing changes
higher_out : (b : Bool) (t u : ℕ) (ts : List ℕ) → t < u → member u ts ≡ member u (cond b (t ∷ ts) ts)
higher_out true t u ts l = let e : nat_eq u t ≡ false = grind (arith, nat_tests) in rw e refl
higher_out false t u ts l = refl

entries_same : (k : ℕ) (ts os ps : List ℕ) → RisesAbove k ts → ((u : ℕ) → k < u → member u os ≡ member u ps) → entries os ts ≡ entries ps ts
entries_same k [] os ps r h = refl
entries_same k (t ∷ ts) os ps r h =
    ap₂ (λ (x : Entry) (xs : List Entry). x ∷ xs) (ap (λ (b : Bool). (t, b)) (h t r.0))
    (entries_same t ts os ps r.1 (λ u l. let m : k < t = r.0 in h u (omega arith)))

entries_first : (e : Entry) (es : List Entry) → RisesAbove e.0 (tickets es) → es ≡ entries (tickets_out es) (tickets es) → e ∷ es ≡ entries (tickets_out (e ∷ es)) (e.0 ∷ tickets es)
entries_first e es r more =
    let out : List ℕ = cond e.1 (e.0 ∷ tickets_out es) (tickets_out es) in
    ap₂ (λ (x : Entry) (xs : List Entry). x ∷ xs) (ap (λ (b : Bool). (e.0, b)) (head_out e.1 e.0 (tickets_out es) (out_above e.0 es r)))
    (more ∙ entries_same e.0 (tickets es) (tickets_out es) out r (λ u l. higher_out e.1 e.0 u (tickets_out es) l))
    ∙ ap (λ (os : List ℕ). entries os (e.0 ∷ tickets es)) (sym (out_cons e es))

entries_above : (k : ℕ) (es : List Entry) → RisesAbove k (tickets es) → es ≡ entries (tickets_out es) (tickets es)
entries_above k [] r = refl
entries_above k (e ∷ es) r = entries_first e es r.1 (entries_above e.0 es r.1)

pub entries_are : (es : List Entry) → IsRising (tickets es) → es ≡ entries (tickets_out es) (tickets es)
entries_are [] r = refl
entries_are (e ∷ es) r = entries_first e es r (entries_above e.0 es r)
