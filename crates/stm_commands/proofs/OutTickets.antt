-- The tickets that are out are a set, which each change of the queue changes as one.
use Rattle.std.proofs.Common.{◌≡◌, ℕ, zero, suc, ◌<◌, ◌≤◌, Bool, true, false, not, ◌&&◌, ◌||◌, cond, List, [], ◌∷◌, map, filter, take, Option, Some, None, refl, sym, ap, subst, ◌∙◌, arith}
use Rattle.std.specs.Prelude.{nat_eq, nat_lt}
use Rattle.std.proofs.lemmas.Bool.Decides.{nat_tests}
use Rattle.stm_queue.specs.Queue.{Entry, tickets, has_ticket, is_out, with_ticket, without_ticket, marked, first_queued, sent_out, recalled, queued}
use Rattle.stm_queue.specs.SortedTickets.{RisesAbove, IsRising, member}
use Rattle.stm_queue.proofs.Merging.{itself}
use Rattle.stm_queue.proofs.SortedInsertion.{absent_above}
use Rattle.stm_machine.specs.JobsHandedOut.{sent}
use Rattle.stm_machine.specs.QueueAndIndex.{with_tickets}
use Rattle.stm_commands.specs.DueTickets.{OutTicketsAreASet}
use Rattle.stm_commands.proofs.KeptQueue.{member_tickets, tickets_marked}

-- ---- a ticket more
no_more : (a b : Bool) → ((a && false) || b) ≡ b
no_more true b = refl
no_more false b = refl

swap_or : (a b c : Bool) → (a || (b || c)) ≡ (b || (a || c))
swap_or true true c = refl
swap_or true false c = refl
swap_or false b c = refl

with_step : (b : Bool) (t u : ℕ) (f : Entry) (es fs : List Entry) → is_out u fs ≡ is_out u es → is_out u (cond b ((t, false) ∷ f ∷ es) (f ∷ fs)) ≡ is_out u (f ∷ es)
with_step true t u f es fs h = no_more (nat_eq u t) (is_out u (f ∷ es))
with_step false t u f es fs h = ap (λ (b : Bool). (nat_eq u f.0 && f.1) || b) h

out_with : (t u : ℕ) (es : List Entry) → is_out u (with_ticket t es) ≡ is_out u es
out_with t u [] = no_more (nat_eq u t) false
out_with t u (f ∷ es) = with_step (nat_lt t f.0) t u f es (with_ticket t es) (out_with t u es)

out_with_all : (ts : List ℕ) (u : ℕ) (es : List Entry) → is_out u (with_tickets ts es) ≡ is_out u es
out_with_all [] u es = refl
out_with_all (t ∷ ts) u es = out_with_all ts u (with_ticket t es) ∙ out_with t u es

-- ---- a ticket less
not_here : (t u x : ℕ) (o b : Bool) → nat_eq t x ≡ true → (not (nat_eq u t) && b) ≡ (not (nat_eq u t) && ((nat_eq u x && o) || b))
not_here t u x o b e = by (nat_eq u t) refl
  where
    by : (c : Bool) → nat_eq u t ≡ c → (not c && b) ≡ (not c && ((nat_eq u x && o) || b))
    by true f = refl
    by false f = let g : nat_eq u x ≡ false = grind (arith, nat_tests) in rw g refl

is_here : (t u x : ℕ) (o b : Bool) → nat_eq t x ≡ false → ((nat_eq u x && o) || (not (nat_eq u t) && b)) ≡ (not (nat_eq u t) && ((nat_eq u x && o) || b))
is_here t u x o b e = by (nat_eq u t) refl
  where
    by : (c : Bool) → nat_eq u t ≡ c → ((nat_eq u x && o) || (not c && b)) ≡ (not c && ((nat_eq u x && o) || b))
    by true f = let g : nat_eq u x ≡ false = grind (arith, nat_tests) in rw g refl
    by false f = refl

without_step : (b : Bool) (t u : ℕ) (e : Entry) (es fs : List Entry) → nat_eq t e.0 ≡ b → is_out u fs ≡ (not (nat_eq u t) && is_out u es) → is_out u (cond (not b) (e ∷ fs) fs) ≡ (not (nat_eq u t) && is_out u (e ∷ es))
without_step true t u e es fs h more = more ∙ not_here t u e.0 e.1 (is_out u es) h
without_step false t u e es fs h more = ap (λ (b : Bool). (nat_eq u e.0 && e.1) || b) more ∙ is_here t u e.0 e.1 (is_out u es) h

nothing_left : (a : Bool) → false ≡ (not a && false)
nothing_left true = refl
nothing_left false = refl

pub out_without : (t u : ℕ) (es : List Entry) → is_out u (without_ticket t es) ≡ (not (nat_eq u t) && is_out u es)
out_without t u [] = nothing_left (nat_eq u t)
out_without t u (e ∷ es) = without_step (nat_eq t e.0) t u e es (without_ticket t es) refl (out_without t u es)

-- ---- a ticket that is queued again
back_step : (b : Bool) (t u : ℕ) (e : Entry) (es fs : List Entry) → nat_eq t e.0 ≡ b → is_out u fs ≡ (not (nat_eq u t) && is_out u es) → is_out u (cond b (e.0, false) e ∷ fs) ≡ (not (nat_eq u t) && is_out u (e ∷ es))
back_step true t u e es fs h more = no_more (nat_eq u e.0) (is_out u fs) ∙ more ∙ not_here t u e.0 e.1 (is_out u es) h
back_step false t u e es fs h more = ap (λ (b : Bool). (nat_eq u e.0 && e.1) || b) more ∙ is_here t u e.0 e.1 (is_out u es) h

out_back : (t u : ℕ) (es : List Entry) → is_out u (marked t false es) ≡ (not (nat_eq u t) && is_out u es)
out_back t u [] = nothing_left (nat_eq u t)
out_back t u (e ∷ es) = back_step (nat_eq t e.0) t u e es (marked t false es) refl (out_back t u es)

out_recalled : (u : ℕ) (es : List Entry) → is_out u (recalled es) ≡ false
out_recalled u [] = refl
out_recalled u (e ∷ es) = no_more (nat_eq u e.0) (is_out u (recalled es)) ∙ out_recalled u es

-- ---- a queued ticket that is handed out
sent_pick : (a o b : Bool) (u x : ℕ) → a ≡ nat_eq u x → ((a && true) || b) ≡ (a || ((nat_eq u x && o) || b))
sent_pick true o b u x e = refl
sent_pick false o b u x e = ap (λ (c : Bool). (c && o) || b) e

-- marks of a ticket that isn't there
marked_absent_step : (b : Bool) (out : Bool) (e : Entry) (es fs : List Entry) → b ≡ false → fs ≡ es → cond b (e.0, out) e ∷ fs ≡ e ∷ es
marked_absent_step true out e es fs h q = absurd cc
marked_absent_step false out e es fs h q = ap (λ (gs : List Entry). e ∷ gs) q

pub left_false : (a b : Bool) → (a || b) ≡ false → a ≡ false
left_false true b h = absurd cc
left_false false b h = refl

pub right_false : (a b : Bool) → (a || b) ≡ false → b ≡ false
right_false true b h = absurd cc
right_false false b h = h

marked_absent : (t : ℕ) (out : Bool) (es : List Entry) → has_ticket t es ≡ false → marked t out es ≡ es
marked_absent t out [] h = refl
marked_absent t out (e ∷ es) h =
    marked_absent_step (nat_eq t e.0) out e es (marked t out es) (left_false (nat_eq t e.0) (has_ticket t es) h) (marked_absent t out es (right_false (nat_eq t e.0) (has_ticket t es) h))

queued_pick : (o : Bool) (f : Entry) (es : List Entry) → map (λ e. e.0) (cond (not o) (f ∷ es) es) ≡ cond (not o) (f.0 ∷ map (λ e. e.0) es) (map (λ e. e.0) es)
queued_pick true f es = refl
queued_pick false f es = refl

queued_cons : (f : Entry) (es : List Entry) → queued (f ∷ es) ≡ cond (not f.1) (f.0 ∷ queued es) (queued es)
queued_cons f es = queued_pick f.1 f (filter (λ e. not e.1) es)

-- what is first queued, which isn't below the first of all, and the list once it is out
record IsSent (u t k : ℕ) (es : List Entry) : Type 0 where
  pub above : k ≤ t
  pub front : queued es ≡ t ∷ queued (marked t true es)
  pub out : is_out u (marked t true es) ≡ (nat_eq u t || is_out u es)

other_marked : (t : ℕ) (f : Entry) (es : List Entry) → nat_eq t f.0 ≡ false → marked t true (f ∷ es) ≡ f ∷ marked t true es
other_marked t f es e = rw e refl

here_marked : (t : ℕ) (f : Entry) (es : List Entry) → nat_eq t f.0 ≡ true → marked t true (f ∷ es) ≡ (f.0, true) ∷ marked t true es
here_marked t f es e = rw e refl

-- the first of all is queued
sent_here : (u t : ℕ) (f : Entry) (es : List Entry) → RisesAbove f.0 (tickets es) → f.1 ≡ false → f.0 ≡ t → IsSent u t f.0 (f ∷ es)
sent_here u t f es r e q =
    let here : nat_eq t f.0 ≡ true = subst (λ (x : ℕ). nat_eq t x ≡ true) (sym q) (itself t) in
    let absent : has_ticket t es ≡ false = sym (member_tickets t es) ∙ absent_above t f.0 (tickets es) (omega arith) r in
    let m : marked t true (f ∷ es) ≡ (f.0, true) ∷ es = here_marked t f es here ∙ ap (λ (gs : List Entry). (f.0, true) ∷ gs) (marked_absent t true es absent) in
    record {
      above = omega arith;
      front =
          queued_cons f es ∙ ap (λ (o : Bool). cond (not o) (f.0 ∷ queued es) (queued es)) e ∙ ap (λ (x : ℕ). x ∷ queued es) q
          ∙ ap (λ (ts : List ℕ). t ∷ ts) (sym (ap queued m));
      out =
          ap (is_out u) m ∙ ap (λ (x : ℕ). (nat_eq u x && true) || is_out u es) q ∙ sent_pick (nat_eq u t) f.1 (is_out u es) u t refl
          ∙ ap (λ (x : ℕ). nat_eq u t || ((nat_eq u x && f.1) || is_out u es)) (sym q);
    }

-- it is out already
sent_later : (u t k : ℕ) (f : Entry) (es : List Entry) → f.1 ≡ true → f.0 < k → IsSent u t k es → IsSent u t f.0 (f ∷ es)
sent_later u t k f es e l s =
    let over : k ≤ t = s.above in
    let apart : nat_eq t f.0 ≡ false = grind (arith, nat_tests) in
    let m = other_marked t f es apart in
    record {
      above = omega arith;
      front =
          queued_cons f es ∙ ap (λ (o : Bool). cond (not o) (f.0 ∷ queued es) (queued es)) e ∙ s.front
          ∙ ap (λ (ts : List ℕ). t ∷ ts) (sym (ap queued m ∙ queued_cons f (marked t true es) ∙ ap (λ (o : Bool). cond (not o) (f.0 ∷ queued (marked t true es)) (queued (marked t true es))) e));
      out = ap (is_out u) m ∙ ap (λ (b : Bool). (nat_eq u f.0 && f.1) || b) s.out ∙ swap_or (nat_eq u f.0 && f.1) (nat_eq u t) (is_out u es);
    }

sent_after : (o : Bool) (u t : ℕ) (f g : Entry) (es : List Entry) → f.1 ≡ o → RisesAbove f.0 (g.0 ∷ tickets es) → cond o (first_queued (g ∷ es)) (Some f.0) ≡ Some t
    → (first_queued (g ∷ es) ≡ Some t → IsSent u t g.0 (g ∷ es)) → IsSent u t f.0 (f ∷ g ∷ es)
sent_after true u t f g es e r h more = sent_later u t g.0 f (g ∷ es) e r.0 (more h)
sent_after false u t f g es e r h more = let q : f.0 ≡ t = cc in sent_here u t f (g ∷ es) r e q

sent_first : (u t : ℕ) (f : Entry) (es : List Entry) → RisesAbove f.0 (tickets es) → first_queued (f ∷ es) ≡ Some t → IsSent u t f.0 (f ∷ es)
sent_first u t f [] r h = by f.1 refl h
  where
    by : (o : Bool) → f.1 ≡ o → cond o None (Some f.0) ≡ Some t → IsSent u t f.0 (f ∷ [])
    by true e g = absurd cc
    by false e g = let q : f.0 ≡ t = cc in sent_here u t f [] r e q
sent_first u t f (g ∷ es) r h = sent_after f.1 u t f g es refl r h (sent_first u t g es r.1)

-- ---- many that are handed out
none_by : (o : Bool) (f : Entry) (es : List Entry) → f.1 ≡ o → (first_queued es ≡ None → queued es ≡ []) → cond o (first_queued es) (Some f.0) ≡ None → queued (f ∷ es) ≡ []
none_by true f es e more g = queued_cons f es ∙ ap (λ (o : Bool). cond (not o) (f.0 ∷ queued es) (queued es)) e ∙ more g
none_by false f es e more g = absurd cc

pub none_queued : (es : List Entry) → first_queued es ≡ None → queued es ≡ []
none_queued [] h = refl
none_queued (f ∷ es) h = none_by f.1 f es refl (none_queued es) h

or_assoc : (a b c : Bool) → (b || (a || c)) ≡ ((a || b) || c)
or_assoc true true c = refl
or_assoc true false c = refl
or_assoc false b c = refl

take_none : (n : ℕ) (ts : List ℕ) → ts ≡ [] → take n ts ≡ []
take_none zero ts e = refl
take_none (suc n) ts e = ap (take (suc n)) e

-- if no ticket is queued, none is handed out
sent_none : (n u : ℕ) (es : List Entry) → first_queued es ≡ None → is_out u (sent n es) ≡ is_out u es
sent_none zero u es h = refl
sent_none (suc n) u es h = ap (λ (o : Option ℕ). is_out u (sent n (sent_out o es))) h ∙ sent_none n u es h

none_taken : (n u : ℕ) (es : List Entry) → first_queued es ≡ None → is_out u (sent n es) ≡ (member u (take n (queued es)) || is_out u es)
none_taken n u es h = sent_none n u es h ∙ sym (ap (λ (ts : List ℕ). member u ts || is_out u es) (take_none n (queued es) (none_queued es h)))

pub first_sent : (u t : ℕ) (es : List Entry) → IsRising (tickets es) → first_queued es ≡ Some t → (queued es ≡ t ∷ queued (marked t true es)) × (is_out u (marked t true es) ≡ (nat_eq u t || is_out u es))
first_sent u t [] r h = absurd cc
first_sent u t (f ∷ es) r h = let s = sent_first u t f es r h in (s.front, s.out)

abbrev AreSent : ℕ → ℕ → List Entry → Type 0
AreSent n u es = is_out u (sent n es) ≡ (member u (take n (queued es)) || is_out u es)

out_more : (n u : ℕ) (es : List Entry) (o : Option ℕ) → first_queued es ≡ o → IsRising (tickets es) → ((fs : List Entry) → IsRising (tickets fs) → AreSent n u fs) → AreSent (suc n) u es
out_more n u es None e r more = none_taken (suc n) u es e
out_more n u es (Some t) e r more =
    let s = first_sent u t es r e in
    let next = marked t true es in
    let rising : IsRising (tickets next) = subst IsRising (sym (tickets_marked t true es)) r in
    ap (λ (o : Option ℕ). is_out u (sent n (sent_out o es))) e ∙ more next rising
    ∙ ap (λ (b : Bool). member u (take n (queued next)) || b) s.1
    ∙ or_assoc (nat_eq u t) (member u (take n (queued next))) (is_out u es)
    ∙ ap (λ (ts : List ℕ). member u (take (suc n) ts) || is_out u es) (sym s.0)

out_sent : (n u : ℕ) (es : List Entry) → IsRising (tickets es) → AreSent n u es
out_sent zero u es r = refl
out_sent (suc n) u es r = out_more n u es (first_queued es) refl r (out_sent n u)

pub out_tickets_are_a_set : OutTicketsAreASet
out_tickets_are_a_set = record {
  submitted = out_with;
  woken = out_with_all;
  removed = out_without;
  taken = out_sent;
  handed_back = out_back;
  called_back = out_recalled;
}
