-- The tickets that are queued or out are those of the new and stale blocks, in ascending order: each event that the desk allows
-- keeps it so, and so does each call that changes only which of them are out.
use Rattle.std.proofs.Common.{◌≡◌, ℕ, zero, suc, ◌<◌, ◌≤◌, Bool, true, false, not, ◌&&◌, ◌||◌, cond, List, [], ◌∷◌, ◌++◌, map, filter, Option, Some, None, refl, sym, ap, subst, ◌∙◌, arith, eqb-true}
use Rattle.std.specs.Prelude.{nat_eq, nat_lt, option_map, IsSomeAnd}
use Rattle.std.proofs.lemmas.Bool.Decides.{nat_tests}
use Rattle.std.proofs.lemmas.Bool.{or_right}
use Rattle.stm_terms.specs.declared.verdicts.Verdict.{Verdict}
use Rattle.stm_check.specs.TypedBlock.{Block}
use Rattle.stm_queue.specs.Queue.{Entry, tickets, has_ticket, with_entry, with_ticket, without_ticket, marked, sent_out, first_queued, recalled}
use Rattle.stm_queue.specs.SortedTickets.{RisesAbove, IsRising, member, insert_sorted, delete}
use Rattle.stm_queue.proofs.BoolLemmas.{neither}
use Rattle.stm_queue.proofs.InvariantPreserved.{insert_rising, delete_rising}
use Rattle.stm_queue.proofs.Membership.{has_without}
use Rattle.stm_queue.proofs.Merging.{has_with, itself}
use Rattle.stm_queue.proofs.SortedInsertion.{absent_above}
use Rattle.stm_events.specs.declared.errors.DeliverError.{DeliverError}
use Rattle.stm_events.specs.declared.errors.DeliverError.TheVariants as deliver
use Rattle.stm_events.specs.declared.event.What.{What}
use Rattle.stm_events.specs.declared.event.What.TheVariants.{Submitted, Installed, Finished, Cancelled, Declared as DeclaredLate, Labelled}
use Rattle.stm_machine.specs.JobsHandedOut.{sent}
use Rattle.stm_events.specs.Laws.{AreRising}
use Rattle.stm_machine.specs.QueueAndIndex.{ArePending, due_of, with_tickets}
use Rattle.stm_events.specs.Refusals.{pending_left}
use Rattle.stm_events.specs.SlowDesk.{Waiter, Slow, is_current, waking, becomes_stale, after_writes, find_waiter, without_waiter, after, Allows, MayFinish}
use Rattle.stm_machine.proofs.QueueAndIndexByTicket.{not_yet, has_with_tickets, queue_push, queue_delivered, queue_gone, stale_of, queue_finished, has_stale}
use Rattle.stm_events.proofs.Rising.{rising_without, waiter_without, waiter_delivered, waiter_marks, waiter_push}
use Rattle.stm_desk.specs.DeskView.{pending_after}

pub record QueueKept (ws : List Waiter) (es : List Entry) : Type 0 where
  pub rising : IsRising (tickets es)
  pub right : ArePending es ws

-- ---- the tickets of the list
pub member_tickets : (t : ℕ) (es : List Entry) → member t (tickets es) ≡ has_ticket t es
member_tickets t [] = refl
member_tickets t (e ∷ es) = ap (λ (b : Bool). nat_eq t e.0 || b) (member_tickets t es)

with_step : (b : Bool) (e f : Entry) (es fs : List Entry) → tickets fs ≡ insert_sorted e.0 (tickets es) → tickets (cond b (e ∷ f ∷ es) (f ∷ fs)) ≡ cond b (e.0 ∷ f.0 ∷ tickets es) (f.0 ∷ insert_sorted e.0 (tickets es))
with_step true e f es fs h = refl
with_step false e f es fs h = ap (λ (ts : List ℕ). f.0 ∷ ts) h

tickets_with : (e : Entry) (es : List Entry) → tickets (with_entry e es) ≡ insert_sorted e.0 (tickets es)
tickets_with e [] = refl
tickets_with e (f ∷ es) = with_step (nat_lt e.0 f.0) e f es (with_entry e es) (tickets_with e es)

without_step : (b : Bool) (e : Entry) (es : List Entry) (ts : List ℕ) → tickets es ≡ ts → tickets (cond b (e ∷ es) es) ≡ cond b (e.0 ∷ ts) ts
without_step true e es ts h = ap (λ (us : List ℕ). e.0 ∷ us) h
without_step false e es ts h = h

tickets_without : (t : ℕ) (es : List Entry) → tickets (without_ticket t es) ≡ delete t (tickets es)
tickets_without t [] = refl
tickets_without t (e ∷ es) = without_step (not (nat_eq t e.0)) e (without_ticket t es) (delete t (tickets es)) (tickets_without t es)

marked_step : (b out : Bool) (e : Entry) (ts us : List ℕ) → ts ≡ us → (cond b (e.0, out) e).0 ∷ ts ≡ e.0 ∷ us
marked_step true out e ts us h = ap (λ (vs : List ℕ). e.0 ∷ vs) h
marked_step false out e ts us h = ap (λ (vs : List ℕ). e.0 ∷ vs) h

pub tickets_marked : (t : ℕ) (out : Bool) (es : List Entry) → tickets (marked t out es) ≡ tickets es
tickets_marked t out [] = refl
tickets_marked t out (e ∷ es) = marked_step (nat_eq t e.0) out e (tickets (marked t out es)) (tickets es) (tickets_marked t out es)

tickets_sent_out : (o : Option ℕ) (es : List Entry) → tickets (sent_out o es) ≡ tickets es
tickets_sent_out None es = refl
tickets_sent_out (Some t) es = tickets_marked t true es

pub tickets_sent : (n : ℕ) (es : List Entry) → tickets (sent n es) ≡ tickets es
tickets_sent zero es = refl
tickets_sent (suc n) es = tickets_sent n (sent_out (first_queued es) es) ∙ tickets_sent_out (first_queued es) es

pub tickets_recalled : (es : List Entry) → tickets (recalled es) ≡ tickets es
tickets_recalled [] = refl
tickets_recalled (e ∷ es) = ap (λ (ts : List ℕ). e.0 ∷ ts) (tickets_recalled es)

pub tickets_left : (e : DeliverError) (t : ℕ) (es : List Entry) → tickets (pending_left e t es) ≡ tickets es
tickets_left (deliver.Overtaken i) t es = tickets_marked t false es
tickets_left deliver.Gone t es = refl
tickets_left deliver.OtherBlock t es = refl
tickets_left deliver.Already t es = refl
tickets_left deliver.HistoryFull t es = refl
tickets_left deliver.NoMemory t es = refl

-- who is queued and who is out doesn't matter
pub kept_marks : (ws : List Waiter) (es fs : List Entry) → tickets fs ≡ tickets es → QueueKept ws es → QueueKept ws fs
kept_marks ws es fs e k = record {
  rising = subst IsRising (sym e) k.rising;
  right = λ t. sym (member_tickets t fs) ∙ ap (member t) e ∙ member_tickets t es ∙ k.right t;
}

-- ---- a ticket more, and a ticket less
added_rising : (t : ℕ) (es : List Entry) → IsRising (tickets es) → has_ticket t es ≡ false → IsRising (tickets (with_ticket t es))
added_rising t es r h = subst IsRising (sym (tickets_with (t, false) es)) (insert_rising t (tickets es) r (member_tickets t es ∙ h))

removed_rising : (t : ℕ) (es : List Entry) → IsRising (tickets es) → IsRising (tickets (without_ticket t es))
removed_rising t es r = subst IsRising (sym (tickets_without t es)) (delete_rising t (tickets es) r)

-- ---- many tickets more
pub weaker : (j k : ℕ) (ts : List ℕ) → j ≤ k → RisesAbove k ts → RisesAbove j ts
weaker j k [] l r = tt
weaker j k (t ∷ ts) l r = let m : k < t = r.0 in (omega arith, r.1)

filtered_step : (b : Bool) (k : ℕ) (w : Waiter) (ws : List Waiter) → k < w.ticket → RisesAbove w.ticket (map (λ x. x.ticket) ws) → RisesAbove k (map (λ x. x.ticket) (cond b (w ∷ ws) ws))
filtered_step true k w ws l r = (l, r)
filtered_step false k w ws l r = weaker k w.ticket (map (λ x. x.ticket) ws) (omega arith) r

-- the tickets of some of the waiting blocks rise
pub filtered_above : (p : Waiter → Bool) (n k : ℕ) (ws : List Waiter) → AreRising n k ws → RisesAbove k (map (λ w. w.ticket) (filter p ws))
filtered_above p n k [] r = tt
filtered_above p n k (w ∷ ws) r = filtered_step (p w) k w (filter p ws) r.0 (filtered_above p n w.ticket ws r.2)

apart_by : (b : Bool) (u t : ℕ) (ts : List ℕ) → nat_eq u t ≡ b → RisesAbove t ts → member u ts ≡ true → b ≡ false
apart_by true u t ts e r m = let l : u ≤ t = grind (arith, nat_tests) in let n : member u ts ≡ false = absent_above u t ts l r in absurd cc
apart_by false u t ts e r m = refl

first_there : (t : ℕ) (ts : List ℕ) → member t (t ∷ ts) ≡ true
first_there t ts = rw (itself t) refl

all_rising : (ts : List ℕ) (k : ℕ) (es : List Entry) → RisesAbove k ts → ((u : ℕ) → member u ts ≡ true → has_ticket u es ≡ false) → IsRising (tickets es) → IsRising (tickets (with_tickets ts es))
all_rising [] k es r n h = h
all_rising (t ∷ ts) k es r n h =
    all_rising ts t (with_ticket t es) r.1
    (λ u m. has_with u (t, false) es ∙ neither (nat_eq u t) (has_ticket u es) (apart_by (nat_eq u t) u t ts refl r.1 m) (n u (or_right (nat_eq u t) (member u ts) m)))
    (added_rising t es h (n t (first_there t ts)))

-- ---- events
kept_submit : (s : Slow) (b : Block) (es : List Entry) → AreRising s.next 0 s.waiters → QueueKept s.waiters es → QueueKept (s.waiters ++ record { ticket = s.next; block = b; since = None } ∷ []) (with_ticket s.next es)
kept_submit s b es r k =
    let one : Waiter = record { ticket = s.next; block = b; since = None } in
    record {
      rising = added_rising s.next es k.rising (k.right s.next ∙ ap due_of (not_yet s.next s.next 0 s.waiters (omega arith) r));
      right = λ u. has_with u (s.next, false) es ∙ queue_push (nat_eq u s.next) (has_ticket u es) s.next b (find_waiter u s.waiters) (k.right u) ∙ sym (ap due_of (waiter_push u s.next 0 one s.waiters refl r));
    }

and_left : (a b : Bool) → (a && b) ≡ true → not a ≡ false
and_left true b h = refl
and_left false b h = absurd cc

-- what becomes stale was current
stale_not_due : (woken : List ℕ) (d : Bool) (o : Option Waiter) → stale_of woken (cond d None o) ≡ true → due_of o ≡ false
stale_not_due woken true o h = absurd cc
stale_not_due woken false None h = refl
stale_not_due woken false (Some w) h = and_left (is_current w) (not (is_current (after_writes woken w))) h

kept_finish : (s : Slow) (t n : ℕ) (w : Waiter) (v : Verdict) (stale : List ℕ) (es : List Entry) → AreRising s.next 0 s.waiters → find_waiter t s.waiters ≡ Some w → MayFinish s t w v n stale → QueueKept s.waiters es
    → QueueKept (after s (Finished t v n stale)).waiters (with_tickets stale es)
kept_finish s t n w v stale es r f may k =
    let W = waking s.rule s.store v in
    let ws = without_waiter t s.waiters in
    let listed : (u : ℕ) → member u stale ≡ stale_of W (cond (nat_eq u t) None (find_waiter u s.waiters)) = λ u.
    ap (member u) may.listed ∙ has_stale u s.next 0 W ws (rising_without t s.next 0 s.waiters r) ∙ ap (stale_of W) (waiter_without t u s.next 0 s.waiters r) in
    record {
      rising =
          all_rising stale 0 es (subst (RisesAbove 0) (sym may.listed) (filtered_above (becomes_stale W) s.next 0 ws (rising_without t s.next 0 s.waiters r)))
          (λ u m. k.right u ∙ stale_not_due W (nat_eq u t) (find_waiter u s.waiters) (sym (listed u) ∙ m)) k.rising;
      right = λ u.
          has_with_tickets u stale es ∙ ap (λ (b : Bool). b || has_ticket u es) (listed u)
          ∙ queue_finished (nat_eq u t) (has_ticket u es) W (find_waiter u s.waiters) (k.right u)
          (λ e. k.right u ∙ ap due_of (subst (λ (x : ℕ). find_waiter x s.waiters ≡ Some w) (sym (eqb-true u t e)) f) ∙ ap not may.current)
          ∙ sym (ap due_of (waiter_marks u W ws ∙ ap (option_map (after_writes W)) (waiter_without t u s.next 0 s.waiters r)));
    }

finish_of : (s : Slow) (t n : ℕ) (v : Verdict) (stale : List ℕ) (es : List Entry) (o : Option Waiter) → find_waiter t s.waiters ≡ o → IsSomeAnd o (λ w. MayFinish s t w v n stale) → AreRising s.next 0 s.waiters → QueueKept s.waiters es
    → QueueKept (after s (Finished t v n stale)).waiters (with_tickets stale es)
finish_of s t n v stale es None f a r k = absurd a
finish_of s t n v stale es (Some w) f a r k = kept_finish s t n w v stale es r f a k

-- an event that is allowed keeps it
pub kept_event : (s : Slow) (what : What) (es : List Entry) → AreRising s.next 0 s.waiters → Allows s what → QueueKept s.waiters es → QueueKept (after s what).waiters (pending_after what es)
kept_event s (Submitted t b) es r a k =
    subst (λ (u : ℕ). QueueKept (s.waiters ++ record { ticket = u; block = b; since = None } ∷ []) (with_ticket u es)) (sym a.0) (kept_submit s b es r k)
kept_event s (Installed t v) es r a k = record {
  rising = removed_rising t es k.rising;
  right = λ u. has_without u t es ∙ queue_delivered (nat_eq u t) (has_ticket u es) s.store (find_waiter u s.waiters) (k.right u) ∙ sym (ap due_of (waiter_delivered t u s.store s.waiters));
}
kept_event s (Finished t v n stale) es r a k = finish_of s t n v stale es (find_waiter t s.waiters) refl a r k
kept_event s (Cancelled t) es r a k = record {
  rising = removed_rising t es k.rising;
  right = λ u. has_without u t es ∙ queue_gone (nat_eq u t) (has_ticket u es) (find_waiter u s.waiters) (k.right u) ∙ sym (ap due_of (waiter_without t u s.next 0 s.waiters r));
}
kept_event s (DeclaredLate name kind value) es r a k = k
kept_event s (Labelled t label) es r a k = k
