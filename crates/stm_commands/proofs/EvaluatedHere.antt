-- Evaluating the queued blocks on the desk itself leaves the desk as handing them out and delivering what they do leaves it.
use Rattle.std.proofs.Common.{◌≡◌, ℕ, zero, suc, ◌+◌, ◌<◌, ◌≤◌, Bool, true, false, not, ◌&&◌, ◌||◌, cond, List, [], ◌∷◌, ◌++◌, map, filter, take, length, Option, Some, None, refl, sym, ap, subst, ◌∙◌, append_assoc, append-nil, arith}
use Rattle.std.specs.Prelude.{nat_eq, option_map, is_some}
use Rattle.std.proofs.lemmas.Bool.Decides.{nat_tests}
use Rattle.std.proofs.lemmas.Bool.{not-true, or_right}
use Rattle.stm_terms.specs.declared.verdicts.Verdict.{Verdict}
use Rattle.stm_terms.specs.Changes.{cell_value}
use Rattle.stm_terms.specs.ReadSet.{reads_of}
use Rattle.stm_store.specs.declared.cell.Cell.{Cell}
use Rattle.stm_store.specs.Cells.{plains}
use Rattle.stm_queue.specs.Queue.{Entry, tickets, has_ticket, is_out, without_ticket, marked, first_queued, sent_out, queued}
use Rattle.stm_queue.specs.SortedTickets.{RisesAbove, IsRising, member}
use Rattle.stm_queue.proofs.Merging.{itself}
use Rattle.stm_queue.proofs.SortedInsertion.{absent_above}
use Rattle.stm_events.specs.declared.errors.DeliverError.{DeliverError}
use Rattle.stm_events.specs.declared.errors.DeliverError.TheVariants.{Already, HistoryFull}
use Rattle.stm_events.specs.declared.event.Event.{Event}
use Rattle.stm_events.specs.declared.event.What.TheVariants.{Installed}
use Rattle.stm_machine.specs.JobsHandedOut.{sent}
use Rattle.stm_machine.specs.Machine.{event}
use Rattle.stm_machine.specs.QueueAndIndex.{due_of}
use Rattle.stm_events.specs.Refusals.{differing, overtaken_first}
use Rattle.stm_events.specs.SlowDesk.{Waiter, Slow, under, verdict_on, is_current, find_waiter, with_delivery}
use Rattle.stm_terms.specs.Limits.{max_waiting}
use Rattle.stm_events.specs.States.{IsLegalFrom}
use Rattle.stm_machine.specs.Checkpoints.{MayStart}
use Rattle.stm_machine.proofs.SameReadsElsewhere.{reads_differ_nowhere}
use Rattle.stm_events.proofs.Rising.{waiter_delivered}
use Rattle.stm_desk.specs.Evaluating.{EvaluatedSoFar, verdict_of_waiter, verdict_under, with_installed, with_evaluated, evaluate_unless, evaluate_each, none_evaluated, evaluate_lowest}
use Rattle.stm_desk.specs.DeskView.{DeskView, start_state, state_of, is_full, with_event, DeskQueueIsRight, AllHaveVerdicts}
use Rattle.stm_commands.specs.Evaluation.{DeliveredSoFar, delivered_by, delivered_all, evaluated}
use Rattle.stm_commands.specs.Jobs.{delivery_first, delivery_refusal, installed, jobs_of, job_of, taken}
use Rattle.stm_commands.specs.OpenDesk.{HandedOut}
use Rattle.stm_commands.specs.OpenInvariant.{HasGrown}
use Rattle.stm_commands.proofs.Growing.{now_next}
use Rattle.stm_commands.proofs.KeptQueue.{tickets_marked, weaker}
use Rattle.stm_commands.proofs.OutTickets.{out_without, left_false, right_false, none_queued, first_sent}

-- ---- marks
both : (x y : Entry) (xs ys : List Entry) → x ≡ y → xs ≡ ys → x ∷ xs ≡ y ∷ ys
both x y xs ys p q = ap (λ (z : Entry). z ∷ xs) p ∙ ap (λ (zs : List Entry). y ∷ zs) q

abbrev mark : ℕ → Bool → Entry → Entry
mark t out e = cond (nat_eq t e.0) (e.0, out) e

swap_entry : (p q : Bool) (t u : ℕ) (a b : Bool) (e : Entry) → nat_eq t e.0 ≡ p → nat_eq u e.0 ≡ q → nat_eq t u ≡ false → mark t a (mark u b e) ≡ mark u b (mark t a e)
swap_entry true true t u a b e f g n = absurd (let x : nat_eq t u ≡ true = grind (arith, nat_tests) in cc)
swap_entry true false t u a b e f g n = rw (f, g) (rw f refl)
swap_entry false true t u a b e f g n = rw (f, g) (rw f refl)
swap_entry false false t u a b e f g n = rw (f, g) (rw f refl)

swap_marks : (t u : ℕ) (a b : Bool) (es : List Entry) → nat_eq t u ≡ false → marked t a (marked u b es) ≡ marked u b (marked t a es)
swap_marks t u a b [] n = refl
swap_marks t u a b (e ∷ es) n =
    both (mark t a (mark u b e)) (mark u b (mark t a e)) (marked t a (marked u b es)) (marked u b (marked t a es)) (swap_entry (nat_eq t e.0) (nat_eq u e.0) t u a b e refl refl n) (swap_marks t u a b es n)

again_entry : (p : Bool) (t : ℕ) (a b : Bool) (e : Entry) → nat_eq t e.0 ≡ p → mark t a (mark t b e) ≡ mark t a e
again_entry true t a b e f = rw f (rw f refl)
again_entry false t a b e f = rw f (rw f refl)

marked_again : (t : ℕ) (a b : Bool) (es : List Entry) → marked t a (marked t b es) ≡ marked t a es
marked_again t a b [] = refl
marked_again t a b (e ∷ es) =
    both (mark t a (mark t b e)) (mark t a e) (marked t a (marked t b es)) (marked t a es) (again_entry (nat_eq t e.0) t a b e refl) (marked_again t a b es)

queued_entry : (p o : Bool) (x : ℕ) → (p && o) ≡ false → ◌≡◌ {A = Entry} (cond p (x, false) (x, o)) (x, o)
queued_entry true true x h = absurd cc
queued_entry true false x h = refl
queued_entry false o x h = refl

pub marked_queued : (t : ℕ) (es : List Entry) → is_out t es ≡ false → marked t false es ≡ es
marked_queued t [] h = refl
marked_queued t (e ∷ es) h =
    both (mark t false e) e (marked t false es) es (queued_entry (nat_eq t e.0) e.1 e.0 (left_false (nat_eq t e.0 && e.1) (is_out t es) h)) (marked_queued t es (right_false (nat_eq t e.0 && e.1) (is_out t es) h))

other_step : (p q : Bool) (t u : ℕ) (out : Bool) (e : Entry) (es : List Entry) → nat_eq u e.0 ≡ p → nat_eq t e.0 ≡ q → without_ticket t (marked u out es) ≡ marked u out (without_ticket t es)
    → without_ticket t (marked u out (e ∷ es)) ≡ marked u out (without_ticket t (e ∷ es))
other_step true true t u out e es f g h = rw (f, g) h
other_step true false t u out e es f g h = rw (f, g) (rw f (ap (λ (fs : List Entry). (e.0, out) ∷ fs) h))
other_step false true t u out e es f g h = rw (f, g) h
other_step false false t u out e es f g h = rw (f, g) (rw f (ap (λ (fs : List Entry). e ∷ fs) h))

without_marked : (t u : ℕ) (out : Bool) (es : List Entry) → without_ticket t (marked u out es) ≡ marked u out (without_ticket t es)
without_marked t u out [] = refl
without_marked t u out (e ∷ es) = other_step (nat_eq u e.0) (nat_eq t e.0) t u out e es refl refl (without_marked t u out es)

same_step : (p : Bool) (t : ℕ) (out : Bool) (e : Entry) (es : List Entry) → nat_eq t e.0 ≡ p → without_ticket t (marked t out es) ≡ without_ticket t es → without_ticket t (marked t out (e ∷ es)) ≡ without_ticket t (e ∷ es)
same_step true t out e es f h = rw f (rw f h)
same_step false t out e es f h = rw f (rw f (ap (λ (fs : List Entry). e ∷ fs) h))

without_same : (t : ℕ) (out : Bool) (es : List Entry) → without_ticket t (marked t out es) ≡ without_ticket t es
without_same t out [] = refl
without_same t out (e ∷ es) = same_step (nat_eq t e.0) t out e es refl (without_same t out es)

-- ---- many tickets that are out
abbrev all_out : List ℕ → List Entry → List Entry
all_out [] es = es
all_out (t ∷ ts) es = all_out ts (marked t true es)

back_all : (t : ℕ) (ts : List ℕ) (es : List Entry) → member t ts ≡ false → marked t false (all_out ts es) ≡ all_out ts (marked t false es)
back_all t [] es h = refl
back_all t (u ∷ us) es h =
    back_all t us (marked u true es) (right_false (nat_eq t u) (member t us) h) ∙ ap (all_out us) (swap_marks t u false true es (left_false (nat_eq t u) (member t us) h))

-- the first of them is queued again
first_back : (t : ℕ) (ts : List ℕ) (es : List Entry) → member t ts ≡ false → is_out t es ≡ false → marked t false (all_out (t ∷ ts) es) ≡ all_out ts es
first_back t ts es h o = back_all t ts (marked t true es) h ∙ ap (all_out ts) (marked_again t false true es ∙ marked_queued t es o)

without_all : (t : ℕ) (ts : List ℕ) (es : List Entry) → without_ticket t (all_out ts es) ≡ all_out ts (without_ticket t es)
without_all t [] es = refl
without_all t (u ∷ us) es = without_all t us (marked u true es) ∙ ap (all_out us) (without_marked t u true es)

-- the first of them is there no more
first_gone : (t : ℕ) (ts : List ℕ) (es : List Entry) → without_ticket t (all_out (t ∷ ts) es) ≡ all_out ts (without_ticket t es)
first_gone t ts es = without_all t ts (marked t true es) ∙ ap (all_out ts) (without_same t true es)

sent_by : (n : ℕ) (es : List Entry) (o : Option ℕ) → first_queued es ≡ o → IsRising (tickets es) → ((fs : List Entry) → IsRising (tickets fs) → sent (length (take n (queued fs))) fs ≡ all_out (take n (queued fs)) fs)
    → sent (length (take (suc n) (queued es))) es ≡ all_out (take (suc n) (queued es)) es
sent_by n es None e r more = subst (λ (ts : List ℕ). sent (length (take (suc n) ts)) es ≡ all_out (take (suc n) ts) es) (sym (none_queued es e)) refl
sent_by n es (Some t) e r more =
    let s = first_sent 0 t es r e in
    let next = marked t true es in
    subst (λ (ts : List ℕ). sent (length (take (suc n) ts)) es ≡ all_out (take (suc n) ts) es) (sym s.0)
    (ap (λ (o : Option ℕ). sent (length (take n (queued next))) (sent_out o es)) e ∙ more next (subst IsRising (sym (tickets_marked t true es)) r))

-- the lowest queued tickets are those that are handed out
sent_all : (n : ℕ) (es : List Entry) → IsRising (tickets es) → sent (length (take n (queued es))) es ≡ all_out (take n (queued es)) es
sent_all zero es r = refl
sent_all (suc n) es r = sent_by n es (first_queued es) refl r (sent_all n)

-- ---- the queued tickets
abbrev AreQueuedIn : List Entry → List ℕ → Type 0
AreQueuedIn es [] = Unit {0}
AreQueuedIn es (t ∷ ts) = (has_ticket t es ≡ true) × (is_out t es ≡ false) × (member t ts ≡ false) × AreQueuedIn es ts

record QueueRises (k : ℕ) (es : List Entry) (ts : List ℕ) : Type 0 where
  pub above : RisesAbove k ts
  pub queued : AreQueuedIn es ts

unlike : (t k : ℕ) → k < t → nat_eq t k ≡ false
unlike t k l = grind (arith, nat_tests)

in_more : (k : ℕ) (e : Entry) (es : List Entry) (ts : List ℕ) → e.0 ≤ k → RisesAbove k ts → AreQueuedIn es ts → AreQueuedIn (e ∷ es) ts
in_more k e es [] l r q = tt
in_more k e es (t ∷ ts) l r q =
    let m : k < t = r.0 in
    let n : nat_eq t e.0 ≡ false = unlike t e.0 (omega arith) in
    (or_right (nat_eq t e.0) (has_ticket t es) q.0, ap (λ (b : Bool). (b && e.1) || is_out t es) n ∙ q.1, q.2, in_more t e es ts (omega arith) r.1 q.3)

absent_out : (t : ℕ) (es : List Entry) → member t (tickets es) ≡ false → is_out t es ≡ false
absent_out t [] h = refl
absent_out t (e ∷ es) h =
    ap (λ (b : Bool). (b && e.1) || is_out t es) (left_false (nat_eq t e.0) (member t (tickets es)) h) ∙ absent_out t es (right_false (nat_eq t e.0) (member t (tickets es)) h)

first_in : (e : Entry) (es : List Entry) → RisesAbove e.0 (tickets es) → e.1 ≡ false → is_out e.0 (e ∷ es) ≡ false
first_in e es r o = ap (λ (b : Bool). (nat_eq e.0 e.0 && b) || is_out e.0 es) o ∙ drops (nat_eq e.0 e.0) (is_out e.0 es) (absent_out e.0 es (absent_above e.0 e.0 (tickets es) (omega arith) r))
  where
    drops : (a b : Bool) → b ≡ false → ((a && false) || b) ≡ false
    drops true b h = h
    drops false b h = h

first_queue : (o : Bool) (e : Entry) (es : List Entry) → e.1 ≡ o → RisesAbove e.0 (tickets es) → QueueRises e.0 es (queued es)
    → AreQueuedIn (e ∷ es) (map (λ (x : Entry). x.0) (cond (not o) (e ∷ filter (λ x. not x.1) es) (filter (λ x. not x.1) es)))
first_queue true e es q r h = in_more e.0 e es (queued es) (omega arith) h.above h.queued
first_queue false e es q r h = (rw (itself e.0) refl, first_in e es r q, absent_above e.0 e.0 (queued es) (omega arith) h.above, in_more e.0 e es (queued es) (omega arith) h.above h.queued)

above_step : (o : Bool) (k : ℕ) (e : Entry) (es : List Entry) → k < e.0 → RisesAbove e.0 (queued es) → RisesAbove k (map (λ (x : Entry). x.0) (cond (not o) (e ∷ filter (λ x. not x.1) es) (filter (λ x. not x.1) es)))
above_step true k e es l r = weaker k e.0 (queued es) (omega arith) r
above_step false k e es l r = (l, r)

queue_rises : (k : ℕ) (es : List Entry) → RisesAbove k (tickets es) → QueueRises k es (queued es)
queue_rises k [] r = record { above = tt; queued = tt }
queue_rises k (e ∷ es) r =
    let h = queue_rises e.0 es r.1 in
    record { above = above_step e.1 k e es r.0 h.above; queued = first_queue e.1 e es refl r.1 h }

queued_are_in : (es : List Entry) → IsRising (tickets es) → AreQueuedIn es (queued es)
queued_are_in [] r = tt
queued_are_in (e ∷ es) r = first_queue e.1 e es refl r (queue_rises e.0 es r)

not_taken : (t n : ℕ) (ts : List ℕ) → member t ts ≡ false → member t (take n ts) ≡ false
not_taken t zero ts h = refl
not_taken t (suc n) [] h = refl
not_taken t (suc n) (u ∷ us) h = ap (λ (b : Bool). b || member t (take n us)) (left_false (nat_eq t u) (member t us) h) ∙ not_taken t n us (right_false (nat_eq t u) (member t us) h)

taken_in : (n : ℕ) (es : List Entry) (ts : List ℕ) → AreQueuedIn es ts → AreQueuedIn es (take n ts)
taken_in zero es ts q = tt
taken_in (suc n) es [] q = tt
taken_in (suc n) es (t ∷ ts) q = (q.0, q.1, not_taken t n ts q.2, taken_in n es ts q.3)

-- ---- the tickets that are evaluated next
-- the block under a ticket is new or stale, and waits as it did; the ticket isn't out
record IsReady (s : Slow) (d : DeskView) (t : ℕ) : Type 0 where
  pub due : due_of (find_waiter t s.waiters) ≡ true
  pub same : find_waiter t (state_of d).waiters ≡ find_waiter t s.waiters
  pub stays : is_out t d.pending ≡ false

abbrev AreReady : Slow → DeskView → List ℕ → Type 0
AreReady s d [] = Unit {0}
AreReady s d (t ∷ ts) = IsReady s d t × (member t ts ≡ false) × AreReady s d ts

ready_first : (d : DeskView) (ts : List ℕ) → DeskQueueIsRight d → AreQueuedIn d.pending ts → AreReady (state_of d) d ts
ready_first d [] right q = tt
ready_first d (t ∷ ts) right q = (record { due = sym (right t) ∙ q.0; same = refl; stays = q.1 }, q.2, ready_first d ts right q.3)

other_way : (t u : ℕ) → nat_eq t u ≡ false → nat_eq u t ≡ false
other_way t u h = grind (arith, nat_tests)

nothing_out : (a b : Bool) → b ≡ false → (not a && b) ≡ false
nothing_out true b h = refl
nothing_out false b h = h

ready_next : (s : Slow) (d : DeskView) (t u : ℕ) (v : Verdict) → nat_eq u t ≡ false → IsReady s d u → IsReady s (with_event d 0 (Installed t v)) u
ready_next s d t u v n r =
    let o = find_waiter u (state_of d).waiters in
    record {
      due = r.due;
      same =
          ap (λ (x : Slow). find_waiter u x.waiters) (now_next d 0 (Installed t v)) ∙ waiter_delivered t u (state_of d).store (state_of d).waiters
          ∙ ap (λ (b : Bool). cond b (option_map (with_delivery (state_of d).store) o) o) n ∙ r.same;
      stays = out_without t u d.pending ∙ nothing_out (nat_eq u t) (is_out u d.pending) r.stays;
    }

are_ready_next : (s : Slow) (d : DeskView) (t : ℕ) (v : Verdict) (ts : List ℕ) → member t ts ≡ false → AreReady s d ts → AreReady s (with_event d 0 (Installed t v)) ts
are_ready_next s d t v [] h r = tt
are_ready_next s d t v (u ∷ us) h r =
    (ready_next s d t u v (other_way t u (left_false (nat_eq t u) (member t us) h)) r.0, r.1, are_ready_next s d t v us (right_false (nat_eq t u) (member t us) h) r.2)

-- ---- both ways, ticket by ticket
abbrev as_delivered : EvaluatedSoFar → DeliveredSoFar
as_delivered p = record { desk = p.desk; count = p.count; stop = p.stop }

abbrev so_far : DeskView → List Entry → ℕ → Option DeliverError → DeliveredSoFar
so_far d p n stop = record { desk = record d { pending = p }; count = n; stop = stop }

abbrev here : DeskView → ℕ → Option DeliverError → EvaluatedSoFar
here d n stop = record { desk = d; count = n; stop = stop }

abbrev job : Slow → ℕ → Waiter → HandedOut
job s t w = record { ticket = t; block = w.block; store = plains s.store }

-- after a refusal those that are left are queued again
back_rest : (ts : List ℕ) (s : Slow) (d : DeskView) (n : ℕ) (e : DeliverError) → AreReady s d ts → delivered_all (so_far d (all_out ts d.pending) n (Some e)) (jobs_of s ts) ≡ record { desk = d; count = n; stop = Some e }
back_rest [] s d n e r = refl
back_rest (t ∷ ts) s d n e r = by (find_waiter t s.waiters) r.0.due (back_rest ts s d n e r.2)
  where
    by : (o : Option Waiter) → due_of o ≡ true → delivered_all (so_far d (all_out ts d.pending) n (Some e)) (jobs_of s ts) ≡ record { desk = d; count = n; stop = Some e }
        → delivered_all (so_far d (all_out (t ∷ ts) d.pending) n (Some e)) (job_of s t (option_map (λ w. w.block) o) ++ jobs_of s ts) ≡ record { desk = d; count = n; stop = Some e }
    by None h more = absurd cc
    by (Some w) h more = ap (λ (p : List Entry). delivered_all (so_far d p n (Some e)) (jobs_of s ts)) (first_back t ts d.pending r.1 r.0.stays) ∙ more

-- once stopped, an evaluation goes no further
stopped : (d : DeskView) (n : ℕ) (e : DeliverError) (ts : List ℕ) → evaluate_each 0 (here d n (Some e)) ts ≡ here d n (Some e)
stopped d n e [] = refl
stopped d n e (t ∷ ts) = stopped d n e ts

-- what a block does on the present store is refused only if the history is full
refusal : (s : Slow) (d : DeskView) (p : List Entry) (t : ℕ) (w : Waiter) (full : Bool) → find_waiter t s.waiters ≡ Some w → due_of (Some w) ≡ true → find_waiter t (state_of d).waiters ≡ find_waiter t s.waiters → (state_of d).store ≡ s.store → is_full d ≡ full
    → delivery_refusal (record d { pending = p }) (job s t w) ≡ cond full (Some HistoryFull) None
refusal s d p t w full f due same store q =
    let reads = reads_of (cell_value (plains s.store)) w.block.tree in
    ap (λ (o : Option Waiter). delivery_first (state_of d).store o reads (record d { pending = p })) (same ∙ f)
    ∙ ap (λ (b : Bool). cond b (Some Already) (overtaken_first (differing (under (state_of d).store) reads) (is_full d))) (not-true (is_current w) due)
    ∙ ap (λ (x : List Cell). overtaken_first (differing (under x) reads) (is_full d)) store
    ∙ ap (λ (i : Option ℕ). overtaken_first i (is_full d)) (reads_differ_nowhere (under s.store) w.block.tree)
    ∙ ap (λ (b : Bool). cond b (Some HistoryFull) None) q

store_next : (s : Slow) (d : DeskView) (t : ℕ) (v : Verdict) → (state_of d).store ≡ s.store → (state_of (with_event d 0 (Installed t v))).store ≡ s.store
store_next s d t v e = ap (λ (x : Slow). x.store) (now_next d 0 (Installed t v)) ∙ e

abbrev SameFrom : Slow → List ℕ → Type 0
SameFrom s ts = (d : DeskView) (n : ℕ) → (state_of d).store ≡ s.store → AreReady s d ts → delivered_all (so_far d (all_out ts d.pending) n None) (jobs_of s ts) ≡ as_delivered (evaluate_each 0 (here d n None) ts)

step_full : (s : Slow) (t : ℕ) (ts : List ℕ) (d : DeskView) (n : ℕ) (w : Waiter) → find_waiter t s.waiters ≡ Some w → due_of (Some w) ≡ true → (state_of d).store ≡ s.store → AreReady s d (t ∷ ts) → is_full d ≡ true
    → delivered_all (so_far d (all_out (t ∷ ts) d.pending) n None) (job_of s t (Some w.block) ++ jobs_of s ts) ≡ as_delivered (evaluate_each 0 (evaluate_unless 0 (here d n None) t None) ts)
step_full s t ts d n w f due e r q =
    ap (λ (o : Option DeliverError). delivered_all (delivered_by (so_far d (all_out (t ∷ ts) d.pending) n None) (job s t w) o) (jobs_of s ts)) (refusal s d (all_out (t ∷ ts) d.pending) t w true f due r.0.same e q)
    ∙ ap (λ (p : List Entry). delivered_all (so_far d p n (Some HistoryFull)) (jobs_of s ts)) (first_back t ts d.pending r.1 r.0.stays)
    ∙ back_rest ts s d n HistoryFull r.2
    ∙ sym (
    ap (λ (b : Bool). as_delivered (evaluate_each 0 (cond b (here d n (Some HistoryFull)) (here (with_evaluated d 0 t) (n + 1) None)) ts)) q
    ∙ ap as_delivered (stopped d n HistoryFull ts)
    )

step_room : (s : Slow) (t : ℕ) (ts : List ℕ) (d : DeskView) (n : ℕ) (w : Waiter) (v : Verdict) → find_waiter t s.waiters ≡ Some w → due_of (Some w) ≡ true → verdict_on s.store w.block ≡ Some v → (state_of d).store ≡ s.store → AreReady s d (t ∷ ts)
    → is_full d ≡ false → SameFrom s ts
    → delivered_all (so_far d (all_out (t ∷ ts) d.pending) n None) (job_of s t (Some w.block) ++ jobs_of s ts) ≡ as_delivered (evaluate_each 0 (evaluate_unless 0 (here d n None) t None) ts)
step_room s t ts d n w v f due x e r q more =
    let next = with_event d 0 (Installed t v) in
    let p = all_out (t ∷ ts) d.pending in
    let there : verdict_under (state_of d) t ≡ Some v =
    ap (verdict_of_waiter (state_of d).store) (r.0.same ∙ f) ∙ ap (λ (y : List Cell). verdict_on y w.block) e ∙ x in
    ap (λ (o : Option DeliverError). delivered_all (delivered_by (so_far d p n None) (job s t w) o) (jobs_of s ts)) (refusal s d p t w false f due r.0.same e q)
    ∙ ap (λ (o : Option Verdict). delivered_all (record { desk = installed (record d { pending = p }) t o; count = n + 1; stop = None }) (jobs_of s ts)) x
    ∙ ap (λ (es : List Entry). delivered_all (so_far next es (n + 1) None) (jobs_of s ts)) (first_gone t ts d.pending)
    ∙ more next (n + 1) (store_next s d t v e) (are_ready_next s d t v ts r.1 r.2)
    ∙ sym (
    ap (λ (b : Bool). as_delivered (evaluate_each 0 (cond b (here d n (Some HistoryFull)) (here (with_evaluated d 0 t) (n + 1) None)) ts)) q
    ∙ ap (λ (o : Option Verdict). as_delivered (evaluate_each 0 (here (with_installed d 0 t o) (n + 1) None) ts)) there
    )

a_verdict : (o : Option Verdict) → is_some o ≡ true → (v : Verdict) × (o ≡ Some v)
a_verdict None h = absurd cc
a_verdict (Some v) h = (v, refl)

same_step_of : (s : Slow) → AllHaveVerdicts s → (t : ℕ) (ts : List ℕ) (d : DeskView) (n : ℕ) (o : Option Waiter) (full : Bool) → find_waiter t s.waiters ≡ o → due_of o ≡ true → is_full d ≡ full → (state_of d).store ≡ s.store → AreReady s d (t ∷ ts)
    → SameFrom s ts
    → delivered_all (so_far d (all_out (t ∷ ts) d.pending) n None) (job_of s t (option_map (λ w. w.block) o) ++ jobs_of s ts) ≡ as_delivered (evaluate_each 0 (evaluate_unless 0 (here d n None) t None) ts)
same_step_of s have t ts d n None full f due q e r more = absurd cc
same_step_of s have t ts d n (Some w) true f due q e r more = step_full s t ts d n w f due e r q
same_step_of s have t ts d n (Some w) false f due q e r more = let v = a_verdict (verdict_on s.store w.block) (have t w f) in step_room s t ts d n w v.0 f due v.1 e r q more

same_each : (s : Slow) → AllHaveVerdicts s → (ts : List ℕ) → SameFrom s ts
same_each s have [] d n e r = refl
same_each s have (t ∷ ts) d n e r = same_step_of s have t ts d n (find_waiter t s.waiters) (is_full d) refl r.0.due refl e r (same_each s have ts)

same_lowest : (d : DeskView) (n : ℕ) → DeskQueueIsRight d → IsRising (tickets d.pending) → AllHaveVerdicts (state_of d)
    → delivered_all (so_far d (sent (length (taken d n)) d.pending) 0 None) (jobs_of (state_of d) (taken d n)) ≡ as_delivered (evaluate_lowest d 0 n)
same_lowest d n right r have =
    ap (λ (p : List Entry). delivered_all (so_far d p 0 None) (jobs_of (state_of d) (taken d n))) (sent_all n d.pending r)
    ∙ same_each (state_of d) have (taken d n) d 0 refl (ready_first d (taken d n) right (taken_in n d.pending (queued d.pending) (queued_are_in d.pending r)))

-- all that is queued, evaluated on the desk itself
pub evaluated_here : (d e : DeskView) (count n : ℕ) (stop : Option DeliverError) → n ≡ max_waiting → record { desk = e; count = count; stop = stop } ≡ evaluate_lowest d 0 n → DeskQueueIsRight d → IsRising (tickets d.pending) → AllHaveVerdicts (state_of d)
    → record { desk = e; count = count; stop = stop } ≡ evaluated d
evaluated_here d e count n stop m done right r have =
    ap as_delivered done ∙ ap (λ (k : ℕ). as_delivered (evaluate_lowest d 0 k)) m ∙ sym (same_lowest d max_waiting right r have)

-- ---- the history grows
record IsLonger (d e : DeskView) : Type 0 where
  pub table : e.table ≡ d.table
  pub checkpoint : e.checkpoint ≡ d.checkpoint
  pub limit : e.limit ≡ d.limit
  pub more : List Event
  pub history : e.history ≡ d.history ++ more

longer_same : (d : DeskView) → IsLonger d d
longer_same d = record { table = refl; checkpoint = refl; limit = refl; more = []; history = sym (append-nil d.history) }

longer_with : (d : DeskView) (t : ℕ) (o : Option Verdict) → IsLonger d (with_installed d 0 t o)
longer_with d t None = longer_same d
longer_with d t (Some v) = record { table = refl; checkpoint = refl; limit = refl; more = event 0 (Installed t v) ∷ []; history = refl }

longer_by : (d : DeskView) (n t : ℕ) (b : Bool) → IsLonger d (cond b (here d n (Some HistoryFull)) (here (with_evaluated d 0 t) (n + 1) None)).desk
longer_by d n t true = longer_same d
longer_by d n t false = longer_with d t (verdict_under (state_of d) t)

longer_unless : (d : DeskView) (n t : ℕ) (o : Option DeliverError) → IsLonger d (evaluate_unless 0 (here d n o) t o).desk
longer_unless d n t (Some e) = longer_same d
longer_unless d n t None = longer_by d n t (is_full d)

longer_each : (ts : List ℕ) (p : EvaluatedSoFar) → IsLonger p.desk (evaluate_each 0 p ts).desk
longer_each [] p = longer_same p.desk
longer_each (t ∷ ts) p =
    let q = evaluate_unless 0 p t p.stop in
    let g = longer_unless p.desk p.count t p.stop in
    let h = longer_each ts q in
    record {
      table = h.table ∙ g.table;
      checkpoint = h.checkpoint ∙ g.checkpoint;
      limit = h.limit ∙ g.limit;
      more = g.more ++ h.more;
      history = h.history ∙ ap (λ (es : List Event). es ++ h.more) g.history ∙ append_assoc p.desk.history g.more h.more;
    }

pub evaluated_grown : (d : DeskView) (n : ℕ) (p : EvaluatedSoFar) → p ≡ evaluate_lowest d 0 n → MayStart p.desk.table p.desk.checkpoint → IsLegalFrom (start_state p.desk) p.desk.history → HasGrown d p.desk
evaluated_grown d n p done start legal =
    let g = subst (λ (q : EvaluatedSoFar). IsLonger d q.desk) (sym done) (longer_each (take n (queued d.pending)) (none_evaluated d)) in
    record { table = g.table; checkpoint = g.checkpoint; limit = g.limit; more = g.more; history = g.history; start = start; legal = legal }
