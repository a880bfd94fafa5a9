-- The jobs that are handed out.
use Rattle.std.proofs.Common.{◌≡◌, ◌≢◌, ℕ, zero, suc, ◌+◌, ◌-◌, ◌<◌, ◌≤◌, true, List, [], ◌∷◌, ◌++◌, take, Option, Some, None, refl, sym, ap, subst, ◌∙◌, arith, add-one}
use Rattle.std.specs.Prelude.{slice_get, option_map, IsSome}
use Rattle.stm_terms.specs.declared.kinds.Ty.{Ty}
use Rattle.stm_terms.specs.declared.values.Value.{Value}
use Rattle.stm_terms.specs.Changes.{cell_value}
use Rattle.stm_terms.specs.ReadSet.{reads_of}
use Rattle.stm_terms.specs.Verdict.{verdict}
use Rattle.stm_store.specs.Cells.{plains, Covers}
use Rattle.stm_check.specs.TypedBlock.{Block}
use Rattle.stm_eval.specs.declared.job.Job.{Job}
use Rattle.stm_eval.specs.declared.message.Evaluated.{Evaluated}
use Rattle.stm_eval.specs.EvaluatedFields.{message_ticket, message_block, message_reads, message_verdict}
use Rattle.stm_queue.specs.Queue.{Entry, has_ticket, first_queued, sent_out}
use Rattle.stm_queue.proofs.Membership.{has_sent_out}
use Rattle.stm_events.specs.SlowDesk.{Waiter, Slow, under, find_waiter}
use Rattle.stm_waiting.specs.declared.waiting.Waiting.{Waiting}
use Rattle.stm_waiting.specs.Entries.{kept_at}
use Rattle.stm_machine.specs.Entries.{AreKeptOf}
use Rattle.stm_machine.specs.Machine.{Parts, IsAt}
use Rattle.stm_machine.specs.QueueAndIndex.{due_of}
use Rattle.stm_eval.specs.CoveredJobs.{AreJobsCovered}
use Rattle.stm_machine.specs.JobsHandedOut.{sent, block_at, AreJobs, IsKeptJob, AreKept, IsPresent}
use Rattle.stm_events.specs.Refusals.{differing}
use Rattle.stm_machine.proofs.SameReadsElsewhere.{reads_differ_nowhere}
use Rattle.stm_machine.proofs.States.{covered_at}
use Rattle.stm_machine.proofs.KeptBlocksWait.{IsFound, found}

-- ---- one more of a list
take_suc : (xs : List ℕ) (i t : ℕ) → slice_get xs i ≡ Some t → take (suc i) xs ≡ take i xs ++ t ∷ []
take_suc [] i t h = cc
take_suc (x ∷ xs) zero t h = let q : x ≡ t = cc in rw q refl
take_suc (x ∷ xs) (suc i) t h = ap (λ (ys : List ℕ). x ∷ ys) (take_suc xs i t h)

pub take_more : (xs : List ℕ) (i t : ℕ) → slice_get xs i ≡ Some t → take (i + 1) xs ≡ take i xs ++ t ∷ []
take_more xs i t h = rw add-one (take_suc xs i t h)

pub take_past : (xs : List ℕ) (i n : ℕ) → slice_get xs i ≡ None → i ≤ n → take i xs ≡ take n xs
take_past [] zero zero h l = refl
take_past [] zero (suc n) h l = refl
take_past [] (suc i) zero h l = refl
take_past [] (suc i) (suc n) h l = refl
take_past (x ∷ xs) zero n h l = cc
take_past (x ∷ xs) (suc i) zero h l = absurd (omega arith)
take_past (x ∷ xs) (suc i) (suc n) h l = ap (λ (ys : List ℕ). x ∷ ys) (take_past xs i n h (omega arith))

pub kept_job-push : (es : List (ℕ × Waiting)) (js : List Job) (j : Job) → AreKept es js → IsKeptJob es j → AreKept es (js ++ j ∷ [])
kept_job-push es [] j a k = (k, tt)
kept_job-push es (i ∷ js) j a k = (a.0, kept_job-push es js j a.1 k)

-- ---- what is sent out
pub sent_more : (n k : ℕ) (es : List Entry) → k < n → sent (n - (k + 1)) (sent_out (first_queued es) es) ≡ sent (n - k) es
sent_more n k es l = let e : n - k ≡ suc (n - (k + 1)) = omega arith in rw e refl

pub has_sent : (u n : ℕ) (es : List Entry) → has_ticket u (sent n es) ≡ has_ticket u es
has_sent u zero es = refl
has_sent u (suc n) es = has_sent u n (sent_out (first_queued es) es) ∙ has_sent_out u (first_queued es) es

-- ---- who is handed out waits
due_waits : (o : Option Waiting) (p : Option Waiter) → IsFound o p → due_of p ≡ true → o ≡ None → ⊥
due_waits o None f d e = cc
due_waits None (Some w) f d e = f
due_waits (Some x) (Some w) f d e = cc

pub queued_wait : (m : Parts) (s : Slow) → IsAt m s → (t : ℕ) → has_ticket t m.pending ≡ true → kept_at t m.entries ≢ None
queued_wait m s k t h =
    let ws = s.waiters in
    due_waits (kept_at t m.entries) (find_waiter t ws) (found t m.entries ws k.stands.entries_are) (sym (k.stands.queue t) ∙ h)

job_step : (o : Option Waiting) (p : Option Waiter) (b : Block) → IsFound o p → option_map (λ w. w.block) o ≡ Some b → option_map (λ w. w.block) p ≡ Some b
job_step None None b f e = cc
job_step None (Some w) b f e = absurd f
job_step (Some x) None b f e = absurd f
job_step (Some x) (Some w) b f e = ap Some (sym f.block) ∙ e

pub are_jobs : (s : Slow) (es : List (ℕ × Waiting)) (js : List Job) → AreKeptOf es s.waiters → AreKept es js → AreJobs s js
are_jobs s es [] d a = tt
are_jobs s es (j ∷ js) d a = (job_step (kept_at j.ticket es) (find_waiter j.ticket s.waiters) j.block (found j.ticket es s.waiters d) a.0, are_jobs s es js d a.1)

covered_step : (cells : List (Ty × Value)) (o : Option Waiter) (b : Block) → ((w : Waiter) → o ≡ Some w → Covers cells w.block.uses) → option_map (λ w. w.block) o ≡ Some b → Covers cells b.uses
covered_step cells None b f e = cc
covered_step cells (Some w) b f e = let q : w.block ≡ b = cc in subst (λ (x : Block). Covers cells x.uses) q (f w refl)

pub are_covered : (s : Slow) (js : List Job) → ((t : ℕ) (w : Waiter) → find_waiter t s.waiters ≡ Some w → Covers (plains s.store) w.block.uses) → AreJobs s js → AreJobsCovered (plains s.store) js
are_covered s [] c a = tt
are_covered s (j ∷ js) c a = (covered_step (plains s.store) (find_waiter j.ticket s.waiters) j.block (c j.ticket) a.0, are_covered s js c a.1)

-- ---- one block, on the present store
some_kept : (o : Option Waiting) (p : Option Waiter) → IsFound o p → IsSome p → o ≡ None → ⊥
some_kept None None f s e = cc
some_kept None (Some w) f s e = f
some_kept (Some x) p f s e = cc

pub kept_waits : (m : Parts) (s : Slow) → IsAt m s → (t : ℕ) → IsSome (find_waiter t s.waiters) → kept_at t m.entries ≢ None
kept_waits m s k t w = some_kept (kept_at t m.entries) (find_waiter t s.waiters) (found t m.entries s.waiters k.stands.entries_are) w

pub job_covered : (m : Parts) (s : Slow) → IsAt m s → (j : Job) → IsKeptJob m.entries j → Covers (plains s.store) j.block.uses
job_covered m s k j a =
    (are_covered s (j ∷ []) (covered_at m s k) (are_jobs s m.entries (j ∷ []) k.stands.entries_are (a, tt))).0

waits_at : (s : Slow) (t : ℕ) (b : Block) (o : Option Waiter) → find_waiter t s.waiters ≡ o → option_map (λ w. w.block) o ≡ Some b → (one : Waiter) × (find_waiter t s.waiters ≡ Some one) × (one.block ≡ b)
waits_at s t b None e h = cc
waits_at s t b (Some w) e h = let q : w.block ≡ b = cc in (w, e, q)

pub is_present : (m : Parts) (s : Slow) → IsAt m s → (t : ℕ) (j : Job) (message : Evaluated) (cells : List (Ty × Value))
    → cells ≡ plains m.store → j.ticket ≡ t → IsKeptJob m.entries j → message_ticket message ≡ j.ticket → message_block message ≡ j.block
    → verdict (cell_value cells) j.block.tree ≡ Some (message_verdict message) → message_reads message ≡ reads_of (cell_value cells) j.block.tree → IsPresent s t message
is_present m s k t j message cells c i a mt mb mv mr =
    let there : block_at s t ≡ Some j.block = subst (λ (u : ℕ). block_at s u ≡ Some j.block) i (are_jobs s m.entries (j ∷ []) k.stands.entries_are (a, tt)).0 in
    let one = waits_at s t j.block (find_waiter t s.waiters) refl there in
    let same : cells ≡ plains s.store = c ∙ ap plains k.stands.store_is in
    let reads : message_reads message ≡ reads_of (under s.store) one.0.block.tree = rw (← same, one.2) mr in
    record {
      one = one.0;
      found = one.1;
      ticket = mt ∙ i;
      block = mb ∙ sym one.2;
      verdict = rw (← same, one.2) mv;
      reads = reads;
      differs = ap (differing (under s.store)) reads ∙ reads_differ_nowhere (under s.store) one.0.block.tree;
    }
