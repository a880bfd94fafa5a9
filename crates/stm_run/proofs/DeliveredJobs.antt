-- What `take`, `deliver`, `handback` and `eval` do keeps the desk standing: what a job's block does on the job's store it
-- does on the present one where nothing that it read differs, and it is the block that waits.
use Rattle.std.proofs.Common.{◌≡◌, ℕ, zero, suc, ◌+◌, Bool, true, false, cond, List, [], ◌∷◌, ◌++◌, Option, Some, None, refl, ap, sym, subst, ◌∙◌}
use Rattle.std.specs.Prelude.{IsSomeAnd, codes, option_map, nat_lt, length}
use Rattle.stm_terms.specs.declared.values.Value.{Value}
use Rattle.stm_terms.specs.declared.verdicts.Verdict.{Verdict}
use Rattle.stm_terms.specs.Changes.{cell_value}
use Rattle.stm_terms.specs.ReadSet.{reads_of}
use Rattle.stm_terms.specs.Verdict.{verdict}
use Rattle.stm_check.specs.TypedBlock.{Block}
use Rattle.stm_eval.specs.Laws.{VerdictIsStable}
use Rattle.stm_store.specs.declared.cell.Cell.{Cell}
use Rattle.stm_events.specs.declared.event.What.TheVariants.{Installed}
use Rattle.stm_events.specs.declared.errors.DeliverError.{DeliverError}
use Rattle.stm_events.specs.declared.errors.DeliverError.TheVariants as deliver
use Rattle.stm_queue.specs.Queue.{marked}
use Rattle.stm_machine.specs.JobsHandedOut.{block_at, sent}
use Rattle.stm_events.specs.Refusals.{differing, overtaken_first, pending_left}
use Rattle.stm_events.specs.SlowDesk.{Waiter, Slow, under, is_current, find_waiter, MayInstall}
use Rattle.stm_events.specs.States.{IsPossible, IsTicketOf}
use Rattle.stm_events.proofs.KeptByLegalHistories.{ticket_waiting}
use Rattle.stm_desk.specs.Refusals.{requeued_if_overtaken}
use Rattle.stm_desk.specs.DeskView.{DeskView, state_of, is_full}
use Rattle.stm_commands.specs.Evaluation.{DeliveredSoFar, delivered_by, delivered_next, delivered_all, all_queued, evaluated}
use Rattle.stm_commands.specs.Jobs.{max_jobs, job_of, jobs_of, taken, with_jobs, delivery_first, delivery_refusal, installed, job_at, jobs_line, take_jobs_step, delivery_step, deliver_job_step}
use Rattle.stm_commands.specs.OpenDesk.{HandedOut, OpenDesk}
use Rattle.stm_commands.specs.Refusals.{refused}
use Rattle.stm_run.proofs.ArgumentCases.{either_has}
use Rattle.stm_run.proofs.AgreeingReads.{agrees_there}
use Rattle.stm_commands.proofs.KeptQueue.{tickets_left, tickets_marked, tickets_sent}
use Rattle.stm_run.proofs.StandingDesk.{AllTaken, Stands, stands_sound, stands_event, stands_marked, stands_with, taken_append, taken_at}

-- ---- refusals
record MayCome (current : Bool) (o : Option ℕ) (full : Bool) : Type 0 where
  pub due : current ≡ false
  pub same : o ≡ None
  pub room : full ≡ false

may_come : (current : Bool) (o : Option ℕ) (full : Bool) → cond current (Some deliver.Already) (overtaken_first o full) ≡ None → MayCome current o full
may_come true o full e = absurd cc
may_come false (Some i) full e = absurd cc
may_come false None true e = absurd cc
may_come false None false e = record { due = refl; same = refl; room = refl }

told_first : (current : Bool) (o : Option ℕ) (full : Bool) → cond current (Some deliver.Already) (overtaken_first o full) ≡ Some deliver.NoMemory → ⊥
told_first true o full e = cc
told_first false (Some i) full e = cc
told_first false None true e = cc
told_first false None false e = cc

-- what a delivery is refused for is printed
deliver_told : (store : List Cell) (o : Option Waiter) (reads : List (ℕ × Value)) (d : DeskView) → delivery_first store o reads d ≡ Some deliver.NoMemory → ⊥
deliver_told store None reads d e = cc
deliver_told store (Some w) reads d e = told_first (is_current w) (differing (under store) reads) (is_full d) e

pub refusal_told : (d : DeskView) (j : HandedOut) → delivery_refusal d j ≡ Some deliver.NoMemory → ⊥
refusal_told d j e = deliver_told (state_of d).store (find_waiter j.ticket (state_of d).waiters) (reads_of (cell_value j.store) j.block.tree) d e

-- ---- jobs
job_taken : (s : Slow) (t : ℕ) (o : Option Waiter) → IsPossible s → find_waiter t s.waiters ≡ o → AllTaken s (job_of s t (option_map (λ w. w.block) o))
job_taken s t None p e = tt
job_taken s t (Some w) p e = (ticket_waiting s t w p e, tt)

jobs_taken : (s : Slow) (ts : List ℕ) → IsPossible s → AllTaken s (jobs_of s ts)
jobs_taken s [] p = tt
jobs_taken s (t ∷ ts) p = taken_append s (job_of s t (block_at s t)) (jobs_of s ts) (job_taken s t (find_waiter t s.waiters) p refl) (jobs_taken s ts p)

pub take_stands : (d : OpenDesk) (n : ℕ) → Stands d.desk d.jobs → Stands (take_jobs_step d n).0.desk (take_jobs_step d n).0.jobs
take_stands d n k =
    let tickets = taken d.desk n in
    let js = jobs_of (state_of d.desk) tickets in
    let pending = sent (length tickets) d.desk.pending in
    either_has (λ (p : OpenDesk × List ℕ). Stands p.0.desk p.0.jobs) (nat_lt max_jobs (n + length d.jobs)) (d, refused (codes "JobsFull")) (with_jobs d tickets, jobs_line (length d.jobs + 1) tickets) k
    (stands_with (record d.desk { pending = pending }) d.jobs (d.jobs ++ js) (taken_append (state_of d.desk) d.jobs js k.taken (jobs_taken (state_of d.desk) tickets (stands_sound d.desk d.jobs k).possible))
    (stands_marked d.desk pending d.jobs (tickets_sent (length tickets) d.desk.pending) k))

-- all that is queued is taken, to be evaluated at once
pub queued_stand : (d : DeskView) (jobs : List HandedOut) → Stands d jobs
    → Stands (record d { pending = sent (length (all_queued d)) d.pending }) (jobs_of (state_of d) (all_queued d) ++ jobs)
queued_stand d jobs k =
    let js = jobs_of (state_of d) (all_queued d) in
    let pending = sent (length (all_queued d)) d.pending in
    stands_with (record d { pending = pending }) jobs (js ++ jobs) (taken_append (state_of d) js jobs (jobs_taken (state_of d) (all_queued d) (stands_sound d jobs k).possible) k.taken)
    (stands_marked d pending jobs (tickets_sent (length (all_queued d)) d.pending) k)

module _ (stable : VerdictIsStable) where
  -- ---- a delivery
  installs_by : (d : DeskView) (jobs : List HandedOut) (j : HandedOut) (w : Waiter) (v : Option Verdict) → IsTicketOf j.block (state_of d) j.ticket → find_waiter j.ticket (state_of d).waiters ≡ Some w
      → verdict (cell_value j.store) j.block.tree ≡ v
      → MayCome (is_current w) (differing (under (state_of d).store) (reads_of (cell_value j.store) j.block.tree)) (is_full d) → Stands d jobs → Stands (installed d j.ticket v) jobs
  installs_by d jobs j w None t f e m k = k
  installs_by d jobs j w (Some v) t f e m k =
      let s = state_of d in
      let reads = reads_of (cell_value j.store) j.block.tree in
      let there : verdict (under s.store) j.block.tree ≡ Some v =
      (stable j.block.tree reads v (cell_value j.store) (under s.store) (record { verdict_is = e; reads_are = refl }) (agrees_there (under s.store) reads m.same)).verdict_is in
      let may : MayInstall s w v = record {
        not_current = m.due;
        verdict_is = ap (λ (b : Block). verdict (under s.store) b.tree) (t.waits w f) ∙ there;
      } in
      stands_event d jobs (Installed j.ticket v) m.room (subst (λ (o : Option Waiter). IsSomeAnd o (λ x. MayInstall s x v)) (sym f) may) tt k

  installs_of : (d : DeskView) (jobs : List HandedOut) (j : HandedOut) (o : Option Waiter) → IsTicketOf j.block (state_of d) j.ticket → find_waiter j.ticket (state_of d).waiters ≡ o
      → delivery_first (state_of d).store o (reads_of (cell_value j.store) j.block.tree) d ≡ None → Stands d jobs → Stands (installed d j.ticket (verdict (cell_value j.store) j.block.tree)) jobs
  installs_of d jobs j None t f e k = absurd cc
  installs_of d jobs j (Some w) t f e k =
      let differs = differing (under (state_of d).store) (reads_of (cell_value j.store) j.block.tree) in
      installs_by d jobs j w (verdict (cell_value j.store) j.block.tree) t f refl (may_come (is_current w) differs (is_full d) e) k

  after_stands : (d : DeskView) (jobs : List HandedOut) (j : HandedOut) (o : Option DeliverError) → IsTicketOf j.block (state_of d) j.ticket → delivery_refusal d j ≡ o → Stands d jobs → Stands (delivery_step d j o).0 jobs
  after_stands d jobs j (Some x) t e k = stands_marked d (pending_left x j.ticket d.pending) jobs (tickets_left x j.ticket d.pending) k
  after_stands d jobs j None t e k = installs_of d jobs j (find_waiter j.ticket (state_of d).waiters) t refl e k

  pub delivered_stands : (d : DeskView) (jobs : List HandedOut) (n : ℕ) → Stands d jobs → Stands (deliver_job_step d (job_at n jobs)).0 jobs
  delivered_stands d jobs n k = of n (job_at n jobs) refl
    where
      of : (n : ℕ) (o : Option HandedOut) → job_at n jobs ≡ o → Stands (deliver_job_step d o).0 jobs
      of n None e = k
      of zero (Some j) e = absurd cc
      of (suc n) (Some j) e = after_stands d jobs j (delivery_refusal d j) (taken_at (state_of d) jobs n j k.taken e) refl k

  -- ---- eval
  by_stands : (d : DeliveredSoFar) (j : HandedOut) (rest : List HandedOut) (o : Option DeliverError) → delivery_refusal d.desk j ≡ o → IsTicketOf j.block (state_of d.desk) j.ticket → Stands d.desk rest
      → Stands (delivered_by d j o).desk rest
  by_stands d j rest None e t k = after_stands d.desk rest j None t e k
  by_stands d j rest (Some x) e t k =
      let left = requeued_if_overtaken x j.ticket d.desk in
      stands_marked left (marked j.ticket false left.pending) rest (tickets_marked j.ticket false left.pending) (after_stands d.desk rest j (Some x) t e k)

  pub next_stands : (d : DeliveredSoFar) (j : HandedOut) (rest : List HandedOut) (o : Option DeliverError) → Stands d.desk (j ∷ rest) → Stands (delivered_next d j o).desk rest
  next_stands d j rest None k = by_stands d j rest (delivery_refusal d.desk j) refl k.taken.0 (stands_with d.desk (j ∷ rest) rest k.taken.1 k)
  next_stands d j rest (Some x) k =
      stands_marked d.desk (marked j.ticket false d.desk.pending) rest (tickets_marked j.ticket false d.desk.pending) (stands_with d.desk (j ∷ rest) rest k.taken.1 k)

  all_stand : (js kept : List HandedOut) (d : DeliveredSoFar) → Stands d.desk (js ++ kept) → Stands (delivered_all d js).desk kept
  all_stand [] kept d k = k
  all_stand (j ∷ js) kept d k = all_stand js kept (delivered_next d j d.stop) (next_stands d j (js ++ kept) d.stop k)

  pub evaluated_stands : (d : DeskView) (jobs : List HandedOut) → Stands d jobs → Stands (evaluated d).desk jobs
  evaluated_stands d jobs k = all_stand (jobs_of (state_of d) (all_queued d)) jobs _ (queued_stand d jobs k)

-- ---- what stops an eval is printed
abbrev IsTold : Option DeliverError → Type 0
IsTold o = o ≡ Some deliver.NoMemory → ⊥

by_told : (d : DeliveredSoFar) (j : HandedOut) (o : Option DeliverError) → IsTold o → IsTold (delivered_by d j o).stop
by_told d j None h = h
by_told d j (Some e) h = h

next_told : (d : DeliveredSoFar) (j : HandedOut) → (o : Option DeliverError) → d.stop ≡ o → IsTold o → IsTold (delivered_next d j o).stop
next_told d j None s h = by_told d j (delivery_refusal d.desk j) (refusal_told d.desk j)
next_told d j (Some e) s h = subst IsTold (sym s) h

all_told : (js : List HandedOut) (d : DeliveredSoFar) → IsTold d.stop → IsTold (delivered_all d js).stop
all_told [] d h = h
all_told (j ∷ js) d h = all_told js (delivered_next d j d.stop) (next_told d j d.stop refl h)

pub evaluated_told : (d : DeskView) → (evaluated d).stop ≡ Some deliver.NoMemory → ⊥
evaluated_told d = all_told (jobs_of (state_of d) (all_queued d)) _ (λ e. cc)
