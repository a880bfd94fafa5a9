-- What is handed out to evaluators, and what comes back.
use Rattle.std.specs.Prelude.{◌≡◌, ℕ, ◌≤◌, zero, suc, List, [], ◌∷◌, map, take, length, vec_len, Option, Some, None, option_map, Result, Ok, Err}
use Rattle.std.specs.Global.{Vec}
use Rattle.stm_terms.specs.declared.kinds.Ty.{Ty}
use Rattle.stm_terms.specs.declared.values.Value.{Value}
use Rattle.stm_terms.specs.ReadSet.{reads_of}
use Rattle.stm_store.specs.Cells.{plains}
use Rattle.stm_check.specs.TypedBlock.{Block}
use Rattle.stm_eval.specs.CoveredJobs.{AreJobsCovered}
use Rattle.stm_eval.specs.declared.job.Job.{Job}
use Rattle.stm_eval.specs.declared.message.Evaluated.{Evaluated}
use Rattle.stm_eval.specs.EvaluatedFields.{message_ticket, message_block, message_reads, message_verdict}
use Rattle.stm_queue.specs.Queue.{Entry, first_queued, queued, sent_out}
use Rattle.stm_events.specs.SlowDesk.{Waiter, Slow, under, verdict_on, find_waiter}
use Rattle.stm_waiting.specs.declared.waiting.Waiting.{Waiting}
use Rattle.stm_waiting.specs.Entries.{kept_at}
use Rattle.stm_events.specs.Refusals.{differing}
use Rattle.stm_machine.specs.Machine.{Parts, IsAt}

-- the n lowest queued tickets are out
abbrev pub sent : ℕ → List Entry → List Entry
sent zero es = es
sent (suc n) es = sent n (sent_out (first_queued es) es)

-- the block that waits under a ticket
abbrev pub block_at : Slow → ℕ → Option Block
block_at s t = option_map (λ w. w.block) (find_waiter t s.waiters)

-- each job is of the block that waits under its ticket
abbrev pub AreJobs : Slow → List Job → Type 0
AreJobs s [] = Unit {0}
AreJobs s (j ∷ js) = (block_at s j.ticket ≡ Some j.block) × AreJobs s js

-- the job is of the block that is kept under its ticket
abbrev pub IsKeptJob : List (ℕ × Waiting) → Job → Type 0
IsKeptJob es j = option_map (λ w. w.block) (kept_at j.ticket es) ≡ Some j.block

-- and so is each of these jobs
abbrev pub AreKept : List (ℕ × Waiting) → List Job → Type 0
AreKept es [] = Unit {0}
AreKept es (j ∷ js) = IsKeptJob es j × AreKept es js

-- the message is what the block that waits under the ticket does on the present store, so nothing of it was overtaken
pub record IsPresent (s : Slow) (t : ℕ) (m : Evaluated) : Type 0 where
  pub one : Waiter
  pub found : find_waiter t s.waiters ≡ Some one
  pub ticket : message_ticket m ≡ t
  pub block : message_block m ≡ one.block
  pub verdict : verdict_on s.store one.block ≡ Some (message_verdict m)
  pub reads : message_reads m ≡ reads_of (under s.store) one.block.tree
  pub differs : differing (under s.store) (message_reads m) ≡ None

-- the jobs of the n lowest queued tickets, or of all of them, with a copy of the store, handed out by a machine
pub record AreHandedOut (n : ℕ) (old : Parts) (store : List (Ty × Value)) (jobs : Vec Job) : Type 0 where
  -- they are of the lowest queued tickets
  pub tickets : map (λ j. j.ticket) jobs.items ≡ take n (queued old.pending)
  -- each is of the block that waits under its ticket, on each state that the machine is at
  pub blocks : (s : Slow) → IsAt old s → AreJobs s jobs.items
  -- the copy is of the present store
  pub present : store ≡ plains old.store
  -- the copy has their variables
  pub covered : AreJobsCovered store jobs.items
  -- at most n
  pub few : vec_len jobs ≤ n

-- After Ok: the jobs with the copy, and their tickets are out. After any error the machine is as it was.
abbrev pub TakesJobs : {E : Type 0} → ℕ → Parts → Result (List (Ty × Value) × Vec Job) E → Parts → Type 0
TakesJobs n old (Ok r) new = AreHandedOut n old r.0 r.1 × (new ≡ record old { pending = sent (length r.1.items) old.pending })
TakesJobs n old (Err e) new = new ≡ old
