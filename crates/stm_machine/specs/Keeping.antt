-- What a machine may keep of an evaluation that it made itself.
use Rattle.std.specs.Prelude.{◌≡◌, ℕ, true, List, Some}
use Rattle.stm_terms.specs.declared.values.Value.{Value}
use Rattle.stm_terms.specs.declared.verdicts.Verdict.{Verdict}
use Rattle.stm_terms.specs.ReadSet.{reads_of}
use Rattle.stm_events.specs.SlowDesk.{Waiter, Slow, under, verdict_on, find_waiter}
use Rattle.stm_machine.specs.QueueAndIndex.{due_of}

-- on the present store the block that waits under the ticket has this verdict and reads this
pub record IsVerdictUnder (s : Slow) (t : ℕ) (v : Verdict) (reads : List (ℕ × Value)) : Type 0 where
  pub one : Waiter
  pub found : find_waiter t s.waiters ≡ Some one
  pub verdict : verdict_on s.store one.block ≡ Some v
  pub reads_are : reads ≡ reads_of (under s.store) one.block.tree

-- the verdict may be kept: it is that of the block under the ticket, which is new or stale
abbrev pub MayKeep : Slow → ℕ → Verdict → List (ℕ × Value) → Type 0
MayKeep s t v reads = (due_of (find_waiter t s.waiters) ≡ true) × IsVerdictUnder s t v reads
