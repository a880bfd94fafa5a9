use Rattle.std.proofs.Common.{◌≡◌, ◌-◌}
use Rattle.stm_machine.specs.JobsHandedOut.{sent}
use Rattle.stm_machine.proofs.queue.send_out.Given as goal

abbrev pub invariant-loop : goal.invariant-loop
invariant-loop l = sent (l.n - l.counter) l.pending.entries ≡ sent l.n l.fn.pending.entries
