use Rattle.std.proofs.Common.{◌≡◌, map, take}
use Rattle.stm_queue.specs.Queue.{queued}
use Rattle.stm_machine.specs.JobsHandedOut.{AreKept}
use Rattle.stm_machine.proofs.queue.jobs_of.Given as goal

abbrev pub invariant-loop-i : goal.invariant-loop-i
invariant-loop-i l = record {
  tickets : map (λ j. j.ticket) l.jobs.items ≡ take l.i (queued l.pending.entries);
  blocks : AreKept l.waiting l.jobs.items;
}
