use Rattle.std.proofs.Common.{◌∙◌, ◌-◌, ◌+◌, ap, Option, ℕ}
use Rattle.stm_queue.specs.Queue.{sent_out}
use Rattle.stm_machine.specs.JobsHandedOut.{sent}
use Rattle.stm_machine.proofs.JobsHandedOut.{sent_more}
use Rattle.stm_machine.proofs.queue.send_out.Goals as goal

pub loop-preserved : goal.loop-preserved
loop-preserved c =
    rw c.take_first.ensures.out
    (ap (λ (o : Option ℕ). sent (c.args.n - (c.loop.counter + 1)) (sent_out o c.loop.pending.entries)) c.take_first.ensures.first
    ∙ sent_more c.args.n c.loop.counter c.loop.pending.entries c.loop-test.true ∙ c.loop.invariant)
