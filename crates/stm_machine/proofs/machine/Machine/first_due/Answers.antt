use Rattle.std.proofs.Common.{◌∙◌, sym}
use Rattle.stm_queue.proofs.QueuedOnes.{first_of_queued}
use Rattle.stm_machine.proofs.States.{rising_at}
use Rattle.stm_machine.proofs.LowestDueIsFirst.{head_due, head_queued}
use Rattle.stm_machine.proofs.machine.Machine.first_due.Goals as goal

pub returns : goal.returns
returns c = λ s h.
    let m = c.args.self.now in
    c.next_queued.ensures.first ∙ sym (first_of_queued m.pending) ∙ head_queued m.pending c.requires
    ∙ head_due m.pending _ _ 0 c.next_queued.ensures.rising (rising_at m s h) h.stands.queue
