use Rattle.stm_run_laws.proofs.QueueOfConsole.{queue_is_of_due}
use Rattle.stm_commands.proofs.OutTickets.{out_tickets_are_a_set}
use Rattle.stm_run_laws.proofs.laws.queue_is_a_set_of_tickets.Goals as goal

pub returns-clause-queue : goal.returns-clause-queue
returns-clause-queue c =
    queue_is_of_due c.answers_are_right.ensures.blocks c.answers_are_right.ensures.declarations c.check_never_says_no_memory.ensures
    c.verdict_is_stable.ensures c.checked_are_well_typed.ensures

pub returns-clause-out : goal.returns-clause-out
returns-clause-out c = out_tickets_are_a_set
