use Rattle.stm_commands.proofs.Deliveries.{reason_if_ok, done_if_ok}
use Rattle.stm_commands.proofs.delivery.deliver_job.Goals as goal

pub returns-in-Ok-clause-refused : goal.returns-in-Ok-clause-refused
returns-in-Ok-clause-refused c =
    reason_if_ok c.args.desk.now c.args.store.now c.args.job c.in-Ok.message c.deliver_message.result c.requires.stands
    c.in-Ok.ensures.ticket c.in-Ok.ensures.block c.in-Ok.ensures.reads_are c.deliver_message.ensures.refused

pub returns-in-Ok-clause-done : goal.returns-in-Ok-clause-done
returns-in-Ok-clause-done c =
    done_if_ok c.args.desk.now _ c.args.store.now c.args.job c.in-Ok.message c.deliver_message.result c.in-Ok.ensures.ticket c.in-Ok.ensures.verdict_is
    (reason_if_ok c.args.desk.now c.args.store.now c.args.job c.in-Ok.message c.deliver_message.result c.requires.stands
    c.in-Ok.ensures.ticket c.in-Ok.ensures.block c.in-Ok.ensures.reads_are c.deliver_message.ensures.refused)
    c.deliver_message.ensures.done

pub deliver_message-requires : goal.deliver_message-requires
deliver_message-requires c = record { own = rw (c.in-Ok.ensures.ticket, c.in-Ok.ensures.block) c.requires.stands.ticket }
