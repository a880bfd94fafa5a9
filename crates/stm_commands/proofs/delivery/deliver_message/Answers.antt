use Rattle.stm_commands.proofs.Deliveries.{delivered_grown, delivered_store, reported_reason}
use Rattle.stm_commands.proofs.delivery.deliver_message.Goals.{in-Ok, in-Err}
use Rattle.stm_commands.proofs.delivery.deliver_message.Goals as goal

pub returns-clause-refused : goal.returns-clause-refused
returns-clause-refused c =
    elim c.match-answer.branch [
      | in-Ok w ↦ rw w.result-is (w.in-Ok.ensures.refused, λ e. cc)
      | in-Err w ↦ rw w.result-is (reported_reason c.args.desk.now c.args.message w.in-Err.refusal w.reported.result w.in-Err.ensures.refused w.reported.ensures)
    ]

pub returns-clause-grown : goal.returns-clause-grown
returns-clause-grown c = delivered_grown _ _ _ _ c.deliver_own-answer.result c.deliver_own-answer.ensures.accepted c.deliver_own-answer.ensures.left c.history-events.ensures.start c.history-events.ensures.legal

pub returns-clause-store : goal.returns-clause-store
returns-clause-store c = delivered_store _ _ _ _ c.deliver_own-answer.result c.deliver_own-answer.ensures.accepted c.deliver_own-answer.ensures.left
