use Rattle.std.proofs.Common.{rules}
use Rattle.stm_commands.proofs.EvaluatedJobs.{next_taken, next_refused}
use Rattle.stm_commands.proofs.Growing.{grown_queued}
use Rattle.stm_commands.proofs.evaluation.deliver_next.Goals as goal

pub returns-then-is_some-clause-grown : goal.returns-then-is_some-clause-grown
returns-then-is_some-clause-grown c = grown_queued _ _ _ c.hand_back.ensures.queued c.requires.start c.requires.legal

pub returns-then-is_some-2-clause-done : goal.returns-then-is_some-2-clause-done
returns-then-is_some-2-clause-done c = λ cells job of_job stands.
    next_refused c.args.desk.now c.deliver_message.new.desk c.hand_back-then-is_some-2.new.self cells job c.args.message c.args.so_far.count c.ticket-ticket.result
    c.args.so_far.stop c.in_ok-refusal.refusal (search rules) (search rules) stands of_job c.in_ok-refusal.ensures.refused c.in_ok-refusal.ensures.done (search rules)
    c.hand_back-then-is_some-2.ensures.queued

pub returns-clause-done : goal.returns-clause-done
returns-clause-done c = λ cells job of_job stands.
    next_taken c.args.desk.now c.deliver_message.new.desk cells job c.args.message c.args.so_far.count
    c.args.so_far.stop c.in_ok-refusal.refusal (search rules) (search rules) stands of_job c.in_ok-refusal.ensures.refused c.in_ok-refusal.ensures.done
