use Rattle.stm_desk.proofs.Evaluating.{kept_rest, kept_store}
use Rattle.stm_desk.proofs.desk.Desk.evaluate_next.Goals as goal

pub returns-in-Ok-clause-rest : goal.returns-in-Ok-clause-rest
returns-in-Ok-clause-rest c =
    kept_rest c.args.self.now c.keep_verdict.new.self c.args.client c.args.ticket c.in-Ok.verdict c.keep_verdict.result c.keep_verdict.ensures.accepted c.requires.rising c.requires.first

pub returns-in-Ok-clause-store : goal.returns-in-Ok-clause-store
returns-in-Ok-clause-store c =
    kept_store c.args.self.now c.keep_verdict.new.self c.args.client c.args.ticket c.in-Ok.verdict c.keep_verdict.result c.keep_verdict.ensures.accepted c.keep_verdict.ensures.unchanged
