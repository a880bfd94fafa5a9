use Rattle.std.proofs.Common.{◌∙◌, ap}
use Rattle.stm_terms.specs.declared.verdicts.Verdict.{Verdict}
use Rattle.stm_desk.specs.Reasons.{changes_from}
use Rattle.stm_desk.specs.ReasonsByEvents.{left_by_verdict}
use Rattle.stm_desk.proofs.ReadValues.{no_commit}
use Rattle.stm_desk.proofs.why.changes_by.Goals as goal

pub returns : goal.returns
returns c =
    c.new.ensures.items ∙ no_commit c.args.reads.now c.args.first_new c.get.result.now c.in_default.not-Commits
    ∙ ap (λ (v : Verdict). changes_from c.args.reads.now (left_by_verdict c.args.first_new v)) c.get.ensures
