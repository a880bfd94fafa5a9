use Rattle.std.proofs.Common.{sym, ◌∙◌}
use Rattle.stm_history_text.proofs.TextInParts.{drop-all}
use Rattle.stm_history.proofs.WhereLinesStop.{why_at}
use Rattle.stm_history.proofs.why.reason_of.Goals as goal

pub returns-clause-why : goal.returns-clause-why
returns-clause-why c =
    let cut = c.first_line-line.ensures.cut in
    why_at c.args.bytes.now c.first_line-line.result.now cut.0 c.args.fault c.args.whole c.in_ok-number.number c.in_ok-number.explanation c.requires.stops c.requires.read c.requires.memory
    (sym (drop-all c.args.whole c.args.bytes.now) ∙ cut.2) c.first_line-line.ensures.one_line cut.1 c.in_ok-number.ensures
