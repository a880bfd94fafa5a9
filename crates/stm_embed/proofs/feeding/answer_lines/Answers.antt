use Rattle.std.proofs.Common.{drop, List, ℕ, Some, None, subst, ap, ◌∙◌}
use Rattle.memchr.specs.Find.{IsFirstByte, is_byte}
use Rattle.stm_lines.proofs.LineFeeds.{NoLineFeed-all}
use Rattle.stm_lines.specs.Lines.{drop_return}
use Rattle.stm_embed.proofs.Tails.{tail_is, part_is}
use Rattle.stm_embed.proofs.WholeLines.{HasFed-line}
use Rattle.stm_embed.proofs.feeding.answer_lines.Goals as goal

pub loop-end-preserved : goal.loop-end-preserved
loop-end-preserved c =
    let lines = c.args.lines.now in
    let at = c.loop-end.count in
    HasFed-line lines c.args.session.now.console c.loop-end.session.console c.answer_line.new.session.console c.args.answers.now.items c.loop-end.answers.items c.answer_line.new.answers.items at c.in-Some.end
    c.without_return-line.result.now c.loop-end.invariant (subst (λ (l : List ℕ). IsFirstByte (is_byte 10) l (Some c.in-Some.end)) (tail_is lines at) c.in-Some.ensures)
    (c.without_return-line.ensures ∙ ap drop_return (part_is lines at c.in-Some.end)) c.in-Ok.ensures.state c.in-Ok.ensures.done

pub returns-clause-whole : goal.returns-clause-whole
returns-clause-whole c = c.loop-end.invariant.whole

pub returns-clause-rest : goal.returns-clause-rest
returns-clause-rest c =
    let lines = c.args.lines.now in
    let at = c.loop-end.count in
    λ _. NoLineFeed-all (drop at lines) (subst (λ (l : List ℕ). IsFirstByte (is_byte 10) l None) (tail_is lines at) c.in_default.ensures)
