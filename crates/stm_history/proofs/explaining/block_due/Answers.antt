use Rattle.std.proofs.Common.{List, ℕ, arith, subst}
use Rattle.std.proofs.lemmas.Grind.{common_steps}
use Rattle.stm_history.specs.Expecting.{IsShortOr}
use Rattle.stm_history.proofs.Explanations.{block_head}
use Rattle.stm_history.proofs.explaining.block_due.Goals as goal

pub returns-in-Ok : goal.returns-in-Ok
returns-in-Ok c = λ waiting.
    let b = c.args.block in
    block_head c.args.format waiting c.args.checkpoint.now b.ticket b.block b.cause b.label b.delivery c.short_line.result c.requires c.in-Ok.ensures.done.0 (let no = c.if-not-may_have_format.false in c.may_have_format.ensures.0 (grind (arith, common_steps))) (subst (λ (y : List ℕ). IsShortOr y c.short_line.result) c.in_ok-text.ensures c.short_line.ensures)
