use Rattle.std.proofs.Common.{OnOk, Result, sym, subst, string_bytes}
use Rattle.stm_check.specs.TypedBlock.{Block}
use Rattle.stm_source.specs.declared.refusal.Refusal.{Refusal}
use Rattle.stm_desk.specs.Refusals.{submit_refusal}
use Rattle.stm_commands.specs.Blocks.{submit_block_step, submit_text_step, submit_step}
use Rattle.stm_commands.specs.OpenDesk.{OpenDesk, on_desk, Steps}
use Rattle.stm_commands.proofs.open_desk.OpenDesk.answer_submit.Goals as goal

pub returns-in-Ok : goal.returns-in-Ok
unfolding submit_step
returns-in-Ok c =
    let d = c.args.self.now in
    let old = string_bytes c.args.out.now in
    let new = string_bytes c.submit.new.out in
    subst (λ (r : Result Block Refusal). OnOk c.submit.result (Steps c.submit.new.self old new (on_desk d (submit_text_step d.desk r)))) (sym c.in-Ok.ensures.block)
    (subst (λ (e : OpenDesk). OnOk c.submit.result (Steps c.submit.new.self old new (on_desk e (submit_block_step e.desk c.in-Ok.block (submit_refusal e.desk c.in-Ok.block))))) c.block.ensures.same c.submit.ensures)
