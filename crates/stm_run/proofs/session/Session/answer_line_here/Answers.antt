use Rattle.std.proofs.Common.{string_bytes, ◌∙◌}
use Rattle.stm_run.specs.Console.{answer_to}
use Rattle.stm_run.proofs.Replying.{is_step, is_step_after}
use Rattle.stm_run.proofs.WrittenRuns.{answer_written, unanswered}
use Rattle.stm_run.proofs.session.Session.answer_line_here.Goals as goal

pub finish_line-requires : goal.finish_line-requires
finish_line-requires g c =
    is_step_after c.args.self.now.console c.args.line.now c.answer_here.new.self (string_bytes c.reserve.new.self) (string_bytes c.answer_here.new.out) c.in-Ok.reply
    (c.reserve.ensures.bytes ∙ c.clear.ensures.bytes) c.in-Ok.ensures

pub returns-in-Ok : goal.returns-in-Ok
returns-in-Ok g c =
    let did = c.finish_line.ensures in
    let took = is_step c.args.self.now.console c.args.line.now c.answer_here.new.self (string_bytes c.reserve.new.self) (string_bytes c.answer_here.new.out) c.in-Ok.reply c.in-Ok.ensures in
    answer_written c.args.self.now.console c.finish_line.new.self.console c.answer_here.new.self c.args.line.now (string_bytes c.reserve.new.self) (string_bytes c.answer_here.new.out) c.in-Ok.reply
    (g.W.Write.contents c.args.writer.now) (g.W.Write.contents c.finish_line.new.writer) c.finish_line.result
    (c.reserve.ensures.bytes ∙ c.clear.ensures.bytes) took did.done did.state did.part did.fault

pub returns-then-is_err : goal.returns-then-is_err
returns-then-is_err g c = unanswered (answer_to c.args.self.now.console c.args.line.now) (g.W.Write.contents c.args.writer.now)

pub returns-in-Err : goal.returns-in-Err
returns-in-Err g c = unanswered (answer_to c.args.self.now.console c.args.line.now) (g.W.Write.contents c.args.writer.now)
