use Rattle.std.proofs.Common.{codes}
use Rattle.stm_lines.proofs.AsciiArguments.{argument_text}
use Rattle.stm_lines.specs.LineClass.{NotAscii, TooLong}
use Rattle.stm_commands.specs.Refusals.{refused}
use Rattle.stm_run.proofs.Replying.{commanded, judged_checkpoints, judged_step, printed, silent}
use Rattle.stm_run.proofs.console.Console.answer_here.Goals as goal

pub unreachable-requires : goal.unreachable-requires
unreachable-requires c = c.in-Err.ensures.cases.0 (argument_text c.args.line.now c.in-Words.word.now c.in-Words.argument.now c.in-Words.ensures)

pub returns-in-TooLong : goal.returns-in-TooLong
returns-in-TooLong c =
    let s = c.args.self.now in
    let line = c.args.line.now in
    printed s line (refused (codes "LineTooLong")) _ _ c.refuse.result c.and.result c.and.ensures c.refuse.ensures
    (judged_step s line TooLong c.in-TooLong.ensures) (judged_checkpoints s line TooLong c.in-TooLong.ensures)

pub returns-in-Silent : goal.returns-in-Silent
returns-in-Silent c = silent c.args.self.now c.args.line.now _ c.in-Silent.ensures

pub returns-in-NotAscii : goal.returns-in-NotAscii
returns-in-NotAscii c =
    let s = c.args.self.now in
    let line = c.args.line.now in
    printed s line (refused (codes "NotAscii")) _ _ c.refuse-in-NotAscii.result c.and-in-NotAscii.result c.and-in-NotAscii.ensures c.refuse-in-NotAscii.ensures
    (judged_step s line NotAscii c.in-NotAscii.ensures) (judged_checkpoints s line NotAscii c.in-NotAscii.ensures)

pub returns-in-Ok : goal.returns-in-Ok
returns-in-Ok c =
    let did = c.answer_command_here.ensures in
    commanded c.args.self.now c.args.line.now _ _ _ c.in-Words.word.now c.in-Words.argument.now c.in-Ok.argument.now c.answer_command_here.result
    c.in-Words.ensures c.in-Ok.ensures.cases.0 did.step did.asked did.made did.streamed
