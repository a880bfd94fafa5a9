use Rattle.std.proofs.Common.{string_bytes}
use Rattle.stm_run.proofs.Replying.{asked_of, made_of, step_of, streamed_of}
use Rattle.stm_journaled_run.proofs.Committing.{grown_by_line, fit_after_line}
use Rattle.stm_journaled_run.proofs.session.DurableSession.hold_answer.Goals as goal

pub returns-clause-step : goal.returns-clause-step
returns-clause-step g c =
    step_of c.args.self.now.console c.args.line.now c.answer.new.self (string_bytes c.args.self.now.held) (string_bytes c.answer.new.out) c.answer.result c.answer.ensures

pub returns-clause-asked : goal.returns-clause-asked
returns-clause-asked g c =
    asked_of c.args.self.now.console c.args.line.now c.answer.new.self (string_bytes c.args.self.now.held) (string_bytes c.answer.new.out) c.answer.result c.answer.ensures

pub returns-clause-made : goal.returns-clause-made
returns-clause-made g c =
    made_of c.args.self.now.console c.args.line.now c.answer.new.self (string_bytes c.args.self.now.held) (string_bytes c.answer.new.out) c.answer.result c.answer.ensures

pub returns-clause-streamed : goal.returns-clause-streamed
returns-clause-streamed g c =
    streamed_of c.args.self.now.console c.args.line.now c.answer.new.self (string_bytes c.args.self.now.held) (string_bytes c.answer.new.out) c.answer.result c.answer.ensures

pub returns-clause-grows : goal.returns-clause-grows
returns-clause-grows g c =
    let s = c.args.self.now.console in
    let t = c.answer.new.self in
    let old = string_bytes c.args.self.now.held in
    let new = string_bytes c.answer.new.out in
    let h = c.answer.ensures in
    grown_by_line s t c.args.line.now old new c.answer.result
    (step_of s c.args.line.now t old new c.answer.result h, asked_of s c.args.line.now t old new c.answer.result h, made_of s c.args.line.now t old new c.answer.result h)

pub returns-clause-variables : goal.returns-clause-variables
returns-clause-variables g c =
    let s = c.args.self.now.console in
    let t = c.answer.new.self in
    let old = string_bytes c.args.self.now.held in
    let new = string_bytes c.answer.new.out in
    let h = c.answer.ensures in
    fit_after_line s t c.args.line.now old new c.variables_stay_fit.ensures c.answer.result
    (step_of s c.args.line.now t old new c.answer.result h, asked_of s c.args.line.now t old new c.answer.result h, made_of s c.args.line.now t old new c.answer.result h)
