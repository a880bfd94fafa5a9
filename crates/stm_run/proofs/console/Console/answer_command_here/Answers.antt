use Rattle.std.proofs.Common.{◌≡◌, ◌≢◌, ℕ, List, Option, subst, ap, ◌∙◌, arith, rules}
use Rattle.std.specs.Prelude.{IfOk, string_bytes}
use Rattle.stm_commands.specs.OpenDesk.{OpenDesk}
use Rattle.stm_run.specs.Abstraction.{IsStep}
use Rattle.stm_run.specs.Console.{command_named, desk_step, on_console, word_step}
use Rattle.stm_run.specs.declared.command.Command.{Command}
use Rattle.stm_run.specs.declared.command.Command.TheVariants.{Tvar}
use Rattle.stm_run.specs.declared.console.Console.{Console}
use Rattle.stm_run.specs.declared.console.Console.TheVariants.{Open}
use Rattle.stm_run.proofs.DeskCommands.{step_of_desk}
use Rattle.stm_run.proofs.console.Console.answer_command_here.Goals as goal

pub returns-in_ok-desk-in-Some-clause-step : goal.returns-in_ok-desk-in-Some-clause-step
returns-in_ok-desk-in-Some-clause-step c =
    let s = c.args.self.now in
    let command = c.in-Some.command in
    let argument = c.args.argument.now in
    let other : command ≢ Tvar = λ e. first_of (cc e, search rules, grind arith) in
    let e : on_console (desk_step c.in_ok-desk-in-Some.desk.now command argument) ≡ word_step s (command_named c.args.word.now) argument =
    ap (λ (d : OpenDesk). on_console (desk_step d command argument)) c.in_ok-desk-in-Some.ensures.value
    ∙ step_of_desk s command argument other
    ∙ ap (λ (o : Option Command). word_step s o argument) c.in-Some.ensures in
    subst (λ (p : Console × List ℕ). IfOk c.answer_on_desk_here.result (λ r. IsStep r (string_bytes c.args.out.now) (string_bytes c.answer_on_desk_here.new.out) (Open c.answer_on_desk_here.new.desk) p)) e
    c.answer_on_desk_here.ensures.step
