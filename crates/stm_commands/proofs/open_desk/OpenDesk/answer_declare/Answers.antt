use Rattle.std.proofs.Common.{◌≡◌, List, Ok, sym, ap, ◌∙◌}
use Rattle.stm_store.specs.Naming.{Named}
use Rattle.stm_source.specs.DeclaredVariable.{late_variable_of}
use Rattle.stm_source.specs.LateVariables.{late_variable}
use Rattle.stm_commands.specs.OpenDesk.{known}
use Rattle.stm_commands.proofs.DeskSteps.{text_declared}
use Rattle.stm_commands.proofs.open_desk.OpenDesk.answer_declare.Goals as goal

pub returns-in-Ok : goal.returns-in-Ok
returns-in-Ok c =
    let is : late_variable_of (known c.args.self.now) c.args.text.now ≡ Ok (late_variable c.in-Ok.variable) =
    rw (← c.self.view_is) (ap (λ (ns : List Named). late_variable_of ns c.args.text.now) (sym c.names.ensures) ∙ c.in-Ok.ensures.answer) in
    text_declared c.args.self.now c.declare.new.self c.args.text.now (late_variable c.in-Ok.variable) _ _ c.declare.result is c.declare.ensures
