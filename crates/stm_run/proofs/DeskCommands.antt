-- What a command on the open desk is to the console that opened it.
use Rattle.std.proofs.Common.{◌≡◌, ◌≢◌, List, ℕ, refl}
use Rattle.stm_run.specs.declared.command.Command.{Command}
use Rattle.stm_run.specs.declared.command.Command.TheVariants.{Tvar}
use Rattle.stm_run.specs.declared.console.Console.{Console}
use Rattle.stm_run.specs.Console.{command_step, desk_step, on_console}
use Rattle.stm_run.specs.ConsoleState.{present_desk}

-- each command but `tvar` is a step of the desk
pub step_of_desk : (s : Console) (command : Command) (argument : List ℕ) → command ≢ Tvar
    → on_console (desk_step (present_desk s) command argument) ≡ command_step s command argument
step_of_desk s Tvar argument not = absurd (not refl)
step_of_desk s command argument not = refl
