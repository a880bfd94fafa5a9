-- What a console ends as that lends its desk.
use Rattle.std.specs.Prelude.{Result}
use Rattle.std.specs.Borrow.{LendsIfOk, MutBor, Fml}
use Rattle.std.specs.declared.alloc.AllocError.{AllocError}
use Rattle.stm_run.specs.contracts.console.Console as console
use Rattle.stm_commands.specs.contracts.open_desk.OpenDesk as opened
use Rattle.stm_run.specs.declared.console.Console.{Console}
use Rattle.stm_run.specs.declared.console.Console.TheVariants.{Open}
use Rattle.stm_commands.specs.OpenDesk.{OpenDesk}

-- the console ends open, with the desk that the reference has last; if there is no reference, it stays as it was
abbrev pub LendsDesk : MutBor Console → Result (MutBor OpenDesk) AllocError → Fml
LendsDesk c r = LendsIfOk console.the_row opened.the_row c r (λ d. Open d) c.now
