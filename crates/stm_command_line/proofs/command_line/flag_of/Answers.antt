use Rattle.std.proofs.Common.{[], Some, None, refl}
use Rattle.clap.specs.Matches.{found_of}
use Rattle.stm_command_line.proofs.WordAnswers.{flag_read}
use Rattle.stm_command_line.proofs.command_line.flag_of.Goals as goal

pub returns-in-Some : goal.returns-in-Some
returns-in-Some c =
    let said = flag_read (found_of c.args.matches.now) c.args.name.now (Some c.in-Some.text.now) c.in-Some.text.now c.in-Some.ensures refl in
    cc (said, c.eq.ensures)

pub returns-in-None : goal.returns-in-None
returns-in-None c = flag_read (found_of c.args.matches.now) c.args.name.now None [] c.in-None.ensures refl
