use Rattle.std.specs.Str.Parse.{ParsesUnsigned, ExplainsUnsignedError, HasUnsignedDigitsIfOk}
use Rattle.clap.specs.Matches.{found_of}
use Rattle.stm_command_line.proofs.WordAnswers.{number_read}
use Rattle.stm_command_line.proofs.command_line.number_given.Goals as goal

pub returns : goal.returns
returns c = number_read (λ bs r. ParsesUnsigned 32 10 bs r × ExplainsUnsignedError 10 bs r × HasUnsignedDigitsIfOk bs r)
    (found_of c.args.matches.now) c.args.name.now c.get_one.result (λ text n h. h.0) c.get_one.ensures.none c.get_one.ensures.value
