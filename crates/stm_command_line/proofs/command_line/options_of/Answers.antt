use Rattle.clap.specs.Words.{found_of}
use Rattle.clap.specs.Walk.{rows_of}
use Rattle.stm_command_line.proofs.WordAnswers.{said_in_range}
use Rattle.stm_command_line.proofs.command_line.options_of.Goals as goal

pub returns-clause-range : goal.returns-clause-range
returns-clause-range c =
    rw (c.number_of.ensures, c.number_of-2.ensures, c.number_of-3.ensures, c.number_of-4.ensures, c.standard-otherwise.ensures)
    (said_in_range (rows_of (found_of c.args.matches.now)))
