use Rattle.std.specs.Prelude.{option_map}
use Rattle.clap.specs.Matches.{found_of}
use Rattle.stm_command_line.proofs.WordAnswers.{text_read}
use Rattle.stm_command_line.proofs.command_line.text_given.Goals as goal

pub returns : goal.returns
returns c = text_read (found_of c.args.matches.now) c.args.name.now (option_map (λ s. s.now) c.get_str.result) c.get_str.ensures
