use Rattle.stm_command_line.proofs.WordAnswers.{check_unanswered, check_requested, why_unanswered, why_requested}
use Rattle.stm_command_line.proofs.laws.words_of_a_check_are_accepted.Goals as goal

pub returns : goal.returns
returns c = record {
  bare = λ name. (check_unanswered name, check_requested name);
  why = λ name. (why_unanswered name, why_requested name);
}
