use Rattle.std.proofs.Common.{sym, ◌∙◌, take, drop}
use Rattle.stm_run.specs.Console.{command_words, command_named}
use Rattle.stm_run.proofs.CommandWords.{command_in-first, command_in-rest}
use Rattle.stm_run.proofs.command.command_of.Goals as goal

pub returns-in-Some : goal.returns-in-Some
unfolding command_named
returns-in-Some c = sym (command_in-first (take 7 command_words) (drop 7 command_words) c.args.word.now c.in-Some.command (sym c.in-Some.ensures))

pub returns-in-Some-of_next_seven : goal.returns-in-Some-of_next_seven
unfolding command_named
returns-in-Some-of_next_seven c =
    sym (command_in-rest (take 7 command_words) (drop 7 command_words) c.args.word.now (sym c.in_default.ensures)
    ∙ command_in-first (take 7 (drop 7 command_words)) (drop 14 command_words) c.args.word.now c.in-Some-of_next_seven.command (sym c.in-Some-of_next_seven.ensures))

pub returns-in-Some-of_third_seven : goal.returns-in-Some-of_third_seven
unfolding command_named
returns-in-Some-of_third_seven c =
    sym (command_in-rest (take 7 command_words) (drop 7 command_words) c.args.word.now (sym c.in_default.ensures)
    ∙ command_in-rest (take 7 (drop 7 command_words)) (drop 14 command_words) c.args.word.now (sym c.in_default-of_next_seven.ensures)
    ∙ command_in-first (take 7 (drop 14 command_words)) (drop 21 command_words) c.args.word.now c.in-Some-of_third_seven.command (sym c.in-Some-of_third_seven.ensures))

pub returns : goal.returns
unfolding command_named
returns c =
    c.of_last_four.ensures
    ∙ sym (command_in-rest (take 7 command_words) (drop 7 command_words) c.args.word.now (sym c.in_default.ensures)
    ∙ command_in-rest (take 7 (drop 7 command_words)) (drop 14 command_words) c.args.word.now (sym c.in_default-of_next_seven.ensures)
    ∙ command_in-rest (take 7 (drop 14 command_words)) (drop 21 command_words) c.args.word.now (sym c.in_default-of_third_seven.ensures))
