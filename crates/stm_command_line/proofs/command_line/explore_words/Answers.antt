use Rattle.stm_command_line.specs.CommandLine.{search_command}
use Rattle.stm_command_line.proofs.AddedOptions.{IsCommand, option_added, last_added}
use Rattle.stm_command_line.proofs.command_line.explore_words.Goals as goal

pub returns : goal.returns
returns c =
    let start : IsCommand c.in_ok-search_words.field-0 search_command = (c.in_ok-search_words.ensures.app, c.in_ok-search_words.ensures.local) in
    let one = option_added c.in_ok-search_words.field-0 c.in_ok-arg.field-0 c.flag_option.result _ _ start c.in_ok-arg.ensures c.flag_option.ensures.rule c.flag_option.ensures.local in
    let two = option_added c.in_ok-arg.field-0 c.in_ok-arg-2.field-0 c.flag_option-2.result _ _ one c.in_ok-arg-2.ensures c.flag_option-2.ensures.rule c.flag_option-2.ensures.local in
    let all = last_added c.in_ok-arg-2.field-0 c.arg-3.result c.flag_option-3.result _ _ two c.arg-3.ensures c.flag_option-3.ensures.rule c.flag_option-3.ensures.local in
    record { app = all.0; local = all.1 }
