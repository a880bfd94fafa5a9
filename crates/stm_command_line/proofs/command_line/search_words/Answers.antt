use Rattle.std.proofs.Common.{ap, ◌∙◌, codes}
use Rattle.clap.specs.Simple.{app_of_fields, new_app}
use Rattle.stm_command_line.proofs.AddedOptions.{IsCommand, option_added, last_added}
use Rattle.stm_command_line.proofs.command_line.search_words.Goals as goal

pub returns : goal.returns
returns c =
    let start : IsCommand c.after_help.result (new_app (codes "explore")) = (
      ap app_of_fields c.after_help.ensures ∙ ap app_of_fields c.about.ensures ∙ c.new.ensures.app,
      rw c.after_help.ensures (rw c.about.ensures c.new.ensures.local),
    ) in
    let one = option_added c.after_help.result c.in_ok-arg.field-0 c.number_option.result _ _ start c.in_ok-arg.ensures c.number_option.ensures.rule c.number_option.ensures.local in
    let two = option_added c.in_ok-arg.field-0 c.in_ok-arg-2.field-0 c.flag_option.result _ _ one c.in_ok-arg-2.ensures c.flag_option.ensures.rule c.flag_option.ensures.local in
    let all = last_added c.in_ok-arg-2.field-0 c.arg-3.result c.flag_option-2.result _ _ two c.arg-3.ensures c.flag_option-2.ensures.rule c.flag_option-2.ensures.local in
    record { app = all.0; local = all.1 }
