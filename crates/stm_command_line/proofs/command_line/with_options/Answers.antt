use Rattle.clap.specs.Simple.{new_app}
use Rattle.stm_command_line.specs.CommandLine.{with_numbers}
use Rattle.stm_command_line.proofs.AddedOptions.{IsCommand, option_added, last_added}
use Rattle.stm_command_line.proofs.command_line.with_options.Goals as goal

pub returns : goal.returns
returns c =
    let start : IsCommand c.in_ok-with_numbers.field-0 (with_numbers (new_app c.args.name.now)) = (c.in_ok-with_numbers.ensures.app, c.in_ok-with_numbers.ensures.local) in
    let one = option_added c.in_ok-with_numbers.field-0 c.in_ok-arg.field-0 c.journal_option.result _ _ start c.in_ok-arg.ensures c.journal_option.ensures.rule c.journal_option.ensures.local in
    let two = option_added c.in_ok-arg.field-0 c.in_ok-arg-2.field-0 c.sync_option.result _ _ one c.in_ok-arg-2.ensures c.sync_option.ensures.rule c.sync_option.ensures.local in
    let all = last_added c.in_ok-arg-2.field-0 c.arg-3.result c.checkpoint_option.result _ _ two c.arg-3.ensures c.checkpoint_option.ensures.rule c.checkpoint_option.ensures.local in
    record { app = all.0; local = all.1 }
