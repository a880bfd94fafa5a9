use Rattle.stm_commands.proofs.LabelTexts.{no_label}
use Rattle.stm_commands.proofs.commands.label.label_of_bytes.Goals as goal

pub returns-in-Err-clause-text : goal.returns-in-Err-clause-text
returns-in-Err-clause-text c = no_label c.args.bytes.now c.in-Err.ensures.cases.0
