use Rattle.stm_event_lines.proofs.Checkpoints.{no_label}
use Rattle.stm_event_lines.proofs.checkpoint.label_at.Goals as goal

pub returns-then-is_none-clause-fits : goal.returns-then-is_none-clause-fits
returns-then-is_none-clause-fits c = rw c.none.ensures no_label
