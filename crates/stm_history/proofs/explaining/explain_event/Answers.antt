use Rattle.stm_history.proofs.Explanations.{due_explained}
use Rattle.stm_history.proofs.explaining.explain_event.Goals as goal

pub returns-in-Ok-Due : goal.returns-in-Ok-Due
returns-in-Ok-Due c = due_explained c.line_due.result c.args.format c.args.replayer.now c.args.event.now c.in-Ok-Due.what c.in-Ok-Due.field-0 c.in-Ok-Due.field-0-is c.in-Ok-Due.ensures c.line_due.ensures
