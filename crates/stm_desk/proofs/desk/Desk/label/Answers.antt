use Rattle.stm_events.specs.declared.errors.LabelError.TheVariants.{NoMemory}
use Rattle.stm_desk.specs.Refusals.{label_refusal}
use Rattle.stm_terms.proofs.Refused.{accepted}
use Rattle.stm_desk.proofs.desk.Desk.label.Goals as goal

pub label_allowed-requires-clause-allowed : goal.label_allowed-requires-clause-allowed
label_allowed-requires-clause-allowed c = accepted NoMemory (label_refusal c.args.self.now c.args.ticket) _ c.in-Ok.ensures.refused
