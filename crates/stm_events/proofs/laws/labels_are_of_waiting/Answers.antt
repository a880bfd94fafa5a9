use Rattle.stm_events.proofs.Labelling.{labels_are_of_waiting}
use Rattle.stm_events.proofs.laws.labels_are_of_waiting.Goals as goal

pub returns : goal.returns
returns c = labels_are_of_waiting
