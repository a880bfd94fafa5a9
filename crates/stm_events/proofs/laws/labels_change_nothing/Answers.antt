use Rattle.stm_events.proofs.Labelling.{labels_change_nothing}
use Rattle.stm_events.proofs.laws.labels_change_nothing.Goals as goal

pub returns : goal.returns
returns c = labels_change_nothing
