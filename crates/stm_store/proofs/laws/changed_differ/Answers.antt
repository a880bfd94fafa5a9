use Rattle.stm_store.proofs.ChangedVariables.{changed_differ, unchanged_stay}
use Rattle.stm_store.proofs.laws.changed_differ.Goals as goal

pub returns : goal.returns
returns c = record { differ = changed_differ; unchanged = unchanged_stay }
