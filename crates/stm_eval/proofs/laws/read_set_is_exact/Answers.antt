use Rattle.stm_eval.proofs.FragmentsAndStores.{of_the_store, are_looks}
use Rattle.stm_eval.proofs.laws.read_set_is_exact.Goals as goal

pub returns-clause-values : goal.returns-clause-values
returns-clause-values c = of_the_store

pub returns-clause-variables : goal.returns-clause-variables
returns-clause-variables c = are_looks
