use Rattle.stm_store.proofs.ChangedVariables.{rise_if}
use Rattle.stm_store.proofs.store.Store.changes.Goals as goal

pub returns-clause-rising : goal.returns-clause-rising
returns-clause-rising c = rw (← c.self.view_is) (rise_if (λ v. v.items) c.self.inside.cells c.args.verdict.now c.changed_variables.result c.changed_variables.ensures)
