use Rattle.stm_eval.proofs.FragmentsAndStores.{to_store}
use Rattle.stm_eval.proofs.message.Evaluated.reads.Goals as goal

pub returns-clause-holds : goal.returns-clause-holds
returns-clause-holds c S agrees =
    let m = c.args.self.now in
    to_store m.block.tree m.reads m.verdict S (record { defined = m.defined; all_read = m.all_read }) agrees
