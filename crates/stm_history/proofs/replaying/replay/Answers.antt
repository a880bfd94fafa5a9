use Rattle.stm_history_text.specs.Starts.{table_start}
use Rattle.stm_history.proofs.ReplayFaults.{legal_over}
use Rattle.stm_history.proofs.replaying.replay.Goals as goal

pub returns-in-Ok-step_all : goal.returns-in-Ok-step_all
returns-in-Ok-step_all c =
    let table = c.args.table.now in
    let history = c.args.history.now in
    let f = c.in-Ok-step_all.ensures.done table c.in-Ok.ensures.follows in
    (legal_over table history f.legal, c.numbers.ensures (table_start table) history f)
