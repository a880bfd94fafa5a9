use Rattle.stm_journaled_run.proofs.Committing.{unstreamed}
use Rattle.stm_journaled_run.proofs.session.DurableSession.stream.Goals as goal

pub returns-in-Err-write_streamed-clause-fault : goal.returns-in-Err-write_streamed-clause-fault
returns-in-Err-write_streamed-clause-fault g c =
    let part = rw c.commit.ensures.console at c.in-Err-write_streamed.ensures.written in
    unstreamed _ _ _ _ _ _ _ c.in-Err-write_streamed.ensures.fault c.in-Ok.ensures.done part c.in-Ok.ensures.kept
