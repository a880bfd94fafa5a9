use Rattle.std.proofs.KnownBytes.{Keeps-refl}
use Rattle.stm_storm.proofs.WrittenStorms.{unread_storm, writes_storm}
use Rattle.stm_storm.proofs.storming.storm.Goals as goal

pub returns-in-Ok : goal.returns-in-Ok
returns-in-Ok g c =
    let did = c.run_script.ensures in
    writes_storm _ _ _ _ c.run_script.result c.in-Ok.ensures.0 did.done did.failed did.fault

pub returns-in-Err : goal.returns-in-Err
returns-in-Err g c =
    unread_storm _ _ _ c.in-Err.fault (Keeps-refl _) c.in-Err.ensures
