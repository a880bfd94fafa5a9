use Rattle.std.proofs.Common.{inl, refl}
use Rattle.stm_console.proofs.ProgramAnswers.{storm_ends}
use Rattle.stm_console.proofs.program.do_storm.Goals as goal

pub returns-in-Ok : goal.returns-in-Ok
returns-in-Ok g c = inl (refl, c.in-Ok.ensures)

pub returns-in-Err : goal.returns-in-Err
returns-in-Err g c = storm_ends _ _ _ _ c.in-Err.fault _ c.report_storm.ensures c.in-Err.ensures
