use Rattle.std.proofs.Common.{inl, inr}
use Rattle.stm_console.proofs.ProgramAnswers.{failed}
use Rattle.stm_console.proofs.program.do_check_why.Goals as goal

pub returns-in-Ok : goal.returns-in-Ok
returns-in-Ok g c = inl (c.in-Ok.finding, c.status.ensures, c.in-Ok.ensures)

pub returns-in-Err : goal.returns-in-Err
returns-in-Err g c = inr (failed c.in-Err.fault _ c.report.ensures, c.in-Err.ensures.0)
