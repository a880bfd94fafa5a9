use Rattle.std.proofs.Common.{inl}
use Rattle.stm_explore_script.proofs.Explorations.{invalid_kept, writes_not_right, writes_right}
use Rattle.stm_console.proofs.ProgramAnswers.{exploration_ends}
use Rattle.stm_console.proofs.program.do_exploration.Goals as goal

pub returns-in-Ok : goal.returns-in-Ok
returns-in-Ok g c = inl (c.report_right.ensures, writes_right c.args.options.history c.args.options _ _ _ c.in-Ok.warnings c.in-Ok.ensures)

pub returns-in-Err : goal.returns-in-Err
returns-in-Err g c =
    exploration_ends _ _ _ c.in-Err.fault _ c.report_exploration.ensures (writes_not_right c.args.options.history c.args.options _ _ _ c.in-Err.fault c.in-Err.ensures)
    (invalid_kept c.args.options.history c.args.options _ _ _ c.in-Err.fault c.in-Err.ensures)
