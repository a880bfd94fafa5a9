use Rattle.std.proofs.Common.{arith}
use Rattle.stm_history.proofs.LineByLine.{whole_stops, whole_taken, whole_tells}
use Rattle.stm_history.proofs.ReachedStages.{counts_of_lines}
use Rattle.stm_history.proofs.check.Checker.take_whole.Goals as goal

pub returns-in-Err-clause-fault : goal.returns-in-Err-clause-fault
returns-in-Err-clause-fault c = whole_tells _ _ _ _ c.requires.plain c.requires.short c.in-Err.ensures.refused

pub returns-in-Err-clause-stops : goal.returns-in-Err-clause-stops
returns-in-Err-clause-stops c = whole_stops _ _ _ _ c.requires.plain c.requires.short c.in-Err.ensures.refused

pub returns-in-Ok-clause-done : goal.returns-in-Ok-clause-done
returns-in-Ok-clause-done c = whole_taken _ _ _ _ _ c.requires.plain c.requires.short (omega arith) c.in-Ok.ensures.leads

pub take_line-requires : goal.take_line-requires
take_line-requires c = let r = (c.requires.reached).1 in (r.progress, r.stage, counts_of_lines r.progress (r.held).whole (r.held).lines)
