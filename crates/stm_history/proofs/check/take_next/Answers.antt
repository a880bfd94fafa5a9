use Rattle.stm_history.proofs.LineByLine.{fails_at, fails_long, fails_reading, takes_last, takes_line, takes_none}
use Rattle.stm_history.proofs.check.take_next.Goals as goal

pub returns-in-Ok-clause-taken : goal.returns-in-Ok-clause-taken
returns-in-Ok-clause-taken g c =
    let h = rw c.in-Ok-Whole.field-0-is at c.in-Ok-Whole.ensures.read in
    let fewer = rw c.in-Ok-Whole.field-0-is at c.in-Ok-Whole.ensures.shorter in
    takes_line _ _ _ _ _ _ _ _ _ h.0 (rw c.line.ensures at c.in-Ok.ensures.done) fewer

pub returns-in-Err-take_whole-clause-fault : goal.returns-in-Err-take_whole-clause-fault
returns-in-Err-take_whole-clause-fault g c =
    let h = rw c.in-Ok-Whole.field-0-is at c.in-Ok-Whole.ensures.read in
    fails_at _ _ _ _ _ _ _ (h.0).taken (rw c.line.ensures at c.in-Err-take_whole.ensures.fault) (rw c.line.ensures at c.in-Err-take_whole.ensures.stops)

pub returns-in-Ok-take_last-clause-taken : goal.returns-in-Ok-take_last-clause-taken
returns-in-Ok-take_last-clause-taken g c =
    let h = rw c.in-Ok-Last.field-0-is at c.in-Ok-Last.ensures.read in
    takes_last _ _ _ _ _ _ _ _ h.0 (rw c.line-in-Ok-Last.ensures at c.in-Ok-take_last.ensures.done)

pub returns-in-Err-take_last-clause-fault : goal.returns-in-Err-take_last-clause-fault
returns-in-Err-take_last-clause-fault g c =
    let h = rw c.in-Ok-Last.field-0-is at c.in-Ok-Last.ensures.read in
    fails_at _ _ _ _ _ _ _ (h.0).taken (rw c.line-in-Ok-Last.ensures at c.in-Err-take_last.ensures.fault) (rw c.line-in-Ok-Last.ensures at c.in-Err-take_last.ensures.stops)

pub returns-in-Ok-TooLong-clause-fault : goal.returns-in-Ok-TooLong-clause-fault
returns-in-Ok-TooLong-clause-fault g c =
    let h = rw c.in-Ok-TooLong.field-0-is at c.in-Ok-TooLong.ensures.read in
    fails_long _ _ _ _ _ _ h.0 h.1 c.strange_fault.ensures

pub returns-in-Ok-End-clause-taken : goal.returns-in-Ok-End-clause-taken
returns-in-Ok-End-clause-taken g c =
    let h = rw c.in-Ok-End.field-0-is at c.in-Ok-End.ensures.read in
    takes_none _ _ _ _ _ _ h.0 h.1 c.requires.none

pub returns-in-Err-clause-fault : goal.returns-in-Err-clause-fault
returns-in-Err-clause-fault g c = fails_reading _ _ _ _ c.fault_of.ensures
