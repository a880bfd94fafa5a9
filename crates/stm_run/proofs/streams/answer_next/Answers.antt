use Rattle.std.proofs.Common.{◌≡◌}
use Rattle.stm_lines.specs.declared.run_fault.RunFault.TheVariants.{Read}
use Rattle.stm_run.proofs.Running as Running
use Rattle.stm_run.proofs.streams.answer_next.Goals as goal

pub returns-in-Ok-clause-answered : goal.returns-in-Ok-clause-answered
returns-in-Ok-clause-answered g c =
    let h = rw c.in-Ok-Whole.field-0-is at c.in-Ok-Whole.ensures.read in
    Running.line_answered _ _ _ _ _ _ _ h.0 h.1 h.2 (rw c.line.ensures at c.in-Ok.ensures.1) (rw c.line.ensures at c.in-Ok.ensures.0)

pub returns-in-Err-answer_line-clause-part : goal.returns-in-Err-answer_line-clause-part
returns-in-Err-answer_line-clause-part g c =
    let h = rw c.in-Ok-Whole.field-0-is at c.in-Ok-Whole.ensures.read in
    Running.line_part_answered _ _ _ _ _ _ h.0 h.1 h.2 (rw c.line.ensures at c.in-Err-answer_line.ensures.0)

pub returns-in-Err-answer_line-clause-read_fault : goal.returns-in-Err-answer_line-clause-read_fault
returns-in-Err-answer_line-clause-read_fault g c = λ e.
    let same : c.in-Err-answer_line.fault ≡ Read = cc e in
    absurd (c.in-Err-answer_line.ensures.1 same)

pub returns-in-Ok-answer_line-clause-answered : goal.returns-in-Ok-answer_line-clause-answered
returns-in-Ok-answer_line-clause-answered g c =
    let h = rw c.in-Ok-Last.field-0-is at c.in-Ok-Last.ensures.read in
    Running.last_answered _ _ _ _ _ _ h.0 h.1 h.2 h.3 (rw c.line-in-Ok-Last.ensures at c.in-Ok-answer_line.ensures.0)

pub returns-in-Err-answer_line-2-clause-part : goal.returns-in-Err-answer_line-2-clause-part
returns-in-Err-answer_line-2-clause-part g c =
    let h = rw c.in-Ok-Last.field-0-is at c.in-Ok-Last.ensures.read in
    Running.last_part_answered _ _ _ _ _ _ h.0 h.1 h.2 h.3 (rw c.line-in-Ok-Last.ensures at c.in-Err-answer_line-2.ensures.0)

pub returns-in-Err-answer_line-2-clause-read_fault : goal.returns-in-Err-answer_line-2-clause-read_fault
returns-in-Err-answer_line-2-clause-read_fault g c = λ e.
    let same : c.in-Err-answer_line-2.fault ≡ Read = cc e in
    absurd (c.in-Err-answer_line-2.ensures.1 same)

pub returns-in-Ok-End-clause-answered : goal.returns-in-Ok-End-clause-answered
returns-in-Ok-End-clause-answered g c = Running.none_answered _ _ _ _ (rw c.in-Ok-End.field-0-is at c.in-Ok-End.ensures.read)

pub returns-in-Err-clause-read_fault : goal.returns-in-Err-clause-read_fault
returns-in-Err-clause-read_fault g c = λ e.
    let same : c.in-Err.fault ≡ Read = cc e in
    let part = rw same at c.in-Err.ensures.read in
    Running.read_failed _ _ _ _ _ (part.0, part.1.0) part.1.1

pub returns-in-Err-clause-part : goal.returns-in-Err-clause-part
returns-in-Err-clause-part g c = Running.none_written _ _ _
