use Rattle.std.proofs.Common.{◌∙◌}
use Rattle.stm_run.specs.ConsoleState.{with_checkpoint}
use Rattle.stm_journaled_run.proofs.Taking.{journal_not_run, record_cause, refusal_cause, reported_keeps, reported_leaves}
use Rattle.stm_journaled_run.proofs.beginning.begin_or_report.Goals as goal

-- ---- the file refused it
pub returns-else-is_no_memory-clause-begun : goal.returns-else-is_no_memory-clause-begun
returns-else-is_no_memory-clause-begun g c =
    let D = g.D.Device.disk in (
      reported_keeps D c.args.file.now c.begin_file_anew.new.file c.report.new.self c.report.ensures.same c.report.ensures.format (rw c.in-Err-Refused.field-0-is at c.in-Err-Refused.ensures.refused),
      refusal_cause D c.in-Err-Refused.error (c.is_no_memory.ensures.no c.if-is_no_memory.false) (rw c.in-Err-Refused.field-0-is at c.in-Err-Refused.ensures.fault),
    )

pub returns-else-is_no_memory-clause-sync : goal.returns-else-is_no_memory-clause-sync
returns-else-is_no_memory-clause-sync g c = c.report.ensures.sync ∙ c.begin_file_anew.ensures.sync

pub returns-else-is_no_memory-clause-cause : goal.returns-else-is_no_memory-clause-cause
returns-else-is_no_memory-clause-cause g c = tt

pub returns-else-is_no_memory-clause-journal : goal.returns-else-is_no_memory-clause-journal
returns-else-is_no_memory-clause-journal g c = tt

pub returns-else-is_no_memory-clause-any_moment : goal.returns-else-is_no_memory-clause-any_moment
returns-else-is_no_memory-clause-any_moment g c =
    reported_leaves g.D.Device.disk c.args.file.now c.begin_file_anew.new.file c.report.new.self c.report.ensures.same
    (with_checkpoint c.args.console.now) c.begin_file_anew.ensures.any_moment

-- ---- it was replaced
pub returns-in-Ok-clause-begun : goal.returns-in-Ok-clause-begun
returns-in-Ok-clause-begun g c = (c.in-Ok.ensures.kept, c.in-Ok.ensures.may_begin)

pub returns-in-Ok-clause-sync : goal.returns-in-Ok-clause-sync
returns-in-Ok-clause-sync g c = c.begin_file_anew.ensures.sync

pub returns-in-Ok-clause-cause : goal.returns-in-Ok-clause-cause
returns-in-Ok-clause-cause g c = tt

pub returns-in-Ok-clause-journal : goal.returns-in-Ok-clause-journal
returns-in-Ok-clause-journal g c = tt

pub returns-in-Ok-clause-any_moment : goal.returns-in-Ok-clause-any_moment
returns-in-Ok-clause-any_moment g c = c.begin_file_anew.ensures.any_moment

-- ---- memory ran out
pub returns-then-is_no_memory-clause-begun : goal.returns-then-is_no_memory-clause-begun
returns-then-is_no_memory-clause-begun g c = tt

pub returns-then-is_no_memory-clause-sync : goal.returns-then-is_no_memory-clause-sync
returns-then-is_no_memory-clause-sync g c = c.begin_file_anew.ensures.sync

pub returns-then-is_no_memory-clause-cause : goal.returns-then-is_no_memory-clause-cause
returns-then-is_no_memory-clause-cause g c =
    record_cause g.D.Device.disk c.in-Err-Refused.error (rw c.in-Err-Refused.field-0-is at c.in-Err-Refused.ensures.fault)

pub returns-then-is_no_memory-clause-journal : goal.returns-then-is_no_memory-clause-journal
returns-then-is_no_memory-clause-journal g c = λ f i. journal_not_run c.in-Err-Refused.error f i

pub returns-then-is_no_memory-clause-any_moment : goal.returns-then-is_no_memory-clause-any_moment
returns-then-is_no_memory-clause-any_moment g c = c.begin_file_anew.ensures.any_moment
