use Rattle.std.proofs.Common.{refl}
use Rattle.stm_journaled_run.proofs.Taking.{made_tried}
use Rattle.stm_journaled_run.proofs.session.DurableSession.begin_anew.Goals as goal

-- ---- it was made
pub returns-in-Ok-true-clause-tried : goal.returns-in-Ok-true-clause-tried
returns-in-Ok-true-clause-tried g c =
    let k = rw c.in-Ok-true.field-0-test at c.in-Ok-true.ensures.begun in
    made_tried g.D.Device.disk c.args.file.now c.begin_or_report.new.file c.args.self.now.console c.begin_from.new.self c.args.self.now.recorded 0 c.begin_from.result
    c.begin_from.ensures.begun c.begin_from.ensures.count refl c.requires.room k.0 k.1

pub returns-in-Ok-true-clause-held : goal.returns-in-Ok-true-clause-held
returns-in-Ok-true-clause-held g c = refl

pub returns-in-Ok-true-clause-tries : goal.returns-in-Ok-true-clause-tries
returns-in-Ok-true-clause-tries g c = refl

pub returns-in-Ok-true-clause-sync : goal.returns-in-Ok-true-clause-sync
returns-in-Ok-true-clause-sync g c = c.begin_or_report.ensures.sync

pub returns-in-Ok-true-clause-cause : goal.returns-in-Ok-true-clause-cause
returns-in-Ok-true-clause-cause g c = tt

pub returns-in-Ok-true-clause-journal : goal.returns-in-Ok-true-clause-journal
returns-in-Ok-true-clause-journal g c = tt

pub returns-in-Ok-true-clause-any_moment : goal.returns-in-Ok-true-clause-any_moment
returns-in-Ok-true-clause-any_moment g c = c.begin_or_report.ensures.any_moment

-- ---- the file refused it
pub returns-in-Ok-false-clause-tried : goal.returns-in-Ok-false-clause-tried
returns-in-Ok-false-clause-tried g c =
    let k = rw c.in-Ok-false.field-0-test at c.in-Ok-false.ensures.begun in
    (c.requires.room, refl, refl, k.0, k.1)

pub returns-in-Ok-false-clause-held : goal.returns-in-Ok-false-clause-held
returns-in-Ok-false-clause-held g c = refl

pub returns-in-Ok-false-clause-tries : goal.returns-in-Ok-false-clause-tries
returns-in-Ok-false-clause-tries g c = refl

pub returns-in-Ok-false-clause-sync : goal.returns-in-Ok-false-clause-sync
returns-in-Ok-false-clause-sync g c = c.begin_or_report.ensures.sync

pub returns-in-Ok-false-clause-cause : goal.returns-in-Ok-false-clause-cause
returns-in-Ok-false-clause-cause g c = tt

pub returns-in-Ok-false-clause-journal : goal.returns-in-Ok-false-clause-journal
returns-in-Ok-false-clause-journal g c = tt

pub returns-in-Ok-false-clause-any_moment : goal.returns-in-Ok-false-clause-any_moment
returns-in-Ok-false-clause-any_moment g c = c.begin_or_report.ensures.any_moment

-- ---- it ends the run
pub returns-in-Err-clause-tried : goal.returns-in-Err-clause-tried
returns-in-Err-clause-tried g c = tt

pub returns-in-Err-clause-held : goal.returns-in-Err-clause-held
returns-in-Err-clause-held g c = refl

pub returns-in-Err-clause-tries : goal.returns-in-Err-clause-tries
returns-in-Err-clause-tries g c = refl

pub returns-in-Err-clause-sync : goal.returns-in-Err-clause-sync
returns-in-Err-clause-sync g c = c.begin_or_report.ensures.sync

pub returns-in-Err-clause-cause : goal.returns-in-Err-clause-cause
returns-in-Err-clause-cause g c = c.in-Err.ensures.cause

pub returns-in-Err-clause-journal : goal.returns-in-Err-clause-journal
returns-in-Err-clause-journal g c = c.in-Err.ensures.journal

pub returns-in-Err-clause-any_moment : goal.returns-in-Err-clause-any_moment
returns-in-Err-clause-any_moment g c = c.begin_or_report.ensures.any_moment
