use Rattle.std.proofs.Common.{sym, subst}
use Rattle.stm_journal.specs.Disk.{LeavesOnly}
use Rattle.stm_run.specs.declared.console.Console.{Console}
use Rattle.stm_journaled_run.specs.DurableRun.{KeepsConsole, LeavesBetween}
use Rattle.stm_journaled_run.specs.Committing.{MayCommit}
use Rattle.stm_journaled_run.proofs.RecordedEvents.{between_still, declaring_count, declaring_kept}
use Rattle.stm_journaled_run.proofs.recording.record_new.Goals as goal

pub returns-in-Declaring-clause-count : goal.returns-in-Declaring-clause-count
returns-in-Declaring-clause-count g c = declaring_count _ _ _ _ _ c.in-Declaring.is c.requires

pub returns-in-Declaring-clause-recorded : goal.returns-in-Declaring-clause-recorded
returns-in-Declaring-clause-recorded g c =
    let D = g.D.Device.disk in
    let f = c.args.file.now in
    let m = c.requires in
    declaring_kept D f m.committed _ _ _ c.in-Declaring.is m.grows m.kept

pub returns-in-Declaring-clause-any_moment : goal.returns-in-Declaring-clause-any_moment
returns-in-Declaring-clause-any_moment g c = λ honest m.
    let D = g.D.Device.disk in
    let f = c.args.file.now in
    between_still D f m.committed c.args.console.now m.grows (m.kept.1 honest)
    (g.met.D.Device.lawful.only_now f.journal.device)

pub returns-in-Open-clause-any_moment : goal.returns-in-Open-clause-any_moment
returns-in-Open-clause-any_moment g c = λ honest.
    let D = g.D.Device.disk in
    let f = c.args.file.now in
    subst (λ (t : Console). (m : MayCommit (KeepsConsole D f) t c.args.recorded)
    → LeavesOnly D f.journal.device c.record_open.new.file.journal.device (LeavesBetween f.journal.sync D.fills_with_zeros m.committed t)) (sym c.in-Open.is) (c.record_open.ensures.any_moment honest)
