use Rattle.std.proofs.Common.{sym, subst}
use Rattle.std.specs.Prelude.{◌⊎◌}
use Rattle.stm_journal.specs.Disk.{LeavesOnly}
use Rattle.stm_run.specs.ConsoleState.{with_checkpoint}
use Rattle.stm_run.specs.declared.console.Console.{Console}
use Rattle.stm_journaled_run.specs.DurableRun.{KeepsConsole, LeavesBetween}
use Rattle.stm_journaled_run.specs.Committing.{MayBeginAnew}
use Rattle.stm_journaled_run.proofs.beginning.begin_file_anew.Goals as goal

pub returns-clause-any_moment : goal.returns-clause-any_moment
returns-clause-any_moment g c = λ honest.
    let D = g.D.Device.disk in
    let f = c.args.file.now in
    subst (λ (t : Console). (m : MayBeginAnew (KeepsConsole D f) (with_checkpoint t))
    → LeavesOnly D f.journal.device c.begin_desk_anew.new.file.journal.device
    (λ x. LeavesBetween f.journal.sync D.fills_with_zeros m.committed m.committed x ⊎ LeavesBetween f.journal.sync D.fills_with_zeros m.committed (with_checkpoint t) x)) (sym c.in-Open.is) (c.begin_desk_anew.ensures.any_moment honest)
