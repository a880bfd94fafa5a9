use Rattle.std.proofs.Common.{inr, refl}
use Rattle.stm_journaled_run.specs.DurableRun.{KeepsConsole}
use Rattle.stm_journaled_run.proofs.Committing.{may_commit, may_begin_next, all_written, failed, on_done, on_fault}
use Rattle.stm_journaled_run.proofs.RunCrashes.{events_run, lines_still}
use Rattle.stm_journaled_run.proofs.streams.commit_before_read.Goals as goal

pub returns-then-is_buffered-clause-any_moment : goal.returns-then-is_buffered-clause-any_moment
returns-then-is_buffered-clause-any_moment g c = λ honest every first lines old a.
    let D = g.D.Device.disk in
    let f = c.args.file.now in
    lines_still _ D f.journal.sync D.fills_with_zeros every first _ lines old _ _ _ _ a.behind f refl refl (a.behind.kept.1 honest)
    (g.met.D.Device.lawful.only_now f.journal.device)

pub returns-else-is_buffered-clause-done : goal.returns-else-is_buffered-clause-done
returns-else-is_buffered-clause-done g c =
    let D = g.D.Device.disk in
    let f = c.hand_on.new.file in
    let e = c.hand_on.ensures in
    on_done c.hand_on.result e.done e.none e.count e.kept _ (λ w n m k every first lines old a.
    all_written _ every first lines old _ _ _ _ a.behind
    (KeepsConsole D f) _ _ _ _ w e.console n m k (may_begin_next _ _ _ _ _ _ _ _ _ a))

pub returns-else-is_buffered-clause-fault : goal.returns-else-is_buffered-clause-fault
returns-else-is_buffered-clause-fault g c =
    let D = g.D.Device.disk in
    let f = c.hand_on.new.file in
    let e = c.hand_on.ensures in
    on_fault c.hand_on.result _ _ e.fault (λ x h every first lines old a.
    failed _ every first lines old _ _ _ _ a.behind D.is_honest c.args.file.now.journal.sync D.fills_with_zeros (D.may_leave f.journal.device)
    (KeepsConsole D f) _ x h
    (λ honest o left.
    let run = e.any_moment honest (may_commit _ _ _ _ _ _ _ _ _ a) in
    inr (run.each o (g.met.D.Device.lawful.counts_now f.journal.device (D.moment c.args.file.now.journal.device) o run.later left))))

pub returns-else-is_buffered-clause-any_moment : goal.returns-else-is_buffered-clause-any_moment
returns-else-is_buffered-clause-any_moment g c = λ honest every first lines old a.
    let D = g.D.Device.disk in
    let f = c.args.file.now in
    events_run _ D f.journal.sync D.fills_with_zeros every first _ lines old _ _ _ _ a.behind f.journal.device c.hand_on.new.file.journal.device
    (c.hand_on.ensures.any_moment honest (may_commit _ _ _ _ _ _ _ _ _ a))

pub hand_on-requires : goal.hand_on-requires
hand_on-requires g c = may_commit _ _ _ _ _ _ _ _ _ c.requires.1.3
