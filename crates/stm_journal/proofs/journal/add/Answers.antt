use Rattle.std.proofs.Common.{sym, subst, length}
use Rattle.stm_journal.specs.Journal.{MayLeave}
use Rattle.stm_journal.specs.Device.{Torn}
use Rattle.stm_journal.specs.Disk.{LeavesOnly}
use Rattle.stm_journal.specs.declared.sync_mode.SyncMode.TheVariants.{Append}
use Rattle.stm_journal.proofs.Crash.{torn_any, written_keeps}
use Rattle.stm_journal.proofs.Runs.{after_write, stays}
use Rattle.stm_journal.proofs.journal.add.Goals as goal

pub returns-in-Append-clause-any_moment : goal.returns-in-Append-clause-any_moment
returns-in-Append-clause-any_moment g c honest =
    let D = g.D.Device.disk in
    let r = c.requires.at_rest honest in
    let old = c.args.device.now in
    let batch = c.args.batch.now in
    subst (λ m. LeavesOnly D old c.put.new.device (MayLeave m D.fills_with_zeros (D.seen old) batch)) (sym c.in-Append.is)
    (after_write D old c.args.len r.whole r.counts batch c.requires.lines D.fills_with_zeros c.put.new.device
    (c.put.ensures.any_moment honest)
    (λ zeros. c.put.ensures.zeros zeros (λ _. r.counts) honest))

pub returns-in-Append-clause-left : goal.returns-in-Append-clause-left
returns-in-Append-clause-left g c honest =
    let D = g.D.Device.disk in
    let r = c.requires.at_rest honest in
    let old = c.args.device.now in
    let new = c.put.new.device in
    let batch = c.args.batch.now in
    subst (λ m. MayLeave m D.fills_with_zeros (D.seen old) batch (D.seen new)) (sym c.in-Append.is)
    (stays D old new (MayLeave Append D.fills_with_zeros (D.seen old) batch)
    (after_write D old c.args.len r.whole r.counts batch c.requires.lines D.fills_with_zeros new (c.put.ensures.any_moment honest)
    (λ zeros. c.put.ensures.zeros zeros (λ _. r.counts) honest))
    (g.met.D.Device.lawful.may_stay new) (g.met.D.Device.lawful.counts_now new))

pub returns-in-Append-clause-kept : goal.returns-in-Append-clause-kept
returns-in-Append-clause-kept g c honest =
    let D = g.D.Device.disk in
    let r = c.requires.at_rest honest in
    let old = c.args.device.now in
    let new = c.put.new.device in
    let batch = c.args.batch.now in
    torn_any (D.seen old) r.whole c.args.len r.counts batch (D.seen new)
    (stays D old new (Torn c.args.len (length batch) (D.seen old)) (c.put.ensures.any_moment honest)
    (g.met.D.Device.lawful.may_stay new) (g.met.D.Device.lawful.counts_now new))

pub returns-in-Never-clause-kept : goal.returns-in-Never-clause-kept
returns-in-Never-clause-kept g c honest =
    let D = g.D.Device.disk in
    let r = c.requires.at_rest honest in
    written_keeps D.is_honest honest (D.seen c.args.device.now) r.whole c.args.len r.counts c.write_at.result c.args.batch.now (D.seen c.write_at.new.self) c.requires.lines
    c.write_at.ensures.written c.write_at.ensures.unfinished
