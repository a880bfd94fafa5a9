use Rattle.std.proofs.Common.{inr, length}
use Rattle.stm_journal.proofs.Runs.{after_zero, after_bytes, after_sync}
use Rattle.stm_journal.proofs.journal.put_closed.Goals as goal

pub returns-in_err-write_at-clause-any_moment : goal.returns-in_err-write_at-clause-any_moment
returns-in_err-write_at-clause-any_moment g c honest =
    let r = c.requires in
    let old = c.args.device.now in
    let only = (r.durable honest).only in
    after_zero g.D.Device.disk old only (g.met.D.Device.lawful.only_now old) c.args.len (length c.args.bytes.now) (r.counts honest) c.write_at.new.self
    (c.write_at.ensures.zeros honest (inr r.sector) (r.counts honest) only) (c.write_at.ensures.time honest)

pub returns-in_err-write_at-2-clause-any_moment : goal.returns-in_err-write_at-2-clause-any_moment
returns-in_err-write_at-2-clause-any_moment g c honest =
    let r = c.requires in
    let old = c.args.device.now in
    let only = (r.durable honest).only in
    after_bytes g.D.Device.disk old only (g.met.D.Device.lawful.only_now old) c.args.len (length c.args.bytes.now) (r.counts honest) c.write_at.new.self
    (c.write_at.ensures.zeros honest (inr r.sector) (r.counts honest) only) (c.write_at.ensures.time honest)
    c.write_at-2.new.self (c.write_at-2.ensures.crash honest) (c.write_at-2.ensures.time honest)

pub returns-in_err-sync-clause-any_moment : goal.returns-in_err-sync-clause-any_moment
returns-in_err-sync-clause-any_moment g c honest =
    let r = c.requires in
    let old = c.args.device.now in
    let only = (r.durable honest).only in
    after_sync g.D.Device.disk old only (g.met.D.Device.lawful.only_now old) c.args.len (length c.args.bytes.now) (r.counts honest) c.write_at.new.self
    (c.write_at.ensures.zeros honest (inr r.sector) (r.counts honest) only) (c.write_at.ensures.time honest)
    c.write_at-2.new.self (c.write_at-2.ensures.crash honest) (c.write_at-2.ensures.time honest)
    c.sync.new.self (c.sync.ensures.crash honest) (c.sync.ensures.time honest)

pub returns-clause-any_moment : goal.returns-clause-any_moment
returns-clause-any_moment g c honest =
    let r = c.requires in
    let old = c.args.device.now in
    let only = (r.durable honest).only in
    after_sync g.D.Device.disk old only (g.met.D.Device.lawful.only_now old) c.args.len (length c.args.bytes.now) (r.counts honest) c.write_at.new.self
    (c.write_at.ensures.zeros honest (inr r.sector) (r.counts honest) only) (c.write_at.ensures.time honest)
    c.write_at-2.new.self (c.write_at-2.ensures.crash honest) (c.write_at-2.ensures.time honest)
    c.sync.new.self (c.sync.ensures.crash honest) (c.sync.ensures.time honest)
