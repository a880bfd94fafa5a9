use Rattle.std.proofs.Common.{inl, length}
use Rattle.stm_journal.specs.Device.{Torn, TornAppend}
use Rattle.stm_journal.proofs.Crash.{torn_none, append_none}
use Rattle.stm_journal.proofs.Runs.{one_call, two_calls, torn_outcomes}
use Rattle.stm_journal.proofs.journal.put.Goals as goal

pub returns-in_err-write_at-clause-any_moment : goal.returns-in_err-write_at-clause-any_moment
returns-in_err-write_at-clause-any_moment g c honest =
    let D = g.D.Device.disk in
    let old = c.args.device.now in
    let only = (c.requires.durable honest).only in
    let now = g.met.D.Device.lawful.only_now old in
    let n = length c.args.bytes.now in
    one_call D old only now (Torn c.args.at n (D.seen old)) c.write_at.new.self (torn_none c.args.at n (D.seen old))
    (torn_outcomes D old only now c.write_at.new.self c.args.at n (c.write_at.ensures.crash honest)) (c.write_at.ensures.time honest)

pub returns-in_err-write_at-clause-zeros : goal.returns-in_err-write_at-clause-zeros
returns-in_err-write_at-clause-zeros g c zeros at_end honest =
    let D = g.D.Device.disk in
    let old = c.args.device.now in
    let only = (c.requires.durable honest).only in
    let bytes = c.args.bytes.now in
    one_call D old only (g.met.D.Device.lawful.only_now old) (TornAppend bytes (D.seen old)) c.write_at.new.self (append_none bytes (D.seen old))
    (c.write_at.ensures.zeros honest (inl zeros) (at_end honest) only) (c.write_at.ensures.time honest)

pub returns-in_err-sync-clause-any_moment : goal.returns-in_err-sync-clause-any_moment
returns-in_err-sync-clause-any_moment g c honest =
    let D = g.D.Device.disk in
    let old = c.args.device.now in
    let only = (c.requires.durable honest).only in
    let now = g.met.D.Device.lawful.only_now old in
    let n = length c.args.bytes.now in
    two_calls D old only now (Torn c.args.at n (D.seen old)) c.write_at.new.self c.sync.new.self (torn_none c.args.at n (D.seen old))
    (torn_outcomes D old only now c.write_at.new.self c.args.at n (c.write_at.ensures.crash honest)) (c.write_at.ensures.time honest)
    (c.sync.ensures.crash honest) (c.sync.ensures.time honest)

pub returns-in_err-sync-clause-zeros : goal.returns-in_err-sync-clause-zeros
returns-in_err-sync-clause-zeros g c zeros at_end honest =
    let D = g.D.Device.disk in
    let old = c.args.device.now in
    let only = (c.requires.durable honest).only in
    let bytes = c.args.bytes.now in
    two_calls D old only (g.met.D.Device.lawful.only_now old) (TornAppend bytes (D.seen old)) c.write_at.new.self c.sync.new.self
    (append_none bytes (D.seen old)) (c.write_at.ensures.zeros honest (inl zeros) (at_end honest) only) (c.write_at.ensures.time honest)
    (c.sync.ensures.crash honest) (c.sync.ensures.time honest)

pub returns-clause-any_moment : goal.returns-clause-any_moment
returns-clause-any_moment g c honest =
    let D = g.D.Device.disk in
    let old = c.args.device.now in
    let only = (c.requires.durable honest).only in
    let now = g.met.D.Device.lawful.only_now old in
    let n = length c.args.bytes.now in
    two_calls D old only now (Torn c.args.at n (D.seen old)) c.write_at.new.self c.sync.new.self (torn_none c.args.at n (D.seen old))
    (torn_outcomes D old only now c.write_at.new.self c.args.at n (c.write_at.ensures.crash honest)) (c.write_at.ensures.time honest)
    (c.sync.ensures.crash honest) (c.sync.ensures.time honest)

pub returns-clause-zeros : goal.returns-clause-zeros
returns-clause-zeros g c zeros at_end honest =
    let D = g.D.Device.disk in
    let old = c.args.device.now in
    let only = (c.requires.durable honest).only in
    let bytes = c.args.bytes.now in
    two_calls D old only (g.met.D.Device.lawful.only_now old) (TornAppend bytes (D.seen old)) c.write_at.new.self c.sync.new.self
    (append_none bytes (D.seen old)) (c.write_at.ensures.zeros honest (inl zeros) (at_end honest) only) (c.write_at.ensures.time honest)
    (c.sync.ensures.crash honest) (c.sync.ensures.time honest)
