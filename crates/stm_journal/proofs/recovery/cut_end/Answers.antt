use Rattle.std.proofs.Common.{arith, subst, ◌∙◌}
use Rattle.stm_journal.specs.Device.{Cut}
use Rattle.stm_journal.specs.Journal.{HasSameLines}
use Rattle.stm_journal.proofs.Crash.{cut_done, cut_keeps, same_lines}
use Rattle.stm_journal.proofs.Wholes.{whole-le}
use Rattle.stm_journal.proofs.Runs.{one_call, two_calls, cut_outcomes}
use Rattle.stm_journal.proofs.recovery.cut_end.Goals as goal

pub cut-requires-clause-within : goal.cut-requires-clause-within
cut-requires-clause-within g c honest = omega (arith, c.requires.counted honest, whole-le 0 (g.D.Device.disk.seen c.args.device.now))

pub returns-in_err-cut-clause-any_moment : goal.returns-in_err-cut-clause-any_moment
returns-in_err-cut-clause-any_moment g c settled honest =
    let D = g.D.Device.disk in
    let old = c.args.device.now in
    let only = c.requires.durable honest (settled honest) in
    let now = g.met.D.Device.lawful.only_now old in
    one_call D old only now (HasSameLines (D.seen old)) c.cut.new.self (same_lines (D.seen old))
    (cut_outcomes D old only now c.cut.new.self c.args.len (c.requires.counted honest) (c.cut.ensures.crash settled honest))
    (c.cut.ensures.time honest)

pub returns-in_err-sync-clause-any_moment : goal.returns-in_err-sync-clause-any_moment
returns-in_err-sync-clause-any_moment g c settled honest =
    let D = g.D.Device.disk in
    let old = c.args.device.now in
    let only = c.requires.durable honest (settled honest) in
    let now = g.met.D.Device.lawful.only_now old in
    two_calls D old only now (HasSameLines (D.seen old)) c.cut.new.self c.sync.new.self (same_lines (D.seen old))
    (cut_outcomes D old only now c.cut.new.self c.args.len (c.requires.counted honest) (c.cut.ensures.crash settled honest))
    (c.cut.ensures.time honest) (c.sync.ensures.crash honest) (c.sync.ensures.time honest)

pub returns-clause-any_moment : goal.returns-clause-any_moment
returns-clause-any_moment g c settled honest =
    let D = g.D.Device.disk in
    let old = c.args.device.now in
    let only = c.requires.durable honest (settled honest) in
    let now = g.met.D.Device.lawful.only_now old in
    two_calls D old only now (HasSameLines (D.seen old)) c.cut.new.self c.sync.new.self (same_lines (D.seen old))
    (cut_outcomes D old only now c.cut.new.self c.args.len (c.requires.counted honest) (c.cut.ensures.crash settled honest))
    (c.cut.ensures.time honest) (c.sync.ensures.crash honest) (c.sync.ensures.time honest)

pub returns-in_err-cut-clause-left : goal.returns-in_err-cut-clause-left
returns-in_err-cut-clause-left g c honest =
    let D = g.D.Device.disk in
    let old = D.seen c.args.device.now in
    let new = D.seen c.cut.new.self in
    cut_keeps old new (subst (λ n. Cut n old new) (c.requires.counted honest) (c.in_err-cut.ensures.unfinished honest))

pub returns-in_err-sync-clause-left : goal.returns-in_err-sync-clause-left
returns-in_err-sync-clause-left g c honest =
    let D = g.D.Device.disk in
    let old = D.seen c.args.device.now in
    let new = D.seen c.sync.new.self in
    let cut = cut_done c.args.len old new (omega (arith, c.requires.counted honest, whole-le 0 old))
    (c.sync.ensures.seen honest ∙ c.in_ok-cut.ensures.cut honest) in
    cut_keeps old new (subst (λ n. Cut n old new) (c.requires.counted honest) cut)

pub returns-clause-left : goal.returns-clause-left
returns-clause-left g c honest =
    let D = g.D.Device.disk in
    let old = D.seen c.args.device.now in
    let new = D.seen c.sync.new.self in
    let cut = cut_done c.args.len old new (omega (arith, c.requires.counted honest, whole-le 0 old))
    (c.sync.ensures.seen honest ∙ c.in_ok-cut.ensures.cut honest) in
    cut_keeps old new (subst (λ n. Cut n old new) (c.requires.counted honest) cut)
