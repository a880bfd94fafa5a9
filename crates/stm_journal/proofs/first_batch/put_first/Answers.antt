use Rattle.std.proofs.Common.{Ok, Err, OnOk, Result}
use Rattle.stm_journal.proofs.FirstBatch.{after_gate, after_second, after_front, after_rest, after_open, open_text}
use Rattle.stm_journal.proofs.first_batch.put_first.Goals as goal

pub returns-in_err-put-clause-any_moment : goal.returns-in_err-put-clause-any_moment
returns-in_err-put-clause-any_moment g c honest =
    let D = g.D.Device.disk in
    let r = c.requires in
    after_gate D c.args.device.now (r.empty honest) c.args.batch.now c.args.front r.lines r.some r.within c.put.new.device (c.put.ensures.any_moment honest)

pub returns-in_err-put-2-clause-any_moment : goal.returns-in_err-put-2-clause-any_moment
returns-in_err-put-2-clause-any_moment g c honest =
    let D = g.D.Device.disk in
    let r = c.requires in
    let old = c.args.device.now in
    let batch = c.args.batch.now in
    let gate = after_gate D old (r.empty honest) batch c.args.front r.lines r.some r.within c.put.new.device (c.put.ensures.any_moment honest) in
    after_second D old (r.empty honest) batch c.args.front r.lines r.some r.within c.put.new.device (c.in_ok-put.ensures.written honest)
    c.put-2.new.device gate (c.put-2.ensures.any_moment honest)

pub returns-in_err-put-3-clause-any_moment : goal.returns-in_err-put-3-clause-any_moment
returns-in_err-put-3-clause-any_moment g c honest =
    let D = g.D.Device.disk in
    let r = c.requires in
    let old = c.args.device.now in
    let batch = c.args.batch.now in
    let gate = after_gate D old (r.empty honest) batch c.args.front r.lines r.some r.within c.put.new.device (c.put.ensures.any_moment honest) in
    let second =
    after_second D old (r.empty honest) batch c.args.front r.lines r.some r.within c.put.new.device (c.in_ok-put.ensures.written honest)
    c.put-2.new.device gate (c.put-2.ensures.any_moment honest) in
    after_front D old (r.empty honest) batch c.args.front r.lines r.some r.within c.put.new.device (c.in_ok-put.ensures.written honest)
    c.put-2.new.device (c.in_ok-put-2.ensures.written honest) c.put-3.new.device second (c.put-3.ensures.any_moment honest)

pub returns-in_err-put-4-clause-any_moment : goal.returns-in_err-put-4-clause-any_moment
returns-in_err-put-4-clause-any_moment g c honest =
    let D = g.D.Device.disk in
    let r = c.requires in
    let old = c.args.device.now in
    let batch = c.args.batch.now in
    let gate = after_gate D old (r.empty honest) batch c.args.front r.lines r.some r.within c.put.new.device (c.put.ensures.any_moment honest) in
    let second =
    after_second D old (r.empty honest) batch c.args.front r.lines r.some r.within c.put.new.device (c.in_ok-put.ensures.written honest)
    c.put-2.new.device gate (c.put-2.ensures.any_moment honest) in
    let front =
    after_front D old (r.empty honest) batch c.args.front r.lines r.some r.within c.put.new.device (c.in_ok-put.ensures.written honest)
    c.put-2.new.device (c.in_ok-put-2.ensures.written honest) c.put-3.new.device second (c.put-3.ensures.any_moment honest) in
    after_rest D old (r.empty honest) batch c.args.front r.lines r.some r.within c.put.new.device (c.in_ok-put.ensures.written honest)
    c.put-2.new.device (c.in_ok-put-2.ensures.written honest) c.put-3.new.device (c.in_ok-put-3.ensures.written honest)
    c.put-4.new.device front (c.put-4.ensures.any_moment honest)

pub returns-clause-any_moment : goal.returns-clause-any_moment
returns-clause-any_moment g c honest =
    let D = g.D.Device.disk in
    let r = c.requires in
    let old = c.args.device.now in
    let batch = c.args.batch.now in
    let gate = after_gate D old (r.empty honest) batch c.args.front r.lines r.some r.within c.put.new.device (c.put.ensures.any_moment honest) in
    let second =
    after_second D old (r.empty honest) batch c.args.front r.lines r.some r.within c.put.new.device (c.in_ok-put.ensures.written honest)
    c.put-2.new.device gate (c.put-2.ensures.any_moment honest) in
    let front =
    after_front D old (r.empty honest) batch c.args.front r.lines r.some r.within c.put.new.device (c.in_ok-put.ensures.written honest)
    c.put-2.new.device (c.in_ok-put-2.ensures.written honest) c.put-3.new.device second (c.put-3.ensures.any_moment honest) in
    let rest =
    after_rest D old (r.empty honest) batch c.args.front r.lines r.some r.within c.put.new.device (c.in_ok-put.ensures.written honest)
    c.put-2.new.device (c.in_ok-put-2.ensures.written honest) c.put-3.new.device (c.in_ok-put-3.ensures.written honest)
    c.put-4.new.device front (c.put-4.ensures.any_moment honest) in
    after_open D old (r.empty honest) batch c.args.front r.lines r.some r.within c.put.new.device (c.in_ok-put.ensures.written honest)
    c.put-2.new.device (c.in_ok-put-2.ensures.written honest) c.put-3.new.device (c.in_ok-put-3.ensures.written honest)
    c.put-4.new.device (c.in_ok-put-4.ensures.written honest) c.put-5.new.device rest (c.put-5.ensures.any_moment honest)

pub returns-clause-added : goal.returns-clause-added
returns-clause-added g c =
    let D = g.D.Device.disk in
    let r = c.requires in
    if_ok c.put-5.result (λ is honest.
    open_text D c.args.device.now (r.empty honest) c.args.batch.now c.args.front r.lines r.some r.within c.put.new.device (c.in_ok-put.ensures.written honest)
    c.put-2.new.device (c.in_ok-put-2.ensures.written honest) c.put-3.new.device (c.in_ok-put-3.ensures.written honest)
    c.put-4.new.device (c.in_ok-put-4.ensures.written honest) c.put-5.new.device (is honest)) c.put-5.ensures.written
  where
    if_ok : {T E P Q : Type 0} (result : Result T E) → (P → Q) → OnOk result P → OnOk result Q
    if_ok (Ok v) f h = f h
    if_ok (Err e) f h = tt
