use Rattle.std.proofs.Common.{take, Ok, Err, OnOk, Result}
use Rattle.stm_journal.proofs.BatchParts.{remaining, parts_of, one_more, one_byte}
use Rattle.stm_journal.proofs.Runs.{after_closed, after_open, open_text}
use Rattle.stm_journal.proofs.journal.add_in_sector.Goals as goal

pub returns-in_err-put_closed-clause-any_moment : goal.returns-in_err-put_closed-clause-any_moment
returns-in_err-put_closed-clause-any_moment g c honest =
    let r = c.requires in
    let batch = c.args.batch.now in
    after_closed g.D.Device.disk c.args.device.now c.args.len (r.text honest) (r.counts honest) batch r.lines c.put_closed.new.device (remaining batch)
    (one_more batch r.some) (c.put_closed.ensures.any_moment honest)

pub returns-clause-any_moment : goal.returns-clause-any_moment
returns-clause-any_moment g c honest =
    let D = g.D.Device.disk in
    let r = c.requires in
    let old = c.args.device.now in
    let batch = c.args.batch.now in
    let closed =
    after_closed D old c.args.len (r.text honest) (r.counts honest) batch r.lines c.put_closed.new.device (remaining batch)
    (one_more batch r.some) (c.put_closed.ensures.any_moment honest) in
    after_open D old c.args.len (r.text honest) (r.counts honest) batch r.lines c.put_closed.new.device (remaining batch)
    (c.in_ok-put_closed.ensures.written honest) c.put.new.device (take 1 batch) (parts_of batch) (one_byte batch r.some) closed
    (c.put.ensures.any_moment honest)

pub returns-clause-added : goal.returns-clause-added
returns-clause-added g c =
    let r = c.requires in
    let batch = c.args.batch.now in
    if_ok c.put.result (λ is honest.
    open_text g.D.Device.disk c.args.device.now c.args.len (r.text honest) (r.counts honest) batch r.lines c.put_closed.new.device (remaining batch)
    (c.in_ok-put_closed.ensures.written honest) c.put.new.device (take 1 batch) (parts_of batch) (one_byte batch r.some) (is honest)) c.put.ensures.written
  where
    if_ok : {T E P Q : Type 0} (result : Result T E) → (P → Q) → OnOk result P → OnOk result Q
    if_ok (Ok v) f h = f h
    if_ok (Err e) f h = tt
