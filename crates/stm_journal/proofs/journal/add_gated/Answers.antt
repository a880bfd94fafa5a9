use Rattle.std.proofs.Common.{take}
use Rattle.stm_journal.proofs.BatchParts.{remaining, parts_of, one_more, one_byte}
use Rattle.stm_journal.proofs.Runs.{after_gate, after_rest, rest_text, after_open}
use Rattle.stm_journal.proofs.journal.add_gated.Goals as goal

pub returns-in_err-put-clause-any_moment : goal.returns-in_err-put-clause-any_moment
returns-in_err-put-clause-any_moment g c honest =
    let D = g.D.Device.disk in
    let r = c.requires in
    after_gate D c.args.device.now c.args.len (r.text honest) (r.counts honest) c.args.batch.now r.lines r.some c.put.new.device
    (c.put.ensures.any_moment honest)

pub returns-in_err-put-2-clause-any_moment : goal.returns-in_err-put-2-clause-any_moment
returns-in_err-put-2-clause-any_moment g c honest =
    let D = g.D.Device.disk in
    let r = c.requires in
    let old = c.args.device.now in
    let batch = c.args.batch.now in
    let gate = after_gate D old c.args.len (r.text honest) (r.counts honest) batch r.lines r.some c.put.new.device (c.put.ensures.any_moment honest) in
    after_rest D old c.args.len (r.text honest) (r.counts honest) batch r.lines c.put.new.device (c.in_ok-put.ensures.written honest)
    c.put-2.new.device (remaining batch) (one_more batch r.some) gate (c.put-2.ensures.any_moment honest)

pub returns-clause-any_moment : goal.returns-clause-any_moment
returns-clause-any_moment g c honest =
    let D = g.D.Device.disk in
    let r = c.requires in
    let old = c.args.device.now in
    let batch = c.args.batch.now in
    let gate = after_gate D old c.args.len (r.text honest) (r.counts honest) batch r.lines r.some c.put.new.device (c.put.ensures.any_moment honest) in
    let rest =
    after_rest D old c.args.len (r.text honest) (r.counts honest) batch r.lines c.put.new.device (c.in_ok-put.ensures.written honest)
    c.put-2.new.device (remaining batch) (one_more batch r.some) gate (c.put-2.ensures.any_moment honest) in
    after_open D old c.args.len (r.text honest) (r.counts honest) batch r.lines c.put-2.new.device (remaining batch)
    (rest_text D old c.args.len (r.text honest) (r.counts honest) batch r.lines c.put.new.device (c.in_ok-put.ensures.written honest)
    c.put-2.new.device (remaining batch) (c.in_ok-put-2.ensures.written honest))
    c.put-3.new.device (take 1 batch) (parts_of batch) (one_byte batch r.some) rest (c.put-3.ensures.any_moment honest)
