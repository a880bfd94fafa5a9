use Rattle.std.proofs.Common.{◌≡◌, ◌<◌, ◌++◌, ◌∙◌, true, IsTrue, List, length, subst, rules, arith}
use Rattle.stm_events.specs.declared.event.Event.{Event}
use Rattle.stm_events.specs.SlowDesk.{Slow, state_from}
use Rattle.stm_history_file.specs.Durable.{FitLines, HistoryKept}
use Rattle.stm_run.specs.declared.console.Console.TheVariants.{Open}
use Rattle.stm_journaled_run.specs.DurableRun.{start_in}
use Rattle.stm_journaled_run.proofs.Batches.{fit_front, fit_back, first_run, rest_run, halves, on_recorded}
use Rattle.stm_journaled_run.proofs.recording.+record_batches.Goals as goal

pub record_batches-requires : goal.record_batches-requires
record_batches-requires g t c κs within =
    let D = g.D.Device.disk in
    let f = c.record_batch.new.file in
    let first = c.split_at.result.0.now in
    let many = c.in_ok-record_batch.ensures.many c.if-branch.false in
    let few : length first < length c.args.events.now = omega (arith, many, c.split_at.ensures.front_len) in
    let start = start_in c.args.format (Open c.args.desk.now) in
    let given = c.requires.fit in
    let fit : (s : Slow) × FitLines start s first = (given.0, fit_front start given.0 c.args.events.now first c.split_at.result.1.now c.split_at.ensures.by_index.0 given.1) in
    let begun : IsTrue D.is_honest → f.begun ≡ true = c.in_ok-record_batch.ensures.begun in
    let kept : IsTrue D.is_honest → (H : List Event) × HistoryKept D f (start_in c.args.format (Open c.args.desk.now)) H =
    λ honest. let k = c.requires.kept honest in let either = rw c.if-branch.false at c.in_ok-record_batch.ensures.recorded in let same = either honest in (k.0, same k.0 k.1) in
    (search rules, (search rules, (kept, (begun, (fit, c.record_batch.ensures.same_format ∙ c.requires.format)))))

pub returns-in_err-record_batches-clause-any_moment : goal.returns-in_err-record_batches-clause-any_moment
returns-in_err-record_batches-clause-any_moment g t c = λ honest H keeps.
    let D = g.D.Device.disk in
    let f = c.args.file.now in
    let either = rw c.if-branch.false at c.in_ok-record_batch.ensures.recorded in
    let same = either honest in
    first_run D f.journal.sync D.fills_with_zeros (start_in c.args.format (Open c.args.desk.now)) H c.args.events.now c.split_at.result.0.now c.split_at.result.1.now f.journal.device
    c.record_batch.new.file.journal.device c.record_batches.new.file.journal.device c.record_batch.new.file.journal.sync c.record_batch.ensures.sync c.split_at.ensures.by_index.0
    (c.record_batch.ensures.any_moment honest H keeps) (c.record_batches.ensures.any_moment honest H (same H keeps))

pub record_batches-requires-2 : goal.record_batches-requires-2
record_batches-requires-2 g t c κs within =
    let D = g.D.Device.disk in
    let f = c.record_batches.new.file in
    let first = c.split_at.result.0.now in
    let rest = c.split_at.result.1.now in
    let many = c.in_ok-record_batch.ensures.many c.if-branch.false in
    let few : length rest < length c.args.events.now = omega (arith, many, c.split_at.ensures.front_len, c.split_at.ensures.back_len) in
    let start = start_in c.args.format (Open c.args.desk.now) in
    let given = c.requires.fit in
    let fit : (s : Slow) × FitLines start s rest = (state_from given.0 first, fit_back start given.0 c.args.events.now first rest c.split_at.ensures.by_index.0 given.1) in
    let begun : IsTrue D.is_honest → f.begun ≡ true = c.in_ok-record_batches.ensures.begun in
    let kept : IsTrue D.is_honest → (H : List Event) × HistoryKept D f (start_in c.args.format (Open c.args.desk.now)) H =
    λ honest.
    let k = c.requires.kept honest in
    let either = rw c.if-branch.false at c.in_ok-record_batch.ensures.recorded in
    let same = either honest in
    (k.0 ++ first, c.in_ok-record_batches.ensures.recorded honest k.0 (same k.0 k.1)) in
    (search rules, (search rules, (kept, (begun, (fit, c.record_batches.ensures.same_format ∙ c.record_batch.ensures.same_format ∙ c.requires.format)))))

pub returns-clause-recorded : goal.returns-clause-recorded
returns-clause-recorded g t c =
    let D = g.D.Device.disk in
    let f = c.record_batches-2.new.file in
    let first = c.split_at.result.0.now in
    let rest = c.split_at.result.1.now in
    let same = rw c.if-branch.false at c.in_ok-record_batch.ensures.recorded in
    on_recorded c.record_batches-2.result c.record_batches-2.ensures.recorded (λ p honest H keeps.
    subst (HistoryKept D f (start_in c.args.format (Open c.args.desk.now))) (halves H c.args.events.now first rest c.split_at.ensures.by_index.0)
    (p honest (H ++ first) (c.in_ok-record_batches.ensures.recorded honest H (same honest H keeps))))

pub returns-clause-any_moment : goal.returns-clause-any_moment
returns-clause-any_moment g t c = λ honest H keeps.
    let D = g.D.Device.disk in
    let f = c.args.file.now in
    let first = c.split_at.result.0.now in
    let rest = c.split_at.result.1.now in
    let either = rw c.if-branch.false at c.in_ok-record_batch.ensures.recorded in
    let same = either honest in
    let one = first_run D f.journal.sync D.fills_with_zeros (start_in c.args.format (Open c.args.desk.now)) H c.args.events.now first rest f.journal.device c.record_batch.new.file.journal.device
    c.record_batches.new.file.journal.device c.record_batch.new.file.journal.sync c.record_batch.ensures.sync c.split_at.ensures.by_index.0 (c.record_batch.ensures.any_moment honest H keeps)
    (c.record_batches.ensures.any_moment honest H (same H keeps)) in
    rest_run D f.journal.sync D.fills_with_zeros (start_in c.args.format (Open c.args.desk.now)) H c.args.events.now first rest f.journal.device c.record_batches.new.file.journal.device
    c.record_batches-2.new.file.journal.device c.record_batches.new.file.journal.sync (c.record_batches.ensures.sync ∙ c.record_batch.ensures.sync) c.split_at.ensures.by_index.0 one
    (c.record_batches-2.ensures.any_moment honest (H ++ first) (c.in_ok-record_batches.ensures.recorded honest H (same H keeps)))
