use Rattle.std.proofs.Common.{◌≡◌, length, vec_len, rules, arith}
use Rattle.stm_jobs.proofs.Answered.{all_done, answered, as_many, each_answers, all_ready}
use Rattle.stm_jobs.proofs.all.evaluate_all.Goals as goal

pub answers_of-requires-clause-done : goal.answers_of-requires-clause-done
answers_of-requires-clause-done g c = λ k d h.
    let slots = c.in_ok-slots.slots in
    let len : length slots.items ≡ vec_len slots = search rules in
    all_done c.args.frozen.now c.args.jobs.items slots.items c.work_all.new.slots.items (vec_len slots) len c.in_ok-slots.ensures.done c.work_all.ensures.each k d (omega (arith, h, c.work_all.ensures.len))

pub returns-clause-each : goal.returns-clause-each
returns-clause-each g c =
    let slots = c.in_ok-slots.slots in
    let answers = c.answers_of.result.items in
    let len : length slots.items ≡ vec_len slots = search rules in
    let same : length c.work_all.new.slots.items ≡ vec_len slots = search rules in
    let many : length answers ≡ length c.args.jobs.items = as_many c.args.jobs.items slots.items c.work_all.new.slots.items answers (vec_len slots) len c.in_ok-slots.ensures.done c.answers_of.ensures same in
    each_answers c.args.frozen.now c.args.jobs.items answers many
    (answered c.args.frozen.now c.args.jobs.items slots.items c.work_all.new.slots.items answers (vec_len slots) len c.in_ok-slots.ensures.done c.answers_of.ensures same c.work_all.ensures.each)

pub work_all-requires-clause-ready : goal.work_all-requires-clause-ready
work_all-requires-clause-ready g c = λ κs lives. rw c.in_ok-slots.ensures.done (all_ready c.args.frozen.now c.args.jobs.items c.requires.covered)
