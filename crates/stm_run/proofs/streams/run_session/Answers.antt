use Rattle.std.proofs.Common.{◌≡◌, ◌∙◌, Err, ap, arith}
use Rattle.std.proofs.lemmas.Result.{err_from_is_err_and}
use Rattle.stm_lines.specs.declared.run_fault.RunFault.TheVariants.{Read}
use Rattle.stm_run.proofs.Running as Running
use Rattle.stm_run.proofs.streams.run_session.Goals as goal

pub returns-in_err-flush_before_read-clause-part : goal.returns-in_err-flush_before_read-clause-part
returns-in_err-flush_before_read-clause-part g c =
    let p = err_from_is_err_and c.from_residual.result c.from_residual.ensures.1 in
    rw p.1 (Running.part_flushed _ _ _ _ _ _ _ c.lines.invariant.answered c.flush_before_read.ensures.same)

pub returns-in_err-answer_next-clause-read_fault : goal.returns-in_err-answer_next-clause-read_fault
returns-in_err-answer_next-clause-read_fault g c = λ e.
    let p = err_from_is_err_and c.from_residual-in_err-answer_next.result c.from_residual-in_err-answer_next.ensures.1 in
    let same : c.in_err-answer_next.field-0.0 ≡ Read = cc (p.1, p.2, e) in
    Running.whole_answered _ _ _ _ _ _ _ _ _ c.lines.invariant.answered c.flush_before_read.ensures.same (c.in_err-answer_next.ensures.read_fault (ap (λ x. Err x) same))

pub returns-in_err-answer_next-clause-part : goal.returns-in_err-answer_next-clause-part
returns-in_err-answer_next-clause-part g c =
    let p = err_from_is_err_and c.from_residual-in_err-answer_next.result c.from_residual-in_err-answer_next.ensures.1 in
    rw p.1 (Running.part_answered _ _ _ _ _ _ _ _ c.lines.invariant.answered c.flush_before_read.ensures.same c.in_err-answer_next.ensures.part)

pub returns-then-not-branch-clause-part : goal.returns-then-not-branch-clause-part
returns-then-not-branch-clause-part g c =
    let last = rw c.if-not-branch.true at c.in_ok-answer_next.ensures.answered in
    Running.all_flushed c.flush.result _ _ _ _ (Running.all_answered _ _ _ _ _ _ _ _ _ c.lines.invariant.answered c.flush_before_read.ensures.same last c.flush.ensures.same)

pub lines-preserved : goal.lines-preserved
lines-preserved g c =
    let next = rw c.if-not-branch.false at c.in_ok-answer_next.ensures.answered in
    record {
      answered = Running.HasAnswered-more _ _ _ _ _ _ _ _ _ _ c.lines.invariant.answered c.flush_before_read.ensures.same next;
      same_reader = c.in_ok-answer_next.ensures.same_reader ∙ c.lines.invariant.same_reader;
      same_steps = c.in_ok-answer_next.ensures.same_steps ∙ c.lines.invariant.same_steps;
      counted = omega (arith, c.in_ok-answer_next.ensures.counted, c.lines.invariant.counted);
    }
