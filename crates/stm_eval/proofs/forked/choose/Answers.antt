use Rattle.std.proofs.Common.{rules, ◌≡◌, Ok}
use Rattle.stm_log.specs.LogModel.{joined_reads}
use Rattle.stm_eval.specs.declared.outcome.Outcome.TheVariants.{Retried}
use Rattle.stm_eval.specs.BothBranches.{RunsTo, entered}
use Rattle.stm_eval.proofs.BothBranchesRan.{both_ran, ok_at}
use Rattle.stm_eval.proofs.forked.choose.Goals as goal

pub returns-in_ok-join_reads-in-Retried : goal.returns-in_ok-join_reads-in-Retried
returns-in_ok-join_reads-in-Retried c = λ S a b vs h are p q.
    let left = c.args.left_state.now in
    let right = c.args.right_state.now in
    let end = c.in_ok-end-in-Retried.end in
    let joined = c.join_reads.new.self in
    let retried : c.args.left_end ≡ Ok Retried = search rules in
    let one : RunsTo S a vs (entered h) Retried left.locals.items left.log = ok_at (λ e. RunsTo S a vs (entered h) e left.locals.items left.log) c.args.left_end Retried p retried in
    let two : RunsTo S b vs h end right.locals.items right.log = ok_at (λ e. RunsTo S b vs h e right.locals.items right.log) c.args.right_end end q c.in_ok-end-in-Retried.was in
    let reads : joined ≡ record right.log { reads = joined_reads left.log.reads right.log.reads } = search rules in
    rw (c.swap-in-Retried.ensures.locals, c.swap-in-Retried.ensures.log)
    (both_ran S a b vs left.locals.items right.locals.items h left.log right.log joined end are one two reads)
