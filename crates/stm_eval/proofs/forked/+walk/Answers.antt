use Rattle.std.proofs.Common.{rules, ◌≢◌}
use Rattle.std.specs.Prelude.{IfOk}
use Rattle.stm_terms.specs.Ast.{act_of}
use Rattle.stm_terms.specs.Changes.{cell_value}
use Rattle.stm_terms.specs.Semantics.{run, Stuck}
use Rattle.stm_eval.specs.BothBranches.{RunsTo, entered}
use Rattle.stm_eval.proofs.DefinedBranches.{not_stuck}
use Rattle.stm_eval.proofs.NestedFrames.{walked_inside, catch_steps, catch_defined, catch_reads}
use Rattle.stm_eval.proofs.forked.+walk.Goals as goal

pub run_both-returns : goal.run_both-returns
run_both-returns g t c =
    let S = cell_value c.args.frozen.now in
    let a = act_of c.args.left.now in
    let vs = c.args.right_state.locals.items in
    let h = c.args.right_state.log in
    let one : IfOk c.join-left_state.result.0.0 (λ e. RunsTo S a vs (entered h) e c.join-left_state.result.0.1.locals.items c.join-left_state.result.0.1.log) =
    rw (c.requires.locals, c.requires.log) at c.join-left_state.ensures.first in
    c.choose.ensures S a (act_of c.args.right.now) vs h c.requires.run.reads one c.join-left_state.ensures.second

pub step-run_choice-requires : goal.step-run_choice-requires
step-run_choice-requires g t c =
    let defined : run (cell_value c.args.frozen.now) (act_of c.args.action.now) c.args.locals.now.items c.args.log.now.top ≢ Stuck =
    not_stuck (cell_value c.args.frozen.now) (act_of c.args.action.now) c.args.locals.now.items c.args.log.now.top c.requires.run.defined in
    search rules

pub step-run_let-requires : goal.step-run_let-requires
step-run_let-requires g t c =
    let defined : run (cell_value c.args.frozen.now) (act_of c.args.action.now) c.args.locals.now.items c.args.log.now.top ≢ Stuck =
    not_stuck (cell_value c.args.frozen.now) (act_of c.args.action.now) c.args.locals.now.items c.args.log.now.top c.requires.run.defined in
    search rules

pub walk_caught-returns-clause-steps : goal.walk_caught-returns-clause-steps
walk_caught-returns-clause-steps g t c =
    let S = cell_value c.args.frozen.now in
    let a = act_of c.args.action.now in
    let mine = c.walk.new.locals.items in
    let mid = c.walk.new.log in
    let ran = walked_inside S a c.args.locals.now.items c.args.log.now c.enter.new.self c.in_ok-end.end mine mid c.in_ok-enter.ensures.done c.in_ok-end.ensures in
    catch_steps S a (act_of c.args.handler.now) c.args.locals.now.items c.args.log.now mine mid c.after_action.result c.in_ok-end.end c.after_action.new.locals.items c.after_action.new.log ran c.after_action.ensures.goes_on

pub walk_caught-returns-clause-defined : goal.walk_caught-returns-clause-defined
walk_caught-returns-clause-defined g t c =
    let S = cell_value c.args.frozen.now in
    let a = act_of c.args.action.now in
    let mine = c.walk.new.locals.items in
    let mid = c.walk.new.log in
    let ran = walked_inside S a c.args.locals.now.items c.args.log.now c.enter.new.self c.in_ok-end.end mine mid c.in_ok-enter.ensures.done c.in_ok-end.ensures in
    catch_defined S a (act_of c.args.handler.now) c.args.locals.now.items c.args.log.now mine mid c.after_action.result c.in_ok-end.end c.after_action.new.locals.items c.after_action.new.log c.requires.defined ran c.after_action.ensures.goes_on

pub walk_caught-returns-clause-read_set : goal.walk_caught-returns-clause-read_set
walk_caught-returns-clause-read_set g t c =
    catch_reads (cell_value c.args.frozen.now) (act_of c.args.action.now) (act_of c.args.handler.now) c.args.locals.now.items c.args.log.now c.walk.new.locals.items c.walk.new.log c.after_action.result c.in_ok-end.end c.after_action.new.locals.items c.after_action.new.log c.in_ok-end.ensures.read_set c.after_action.ensures.goes_on
