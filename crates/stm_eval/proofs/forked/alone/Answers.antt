use Rattle.stm_terms.specs.Ast.{act_of}
use Rattle.stm_terms.specs.Changes.{cell_value}
use Rattle.stm_eval.proofs.BothBranchesRan.{ran_alone}
use Rattle.stm_eval.proofs.DefinedBranches.{not_stuck}
use Rattle.stm_eval.proofs.forked.alone.Goals as goal

pub evaluate-requires-clause-defined : goal.evaluate-requires-clause-defined
evaluate-requires-clause-defined c = not_stuck (cell_value c.args.frozen.now) (act_of c.args.action.now) c.args.locals.now.items c.args.log.now.top c.requires.defined

pub returns : goal.returns
returns c =
    ran_alone c.evaluate.result (cell_value c.args.frozen.now) (act_of c.args.action.now) c.args.locals.now.items c.evaluate.new.locals.items c.args.log.now c.evaluate.new.log
    c.requires.reads c.evaluate.ensures.outcome c.evaluate.ensures.reads c.evaluate.ensures.made c.evaluate.ensures.below c.evaluate.ensures.locals
