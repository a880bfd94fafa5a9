use Rattle.std.proofs.Common.{arith, sym}
use Rattle.stm_parse.specs.Descent.{atom_at}
use Rattle.stm_one_pass.proofs.ActionSteps.{write_read, as_action}
use Rattle.stm_one_pass.proofs.actions.write.Goals as goal

pub returns-clause-reads : goal.returns-clause-reads
returns-clause-reads c =
    as_action c.args.checker.now _ _ _ _ _ _ c.whole.result c.whole.ensures.tree c.whole.ensures.kind c.whole.ensures.rest
    (write_read c.args.checker.now (atom_at c.args.levels) c.args.place c.args.toks.now _ _ _ _ _ _ _ _ _ _ (sym c.in-Some-inside.ensures) (grind arith) c.in-Some.ensures.reads c.in-Some-atom.ensures.reads)
