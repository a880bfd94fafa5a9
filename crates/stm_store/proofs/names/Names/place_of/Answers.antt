use Rattle.stm_store.proofs.KnownNumbers.{nowhere_between}
use Rattle.stm_store.proofs.names.Names.place_of.Goals as goal

pub returns-clause-nowhere : goal.returns-clause-nowhere
returns-clause-nowhere c = λ _. nowhere_between c.args.self.now c.loop-low.low c.loop-low.high c.args.number c.loop-low-test.false c.loop-low.invariant.before c.loop-low.invariant.after
