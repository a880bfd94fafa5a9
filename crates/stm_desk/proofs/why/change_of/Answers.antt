use Rattle.stm_desk.proofs.EventsSince.{written_number}
use Rattle.stm_desk.proofs.why.change_of.Goals as goal

pub renumber-requires : goal.renumber-requires
renumber-requires c = written_number c.args.first_new c.args.variable c.args.writes.now c.in-Some.written c.requires.writable c.in-Some.ensures
