use Rattle.std.proofs.Common.{refl, sym}
use Rattle.stm_store.proofs.KnownNumbers.{name_at_place, name_nowhere}
use Rattle.stm_store.proofs.names.Names.name_of.Goals as goal

pub returns-in-Some : goal.returns-in-Some
returns-in-Some c = sym (name_at_place c.args.self.now c.in-Some.place c.args.number c.name_at.result.now c.in-Some.ensures.known c.in-Some.ensures.there c.name_at.ensures)

pub returns-in-None : goal.returns-in-None
returns-in-None c = sym (name_nowhere c.args.self.now c.args.number (c.in-None.ensures.nowhere refl))
