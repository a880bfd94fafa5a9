use Rattle.std.proofs.Common.{refl, sym}
use Rattle.stm_store.proofs.KnownNumbers.{kind_at_place, kind_nowhere}
use Rattle.stm_store.proofs.names.Names.kind_of.Goals as goal

pub returns-in-Some : goal.returns-in-Some
returns-in-Some c = sym (kind_at_place c.args.self.now c.in-Some.place c.args.number c.kind_at.result c.in-Some.ensures.known c.in-Some.ensures.there c.kind_at.ensures)

pub returns-in-None : goal.returns-in-None
returns-in-None c = sym (kind_nowhere c.args.self.now c.args.number (c.in-None.ensures.nowhere refl))
