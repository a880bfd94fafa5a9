use Rattle.std.proofs.Common.{sym, mod-lt}
use Rattle.std.proofs.Math.Nat.{div-add-mod}
use Rattle.stm_store.proofs.paged_list.place.Goals as goal

pub returns-clause-id : goal.returns-clause-id
returns-clause-id g c = rw (c.SIZE.ensures, c.SIZE-2.ensures) (sym (div-add-mod c.args.id g.P.AsPage.SIZE))

pub returns-clause-at : goal.returns-clause-at
returns-clause-at g c = rw c.SIZE-2.ensures (mod-lt c.args.id g.met.P.AsPage.room)
