use Rattle.std.proofs.Common.{sym}
use Rattle.stm_store.proofs.PageLists.{length-items}
use Rattle.stm_store.proofs.paged_list.Paged.len.Goals as goal

pub returns : goal.returns
returns g c = sym (length-items g.P.AsPage.SIZE g.met.P.AsPage.room g.P.Cells.cells _ _ _ c.self.invariant c.self.view_is)
