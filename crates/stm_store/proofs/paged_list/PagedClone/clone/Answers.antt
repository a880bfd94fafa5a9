use Rattle.std.proofs.Common.{ap, ◌∙◌}
use Rattle.stm_store.specs.Pages.{flatten}
use Rattle.stm_store.proofs.PageLists.{same_contents}
use Rattle.stm_store.proofs.paged_list.PagedClone.clone.Goals as goal

pub invariant_of-result : goal.invariant_of-result
invariant_of-result g c =
    rw (same_contents g.P.Cells.cells c.self.inside.pages.items c.in_ok-clone.field-0.items c.in_ok-clone.ensures.cases.0) c.self.invariant

pub returns : goal.returns
returns g c = record {
  cases = ap flatten (same_contents g.P.Cells.cells c.self.inside.pages.items c.in_ok-clone.field-0.items c.in_ok-clone.ensures.cases.0) ∙ c.self.view_is;
}
