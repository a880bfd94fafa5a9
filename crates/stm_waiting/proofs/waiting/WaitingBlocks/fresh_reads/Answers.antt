use Rattle.std.proofs.Common.{◌∙◌, Option, ap, subst}
use Rattle.std.specs.Prelude.{IfOk}
use Rattle.stm_waiting.specs.Entries.{kept_at}
use Rattle.stm_waiting.specs.FreshReads.{AreFreshFor}
use Rattle.stm_waiting.specs.declared.waiting.Waiting.{Waiting}
use Rattle.stm_waiting.proofs.Placed.{kept_at_place}
use Rattle.stm_waiting.proofs.waiting.WaitingBlocks.fresh_reads.Goals as goal

pub returns : goal.returns
returns c =
    subst (λ (o : Option Waiting). IfOk c.fresh_at.result (λ fresh. AreFreshFor fresh o c.args.scratch.now))
    (kept_at_place c.args.ticket c.place_of.result c.self.inside.table.places.items c.self.inside.slots.items c.place_of.ensures c.self.invariant.ascend ∙ ap (kept_at c.args.ticket) c.self.view_is)
    (rw c.deref.ensures.value at c.fresh_at.ensures)
