use Rattle.std.proofs.Common.{◌∙◌}
use Rattle.stm_waiting.proofs.Placed.{kept_at_place}
use Rattle.stm_waiting.proofs.waiting.WaitingBlocks.get.Goals as goal

pub returns : goal.returns
returns c =
    rw (← c.self.view_is) (rw c.deref.ensures.value at c.held_at.ensures
    ∙ kept_at_place c.args.ticket c.place_of.result c.self.inside.table.places.items c.self.inside.slots.items c.place_of.ensures c.self.invariant.ascend)
