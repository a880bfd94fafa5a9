use Rattle.stm_waiting.proofs.Placed.{held_at_place, kept_held}
use Rattle.stm_waiting.proofs.waiting.WaitingBlocks.hold.Goals as goal

pub invariant_of-self : goal.invariant_of-self
invariant_of-self c =
    let i = c.self.inside in
    kept_held c.args.ticket c.place_of-place.result i.count c.args.held i.blocks i.table.places.items i.slots.items c.hold_at.new.slots.items c.place_of-place.ensures c.hold_at.ensures.others c.hold_at.ensures.held
    c.self.invariant

pub returns : goal.returns
returns c =
    let i = c.self.inside in
    rw (← c.self.view_is)
    (held_at_place c.args.ticket c.place_of-place.result c.args.held i.table.places.items i.slots.items c.hold_at.new.slots.items
    c.place_of-place.ensures c.self.invariant.ascend c.hold_at.ensures.others c.hold_at.ensures.held)
