use Rattle.stm_waiting.proofs.Placed.{held_at_place, kept_held, kept_at_place}
use Rattle.stm_waiting.proofs.waiting.WaitingBlocks.hold_reads.Goals as goal

pub invariant_of-self : goal.invariant_of-self
invariant_of-self c =
    let i = c.self.inside in
    kept_held c.args.ticket c.place_of-place.result i.count (record { reads = c.args.scratch.now; verdict = c.args.verdict }) i.blocks i.table.places.items i.slots.items c.hold_reads_at.new.slots.items
    c.place_of-place.ensures c.hold_reads_at.ensures.others c.hold_reads_at.ensures.held c.self.invariant

pub returns : goal.returns
returns c =
    let i = c.self.inside in
    rw (← c.self.view_is)
    (held_at_place c.args.ticket c.place_of-place.result (record { reads = c.args.scratch.now; verdict = c.args.verdict }) i.table.places.items i.slots.items c.hold_reads_at.new.slots.items
    c.place_of-place.ensures c.self.invariant.ascend c.hold_reads_at.ensures.others c.hold_reads_at.ensures.held)

pub hold_reads_at-requires : goal.hold_reads_at-requires
hold_reads_at-requires c =
    rw (kept_at_place c.args.ticket c.place_of-place.result c.self.inside.table.places.items c.self.inside.slots.items c.place_of-place.ensures c.self.invariant.ascend, c.self.view_is) c.requires.fresh
