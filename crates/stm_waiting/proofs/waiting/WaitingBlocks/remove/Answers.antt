use Rattle.std.proofs.Common.{◌≡◌, ◌+◌, ◌∙◌, sym, ap, length, arith}
use Rattle.stm_waiting.specs.Places.{entries_at}
use Rattle.stm_waiting.proofs.Placed.{kept_at_place, lost_at_place, lost_count, kept_none}
use Rattle.stm_waiting.proofs.waiting.WaitingBlocks.remove.Goals as goal

pub overflow_sub-self : goal.overflow_sub-self
overflow_sub-self c =
    let i = c.self.inside in
    let n : length (entries_at i.table.places.items c.take_at.new.slots.items) + 1 ≡ i.count = lost_count c.args.ticket c.place_of-place.result i.count i.blocks c.in-Some.waiting i.table.places.items i.slots.items
    c.take_at.new.slots.items c.place_of-place.ensures c.take_at.ensures.others c.take_at.ensures.gone (sym c.in-Some.is ∙ c.take_at.ensures.was) c.self.invariant in
    omega arith

pub shorten-requires-clause-counted : goal.shorten-requires-clause-counted
shorten-requires-clause-counted c =
    let i = c.self.inside in
    let n : length (entries_at i.table.places.items c.take_at.new.slots.items) + 1 ≡ i.count = lost_count c.args.ticket c.place_of-place.result i.count i.blocks c.in-Some.waiting i.table.places.items i.slots.items
    c.take_at.new.slots.items c.place_of-place.ensures c.take_at.ensures.others c.take_at.ensures.gone (sym c.in-Some.is ∙ c.take_at.ensures.was) c.self.invariant in
    rw c.deref.ensures.value (omega arith)

pub invariant_of-self : goal.invariant_of-self
invariant_of-self c =
    let i = c.self.inside in
    let n : length (entries_at i.table.places.items c.take_at.new.slots.items) + 1 ≡ i.count = lost_count c.args.ticket c.place_of-place.result i.count i.blocks c.in-Some.waiting i.table.places.items i.slots.items
    c.take_at.new.slots.items c.place_of-place.ensures c.take_at.ensures.others c.take_at.ensures.gone (sym c.in-Some.is ∙ c.take_at.ensures.was) c.self.invariant in
    let same : entries_at c.shorten.new.self.places.items c.take_at.new.slots.items ≡ entries_at i.table.places.items c.take_at.new.slots.items = rw c.deref.ensures.value at c.shorten.ensures.same in
    let long : length (entries_at c.shorten.new.self.places.items c.take_at.new.slots.items) ≡ length (entries_at i.table.places.items c.take_at.new.slots.items) = ap length same in
    record {
      ascend = c.shorten.ensures.ascend;
      counted = omega arith;
      short = c.shorten.ensures.short;
      lent = c.self.invariant.lent;
    }

pub invariant_of-self-in-None : goal.invariant_of-self-in-None
invariant_of-self-in-None c =
    let i = c.self.inside in
    kept_none c.args.ticket c.place_of-place.result i.count i.blocks i.table.places.items i.slots.items c.take_at.new.slots.items
    c.place_of-place.ensures c.take_at.ensures.others c.take_at.ensures.gone (sym c.in-None.is ∙ c.take_at.ensures.was) c.self.invariant

pub returns-in-Some-clause-was : goal.returns-in-Some-clause-was
returns-in-Some-clause-was c =
    rw (← c.self.view_is) (sym c.in-Some.is ∙ c.take_at.ensures.was
    ∙ kept_at_place c.args.ticket c.place_of-place.result c.self.inside.table.places.items c.self.inside.slots.items c.place_of-place.ensures c.self.invariant.ascend)

pub returns-in-Some-clause-gone : goal.returns-in-Some-clause-gone
returns-in-Some-clause-gone c =
    rw (← c.self.view_is)
    ((rw c.deref.ensures.value at c.shorten.ensures.same)
    ∙ lost_at_place c.args.ticket c.place_of-place.result c.self.inside.table.places.items c.self.inside.slots.items c.take_at.new.slots.items
    c.place_of-place.ensures c.self.invariant.ascend c.take_at.ensures.others c.take_at.ensures.gone)

pub returns-in-None-clause-was : goal.returns-in-None-clause-was
returns-in-None-clause-was c =
    rw (← c.self.view_is) (sym c.in-None.is ∙ c.take_at.ensures.was
    ∙ kept_at_place c.args.ticket c.place_of-place.result c.self.inside.table.places.items c.self.inside.slots.items c.place_of-place.ensures c.self.invariant.ascend)

pub returns-in-None-clause-gone : goal.returns-in-None-clause-gone
returns-in-None-clause-gone c =
    rw (← c.self.view_is)
    (lost_at_place c.args.ticket c.place_of-place.result c.self.inside.table.places.items c.self.inside.slots.items c.take_at.new.slots.items
    c.place_of-place.ensures c.self.invariant.ascend c.take_at.ensures.others c.take_at.ensures.gone)
