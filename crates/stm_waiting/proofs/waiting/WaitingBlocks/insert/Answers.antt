use Rattle.std.proofs.Common.{◌≤◌, ◌<◌, ◌^◌, ◌≡◌, length, arith}
use Rattle.std.specs.Vec.{vec_len, vec_capacity}
use Rattle.stm_waiting.specs.Places.{entries_at}
use Rattle.stm_waiting.proofs.Placed.{added_at, kept_added, entries_length}
use Rattle.stm_waiting.proofs.waiting.WaitingBlocks.insert.Goals as goal

pub overflow_add-self : goal.overflow_add-self
overflow_add-self c =
    let places = c.self.inside.table.places in
    let n : c.self.inside.count ≡ length (entries_at places.items c.self.inside.slots.items) = c.self.invariant.counted in
    let few : length (entries_at places.items c.self.inside.slots.items) ≤ length places.items = entries_length places.items c.self.inside.slots.items in
    let long : vec_len places ≡ length places.items = places.ok.0 in
    let within : vec_len places ≤ vec_capacity places = places.ok.1 in
    let small : vec_capacity places < 2 ^ 63 = places.small in
    omega arith

pub invariant_of-self-2 : goal.invariant_of-self-2
invariant_of-self-2 c =
    let i = c.self.inside in
    let m = c.in_ok-make_room.ensures in
    kept_added c.args.ticket c.in_ok-place.place i.count _ i.blocks i.table.places.items c.make_room.new.self.places.items c.push.new.self.places.items i.slots.items c.put.new.slots.items c.args.self.now
    c.self.view_is (rw c.deref.ensures.value at m.same) c.push.ensures m.last m.ascend m.short c.in_ok-place.ensures.others c.in_ok-place.ensures.held c.self.invariant

pub returns-clause-done : goal.returns-clause-done
returns-clause-done c =
    let i = c.self.inside in
    let m = c.in_ok-make_room.ensures in
    added_at c.args.ticket c.in_ok-place.place _ i.table.places.items c.make_room.new.self.places.items c.push.new.self.places.items i.slots.items c.put.new.slots.items c.args.self.now
    c.self.view_is (rw c.deref.ensures.value at m.same) c.push.ensures m.last c.in_ok-place.ensures.others c.in_ok-place.ensures.held
