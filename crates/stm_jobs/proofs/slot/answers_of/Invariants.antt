use Rattle.std.proofs.Common.{◌≡◌, ◌++◌, map, vec_len, vec_capacity}
use Rattle.std.specs.Vec.Iter.{into_iter_items}
use Rattle.stm_jobs.specs.Slots.{slot_of}
use Rattle.stm_jobs.proofs.slot.answers_of.Given as goal

abbrev pub invariant-loop-slot : goal.invariant-loop-slot
invariant-loop-slot l =
    (l.yielded ≡ map slot_of l.answers.items) × (vec_capacity l.answers ≡ vec_len l.fn.slots) × (l.fn.slots.items ≡ l.yielded ++ into_iter_items l.slot-iterator)
