use Rattle.std.proofs.Common.{◌≡◌, ◌++◌, map, vec_len, vec_capacity}
use Rattle.std.specs.Vec.Iter.{into_iter_items}
use Rattle.stm_jobs.specs.Slots.{todo}
use Rattle.stm_jobs.proofs.slot.slots_of.Given as goal

abbrev pub invariant-loop-job : goal.invariant-loop-job
invariant-loop-job l =
    (l.slots.items ≡ map todo l.yielded) × (vec_capacity l.slots ≡ vec_len l.fn.jobs) × (l.fn.jobs.items ≡ l.yielded ++ into_iter_items l.job-iterator)
