use Rattle.std.proofs.Common.{◌≡◌, drop}
use Rattle.stm_waiting.specs.Places.{entries_at, first_listed}
use Rattle.stm_waiting.proofs.table.first_used.Given as goal

abbrev pub invariant-loop-one : goal.invariant-loop-one
invariant-loop-one l = first_listed (entries_at (drop l.one-index l.places) l.slots) ≡ first_listed (entries_at l.fn.places l.fn.slots)
