use Rattle.std.proofs.Common.{◌≡◌, drop}
use Rattle.stm_terms.specs.Changes.{find}
use Rattle.stm_desk.proofs.why.value_left.Given as goal

-- none of the values so far is the variable's
abbrev pub invariant-loop-one : goal.invariant-loop-one
invariant-loop-one l = find l.variable (drop l.one-index l.left) ≡ find l.variable l.left
