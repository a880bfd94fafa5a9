use Rattle.std.proofs.Common.{◌≡◌, ◌++◌, map, drop}
use Rattle.stm_machine.proofs.index.push_variables.Given as goal

abbrev pub invariant-loop-variable : goal.invariant-loop-variable
invariant-loop-variable l = l.variables.items ++ map (λ w. w.0) (drop l.variable-index l.writes) ≡ l.fn.variables.items ++ map (λ w. w.0) l.writes
