use Rattle.std.proofs.Common.{◌≡◌, ◌++◌, map, filter, drop}
use Rattle.std.specs.Prelude.{slice_get}
use Rattle.stm_store.specs.Cells.{changes_value}
use Rattle.stm_store.proofs.changed_variables.push_changed.Given as goal

abbrev pub invariant-loop-variable : goal.invariant-loop-variable
invariant-loop-variable l =
    l.changed.items ++ map (λ w. w.0) (filter (λ w. changes_value l.len (slice_get l.cells w.0) w.1) (drop l.variable-index l.writes))
    ≡ l.fn.changed.items ++ map (λ w. w.0) (filter (λ w. changes_value l.len (slice_get l.cells w.0) w.1) l.writes)
