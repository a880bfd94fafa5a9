use Rattle.std.proofs.Common.{◌≡◌, ℕ, drop}
use Rattle.std.specs.Prelude.{◌||◌, nat_eq}
use Rattle.std.specs.List.{list_any}
use Rattle.stm_watch.specs.Tabled.{holds}
use Rattle.stm_watch.proofs.pairs.push_watchers.Given as goal

abbrev pub invariant-loop-variable : goal.invariant-loop-variable
invariant-loop-variable l = (t : ℕ) → (list_any (nat_eq t) l.tickets.items || list_any (λ v. holds l.table v t) (drop l.variable-index l.variables)) ≡ (list_any (nat_eq t) l.fn.tickets.items || list_any (λ v. holds l.table v t) l.variables)
