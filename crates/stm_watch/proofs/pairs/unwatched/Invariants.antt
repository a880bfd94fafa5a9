use Rattle.std.proofs.Common.{◌≡◌, ℕ, drop}
use Rattle.std.specs.Prelude.{◌&&◌, ◌||◌, not, nat_eq}
use Rattle.std.specs.List.{list_any}
use Rattle.stm_watch.specs.Pairs.{is_read}
use Rattle.stm_watch.specs.Tabled.{holds}
use Rattle.stm_watch.proofs.pairs.unwatched.Given as goal

abbrev pub invariant-loop-variable : goal.invariant-loop-variable
invariant-loop-variable l = (v : ℕ) → (list_any (nat_eq v) l.fresh.items || (is_read (drop l.variable-index l.reads) v && not (holds l.table v l.ticket))) ≡ (is_read l.reads v && not (holds l.table v l.ticket))
