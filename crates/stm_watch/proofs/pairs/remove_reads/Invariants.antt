use Rattle.std.proofs.Common.{◌≡◌, ℕ, drop}
use Rattle.std.specs.Prelude.{◌&&◌, not, nat_eq}
use Rattle.stm_watch.specs.Pairs.{is_read}
use Rattle.stm_watch.specs.Tabled.{holds}
use Rattle.stm_watch.proofs.pairs.remove_reads.Given as goal

abbrev pub invariant-loop-variable : goal.invariant-loop-variable
invariant-loop-variable l = (v t : ℕ) → (holds l.table v t && not (nat_eq t l.ticket && is_read (drop l.variable-index l.reads) v)) ≡ (holds l.fn.table v t && not (nat_eq t l.ticket && is_read l.reads v))
