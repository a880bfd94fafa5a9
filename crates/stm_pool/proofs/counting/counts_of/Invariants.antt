use Rattle.std.proofs.Common.{◌≡◌, ◌<◌, ℕ, vec_len, slice_index_or}
use Rattle.std.specs.Prelude.{IfSome}
use Rattle.stm_pool.specs.Closing.{pass_of}
use Rattle.stm_pool.specs.Storms.{CountsEvents}
use Rattle.stm_pool.proofs.counting.counts_of.Given as goal

abbrev pub invariant-loop-k : goal.invariant-loop-k
invariant-loop-k g l =
    (vec_len l.all ≡ l.k) × ((j : ℕ) (d : _) → j < l.k → IfSome (pass_of j l.passes) (λ p. CountsEvents p.own (slice_index_or l.all.items j d)))
