-- What a storm's counts are made from.
use Rattle.std.specs.Prelude.{ℕ, ◌<◌, List, length, slice_index_or, IfSome}
use Rattle.stm_pool.specs.declared.storm.Counts.{Counts}
use Rattle.stm_pool.specs.Own.{Known}
use Rattle.stm_pool.specs.Closing.{pass_of}
use Rattle.stm_pool.specs.Storms.{CountsEvents}

-- each of the counts is that of the events of its client's pass, if the client has one
abbrev pub CountsPasses : List Known → List Counts → Type 0
CountsPasses passes counts =
    (k : ℕ) (d : Counts) → k < length counts
    → IfSome (pass_of k passes) (λ p. CountsEvents p.own (slice_index_or counts k d))
