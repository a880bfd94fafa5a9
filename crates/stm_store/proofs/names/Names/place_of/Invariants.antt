use Rattle.std.proofs.Common.{◌≡◌, ℕ, ◌<◌, ◌≤◌, ◌-◌, Some, length}
use Rattle.std.specs.Prelude.{slice_get}
use Rattle.stm_store.specs.Naming.{Named}
use Rattle.stm_store.proofs.names.Names.place_of.Given as goal

-- the number is among what is left, if anywhere
abbrev pub invariant-loop-low : goal.invariant-loop-low
invariant-loop-low l = record {
  within : l.high ≤ length l.self;
  before : (i : ℕ) (d : Named) → slice_get l.self i ≡ Some d → i < l.low → d.number < l.number;
  after : (i : ℕ) (d : Named) → slice_get l.self i ≡ Some d → l.high ≤ i → l.number < d.number;
}

abbrev pub decreases-loop-low : goal.decreases-loop-low
decreases-loop-low l = l.high - l.low
