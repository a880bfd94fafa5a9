use Rattle.std.proofs.Common.{◌≡◌, ◌<◌, ℕ, true}
use Rattle.std.specs.Prelude.{is_some}
use Rattle.stm_pool.specs.Closing.{pass_of}
use Rattle.stm_pool.proofs.pass.lacks_one.Given as goal

abbrev pub invariant-loop-client : goal.invariant-loop-client
invariant-loop-client g l = (c : ℕ) → c < l.client → is_some (pass_of c l.passes) ≡ true
