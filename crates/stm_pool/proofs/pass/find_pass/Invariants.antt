use Rattle.std.proofs.Common.{◌≡◌, drop}
use Rattle.stm_pool.specs.Closing.{pass_of}
use Rattle.stm_pool.proofs.pass.find_pass.Given as goal

-- what is left decides
abbrev pub invariant-loop-pass : goal.invariant-loop-pass
invariant-loop-pass g l = pass_of l.client (drop l.pass-index l.passes) ≡ pass_of l.client l.passes
