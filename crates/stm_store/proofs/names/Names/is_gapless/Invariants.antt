use Rattle.std.proofs.Common.{◌≡◌, drop}
use Rattle.stm_store.specs.Naming.{is_gapless, is_gapless_from}
use Rattle.stm_store.proofs.names.Names.is_gapless.Given as goal

abbrev pub invariant-loop-place : goal.invariant-loop-place
invariant-loop-place l = is_gapless_from l.place (drop l.place l.self) ≡ is_gapless l.self
