use Rattle.std.proofs.Common.{◌≡◌, ◌↔◌, drop}
use Rattle.stm_pool.specs.Own.{own_of}
use Rattle.stm_pool.proofs.pass.is_own.Given as goal

-- what is left to compare decides
abbrev pub invariant-loop-event : goal.invariant-loop-event
invariant-loop-event l = (own_of l.client l.history ≡ l.own) ↔ (own_of l.client (drop l.event-index l.history) ≡ l.left)
