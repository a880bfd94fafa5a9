use Rattle.std.proofs.Common.{◌≡◌, ℕ, ◌||◌, drop}
use Rattle.std.specs.HashSet.{contains}
use Rattle.std.specs.Prelude.{nat_eq}
use Rattle.stm_desk.specs.Causes.{has_stale}
use Rattle.stm_desk.proofs.causes.stale_tickets.Given as goal

-- the tickets so far, with those of the blocks from here on
abbrev pub invariant-loop-block : goal.invariant-loop-block
invariant-loop-block l = (t : ℕ) → (contains nat_eq l.tickets t || has_stale t (drop l.block-index l.blocks)) ≡ has_stale t l.blocks
