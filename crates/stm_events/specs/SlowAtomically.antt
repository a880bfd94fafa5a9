-- A transaction at once on the slow desk: a block is submitted, its ticket alone is run and installed, and it is finished unless it
-- blocks. What waits already stays as it is, queued, out or stale, but for what the finish makes stale.
use Rattle.std.specs.Prelude.{ℕ, if◌then◌else◌, List, [], ◌∷◌, length, Option, Some, None}
use Rattle.stm_terms.specs.declared.verdicts.Verdict.{Verdict}
use Rattle.stm_check.specs.TypedBlock.{Block}
use Rattle.stm_events.specs.declared.event.What.{What}
use Rattle.stm_events.specs.declared.event.What.TheVariants.{Submitted, Installed, Finished}
use Rattle.stm_events.specs.SlowDesk.{Slow, verdict_on, waking, is_blocks, without_waiter, stale_after, after, Allows}

-- the block under a ticket is finished by its verdict, unless it blocks
abbrev pub finish_at_once : Slow → ℕ → Verdict → List What
finish_at_once s t v =
    if is_blocks v then []
    else Finished t v (length s.store) (stale_after (waking s.rule s.store v) (without_waiter t s.waiters)) ∷ []

-- its verdict is installed, if it has one, and then it is finished
abbrev pub install_at_once : Slow → ℕ → Option Verdict → List What
install_at_once s t None = []
install_at_once s t (Some v) = Installed t v ∷ finish_at_once (after s (Installed t v)) t v

-- what running a block atomically does: it is submitted, its verdict on the store is installed, and it is finished unless it blocks
abbrev pub atomically : Slow → Block → List What
atomically s block =
    Submitted s.next block ∷ install_at_once (after s (Submitted s.next block)) s.next (verdict_on s.store block)

-- each in its turn is allowed
abbrev pub AllowsEach : Slow → List What → Type 0
AllowsEach s [] = Unit {0}
AllowsEach s (x ∷ xs) = Allows s x × AllowsEach (after s x) xs
