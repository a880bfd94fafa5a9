-- What running a block atomically is to do, made before its first change.
use Rattle.std.specs.Prelude.{◌≡◌, ℕ, ◌+◌, ◌≤◌, true, false, List, [], ◌∷◌, Some, None, length}
use Rattle.stm_terms.specs.declared.values.Value.{Value}
use Rattle.stm_terms.specs.declared.verdicts.Verdict.{Verdict}
use Rattle.stm_terms.specs.ReadSet.{reads_of}
use Rattle.stm_store.specs.Cells.{plains, Fits, made_by}
use Rattle.stm_check.specs.TypedBlock.{Block}
use Rattle.stm_events.specs.declared.event.What.{What}
use Rattle.stm_events.specs.declared.event.What.TheVariants.{Submitted, Installed}
use Rattle.stm_events.specs.Refusals.{overflows, submit_refused}
use Rattle.stm_events.specs.SlowAtomically.{AllowsEach}
use Rattle.stm_events.specs.SlowDesk.{Slow, under, verdict_on, waking, is_blocks, stale_after, max_cells}
use Rattle.stm_events.specs.SlowDrain.{after_all}
use Rattle.stm_machine.specs.declared.finish.Plan.{Plan}
use Rattle.stm_machine.specs.Machine.{Parts, IsAt, HasTicketLeft}
use Rattle.stm_machine.specs.Plans.{finish_by}

-- on the present store the block has this verdict, which fits it, and reads this
pub record IsVerdictOf (s : Slow) (block : Block) (v : Verdict) (reads : List (ℕ × Value)) : Type 0 where
  pub verdict : verdict_on s.store block ≡ Some v
  pub fits : Fits (plains s.store) v
  pub reads_are : reads ≡ reads_of (under s.store) block.tree

-- the block may be submitted, and has this verdict, which blocks: so it may wait, current from the start
pub record MayWaitCurrent (s : Slow) (block : Block) (v : Verdict) (reads : List (ℕ × Value)) : Type 0 where
  -- it gets a ticket
  pub ticket : HasTicketLeft s
  -- nothing refuses it
  pub may : submit_refused s false block ≡ None
  -- its verdict on the present store, and what it reads there
  pub verdict_of : IsVerdictOf s block v reads
  -- it can't finish
  pub blocks : is_blocks v ≡ true

-- a block that doesn't wait yet may end by this verdict, with this first new variable and these stale tickets
pub record IsRunPlan (s : Slow) (verdict : Verdict) (first_new : ℕ) (stale : List ℕ) : Type 0 where
  pub fits : Fits (plains s.store) verdict
  pub ends : is_blocks verdict ≡ false
  pub first_new_is : first_new ≡ length s.store
  pub room : length s.store + length (made_by verdict) ≤ max_cells
  pub listed : stale ≡ stale_after (waking s.rule s.store verdict) s.waiters

-- a block that doesn't wait yet may end by this plan
abbrev pub IsRunPlanFor : Slow → Plan → Type 0
IsRunPlanFor s p = IsRunPlan s p.verdict p.first_new p.stale

-- at each state that the machine is at, a block may end so by this verdict, if the verdict fits the store, doesn't block, and its new
-- variables have room
abbrev pub PlansRun : Parts → Verdict → ℕ → List ℕ → Type 0
PlansRun m v first_new stale =
    (s : Slow) → IsAt m s → Fits (plains s.store) v → is_blocks v ≡ false → overflows s.store (Some v) ≡ false → IsRunPlan s v first_new stale

-- so may a block of this verdict by this plan
abbrev pub PlansRunBy : Parts → Verdict → Plan → Type 0
PlansRunBy m v p = PlansRun m v p.first_new p.stale

-- a block is submitted under a ticket, and evaluated to this verdict
abbrev pub submitted_current : ℕ → Block → Verdict → List What
submitted_current t block v = Submitted t block ∷ Installed t v ∷ []

-- a block is submitted under a ticket, evaluated to the verdict of a plan, and finished by the plan
abbrev pub run_whole : ℕ → Block → Plan → List What
run_whole t block p = Submitted t block ∷ Installed t p.verdict ∷ finish_by t p ∷ []

-- each of these in its turn is allowed on the state, and the machine is at the state after them
abbrev pub PassesThrough : Slow → List What → Parts → Type 0
PassesThrough s whats new = AllowsEach s whats × IsAt new (after_all s whats)

-- each of these in its turn is allowed on each state that the machine is at, and they take the machine to the state after them
abbrev pub MovesThrough : List What → Parts → Parts → Type 0
MovesThrough whats old new = (s : Slow) → IsAt old s → PassesThrough s whats new

-- whichever block that may be submitted has the verdict of this plan: it is submitted, evaluated and finished by the plan
abbrev pub RunsBlocksBy : Plan → Parts → Parts → Type 0
RunsBlocksBy p old new =
    (s : Slow) (block : Block) → IsAt old s → submit_refused s false block ≡ None → verdict_on s.store block ≡ Some p.verdict
    → PassesThrough s (run_whole s.next block p) new
