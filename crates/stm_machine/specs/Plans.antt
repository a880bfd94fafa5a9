-- What a finish is to do, made before its first change.
use Rattle.std.specs.Prelude.{◌≡◌, ℕ, List, Some}
use Rattle.stm_terms.specs.declared.verdicts.Verdict.{Verdict}
use Rattle.stm_store.specs.Cells.{plains, Fits}
use Rattle.stm_events.specs.declared.event.What.{What}
use Rattle.stm_events.specs.declared.event.What.TheVariants.{Finished}
use Rattle.stm_events.specs.SlowDesk.{Waiter, Slow, MayFinish, find_waiter}
use Rattle.stm_machine.specs.declared.finish.Plan.{Plan}

-- the block under the ticket may finish with this verdict, which fits the store, with this first new variable and these stale
-- tickets
pub record IsPlan (s : Slow) (t : ℕ) (verdict : Verdict) (first_new : ℕ) (stale : List ℕ) : Type 0 where
  pub one : Waiter
  pub found : find_waiter t s.waiters ≡ Some one
  pub may : MayFinish s t one verdict first_new stale
  pub fits : Fits (plains s.store) verdict

-- the block under the ticket may finish by this plan
abbrev pub IsPlanFor : Slow → ℕ → Plan → Type 0
IsPlanFor s t p = IsPlan s t p.verdict p.first_new p.stale

-- the finish of the block under the ticket by this plan
abbrev pub finish_by : ℕ → Plan → What
finish_by t p = Finished t p.verdict p.first_new p.stale
