use Rattle.std.proofs.Common.{sym, ◌∙◌}
use Rattle.stm_commands.proofs.DeskSteps.{handback_refused}
use Rattle.stm_commands.proofs.Growing.{kept_pending}
use Rattle.stm_commands.proofs.open_desk.OpenDesk.hand_back.Goals as goal

pub invariant_of-self : goal.invariant_of-self
invariant_of-self c = kept_pending _ _ _ _ _ c.hand_back.ensures.queued c.self.invariant

pub invariant_of-self-2 : goal.invariant_of-self-2
invariant_of-self-2 c = kept_pending _ _ _ _ _ c.hand_back.ensures.queued c.self.invariant

pub returns : goal.returns
returns c = rw (← c.self.view_is) (handback_refused _ _ _ _ _ _ c.refuse.result (sym c.hand_back.ensures.was ∙ c.if-hand_back.false) c.hand_back.ensures.queued c.refuse.ensures)
