use Rattle.std.proofs.Common.{◌∙◌, sym, subst}
use Rattle.stm_machine.specs.Machine.{Parts, IsAt}
use Rattle.stm_machine.proofs.Ready.{next_is_ready}
use Rattle.stm_machine.proofs.machine.Machine.next_ready.Goals as goal

pub returns : goal.returns
returns c = λ s h.
    let k = subst (λ (m : Parts). IsAt m s) (sym c.self.view_is) h in
    c.next_above.ensures.next ∙ next_is_ready _ s k _ c.next_above.ensures.rising c.self.invariant c.args.after
