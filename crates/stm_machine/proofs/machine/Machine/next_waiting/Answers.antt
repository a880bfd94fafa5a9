use Rattle.std.proofs.Common.{◌∙◌, sym, subst}
use Rattle.stm_machine.proofs.Reading.{above_due}
use Rattle.stm_machine.specs.Machine.{Parts, IsAt}
use Rattle.stm_machine.proofs.machine.Machine.next_waiting.Goals as goal

pub returns : goal.returns
returns c = λ s h.
    let k = subst (λ (m : Parts). IsAt m s) (sym c.self.view_is) h in
    c.first_above.ensures ∙ above_due c.args.after c.self.inside.waiting _ k.stands.entries_are
