use Rattle.std.proofs.Common.{◌∙◌, List, Some, sym, ap, subst}
use Rattle.stm_store.specs.declared.cell.Cell.{Cell}
use Rattle.stm_events.specs.Refusals.{overflows}
use Rattle.stm_machine.specs.Machine.{Parts, IsAt}
use Rattle.stm_machine.proofs.machine.Machine.overflows.Goals as goal

pub returns : goal.returns
returns c = λ s h.
    let k = subst (λ (m : Parts). IsAt m s) (sym c.self.view_is) h in
    c.overflows_store.ensures ∙ ap (λ (z : List Cell). overflows z (Some c.args.verdict.now)) k.stands.store_is
