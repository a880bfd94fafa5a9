use Rattle.std.proofs.Common.{◌∙◌, ◌≤◌, sym, subst, ℕ}
use Rattle.stm_terms.specs.Limits.{max_waiting}
use Rattle.stm_machine.specs.Machine.{Parts, IsAt}
use Rattle.stm_machine.proofs.KeptBlocksWait.{length_due}
use Rattle.stm_machine.proofs.States.{few_at}
use Rattle.stm_machine.proofs.machine.Machine.waiting.Goals as goal

pub returns-clause-waiting : goal.returns-clause-waiting
returns-clause-waiting c = λ s h.
    let k = subst (λ (m : Parts). IsAt m s) (sym c.self.view_is) h in
    c.len.ensures ∙ length_due _ _ k.stands.entries_are

pub returns-clause-few : goal.returns-clause-few
returns-clause-few c = λ s h. subst (λ (n : ℕ). n ≤ max_waiting) (sym (returns-clause-waiting c s h)) (few_at _ s h)
