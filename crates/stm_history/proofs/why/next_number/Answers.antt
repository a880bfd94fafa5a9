use Rattle.std.proofs.Common.{refl, sym, ap, subst, ◌∙◌}
use Rattle.stm_history.specs.declared.check.Stage.{Stage}
use Rattle.stm_history.specs.Explanation.{line_after}
use Rattle.stm_history.specs.Stages.{IsStage}
use Rattle.stm_history.proofs.why.next_number.Goals as goal

pub returns-in-Running : goal.returns-in-Running
returns-in-Running c = λ p i.
    let w = c.in-Running in
    let j = subst (λ (s : Stage). IsStage s p) w.is i in
    c.line_number.ensures (record { format = w.format; table = w.table; checkpoint = w.checkpoint }) j.0 refl refl j.2 ∙ sym (ap line_after j.1)
