use Rattle.std.proofs.Common.{◌≡◌, refl, rules}
use Rattle.stm_terms.specs.declared.values.Fault.TheVariants.{Thrown}
use Rattle.stm_eval.specs.declared.outcome.Outcome.TheVariants.{Threw}
use Rattle.stm_eval.proofs.interpreter.after_action.Goals as goal

-- the handler goes on with the number, and the frame is gone
pub returns-in_ok-push-in-Threw-Thrown-clause-goes_on : goal.returns-in_ok-push-in-Threw-Thrown-clause-goes_on
returns-in_ok-push-in-Threw-Thrown-clause-goes_on c =
    let threw : c.args.end ≡ Threw (Thrown c.in-Threw-Thrown.n) = search rules in
    rw threw (refl, search rules, (c.discard.ensures.frames, c.discard.ensures.reads))
