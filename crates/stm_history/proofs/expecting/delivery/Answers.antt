use Rattle.std.proofs.Common.{◌≡◌, ℕ, IfOk, sym, ap, subst, ◌∙◌}
use Rattle.std.specs.Prelude.{option_map}
use Rattle.stm_terms.specs.declared.verdicts.Verdict.{Verdict}
use Rattle.stm_eval.specs.EvaluatedFields.{message_ticket}
use Rattle.stm_events.specs.declared.event.What.TheVariants.{Installed}
use Rattle.stm_events.specs.SlowDesk.{Slow}
use Rattle.stm_machine.specs.Machine.{IsAt}
use Rattle.stm_history.specs.declared.explanation.CallRefusal.TheVariants.{Delivery}
use Rattle.stm_history.specs.Expecting.{IsDueOn}
use Rattle.stm_history.proofs.AllowedEvents.{map_none}
use Rattle.stm_history.proofs.DueEvents.{refused_due, none_gone}
use Rattle.stm_history.proofs.expecting.delivery.Goals as goal

pub returns-then-is_none : goal.returns-then-is_none
returns-then-is_none c =
    refused_due c.refused_delivery.result _ _ c.refused_delivery.ensures
    (λ n s v k. ap (option_map Delivery) (none_gone s c.args.full c.args.ticket (sym (c.block.ensures s k) ∙ map_none _ c.block.result c.if-is_none.ensures)))

pub returns-in-Ok : goal.returns-in-Ok
returns-in-Ok c =
    let here = c.requires in
    let same : message_ticket c.in-Ok.message ≡ c.args.ticket = (c.in-Ok.ensures here.0 here.1).ticket in
    subst (λ (t : ℕ). IfOk c.message_due.result (λ x. (s : Slow) (v : Verdict) → IsAt c.args.machine.now s → IsDueOn s c.args.full (Installed t v) x)) same c.message_due.ensures
