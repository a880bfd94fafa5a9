use Rattle.std.proofs.Common.{◌≡◌, ℕ, Bool, None, IfOk, sym, ap, subst}
use Rattle.std.specs.Prelude.{option_map}
use Rattle.stm_events.specs.declared.errors.SubmitError.TheVariants.{NoMemory}
use Rattle.stm_events.specs.declared.event.What.TheVariants.{Submitted}
use Rattle.stm_events.specs.Refusals.{submit_refused}
use Rattle.stm_events.specs.SlowDesk.{Slow}
use Rattle.stm_machine.specs.Machine.{IsAt}
use Rattle.stm_history.specs.declared.explanation.CallRefusal.TheVariants.{Submission}
use Rattle.stm_history.specs.Expecting.{IsDueOn}
use Rattle.stm_history.proofs.AllowedEvents.{not_refused, refused_for}
use Rattle.stm_history.proofs.DueEvents.{refused_due}
use Rattle.stm_history.proofs.expecting.submission.Goals as goal

pub submit_next-requires : goal.submit_next-requires
submit_next-requires c =
    let here = c.requires in
    let room = c.in-Ok.ensures.room in
    (here.0, here.1, here.2 room, subst (λ (full : Bool). submit_refused here.0 full c.args.block.now ≡ None) room (not_refused NoMemory _ _ (c.in-Ok.ensures.refused here.0 here.1)))

pub returns-in-Ok : goal.returns-in-Ok
returns-in-Ok c =
    subst (λ (full : Bool). IfOk c.submit_next.result (λ x. (s : Slow) (t : ℕ) → IsAt c.args.machine.now s → IsDueOn s full (Submitted t c.args.block.now) x)) (sym c.in-Ok.ensures.room) c.submit_next.ensures

pub returns-in-Err : goal.returns-in-Err
returns-in-Err c = refused_due c.refused_submission.result _ _ c.refused_submission.ensures (λ n s t k. ap (option_map Submission) (refused_for _ NoMemory _ _ (c.in-Err.ensures.refused s k) n))
