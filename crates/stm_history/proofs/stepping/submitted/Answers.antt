use Rattle.std.proofs.Common.{false, ap, sym, ◌∙◌}
use Rattle.stm_events.specs.declared.errors.SubmitError.TheVariants.{NoMemory}
use Rattle.stm_events.specs.Refusals.{submit_refused}
use Rattle.stm_history.proofs.AllowedIsNotRefused.{submit_not_refused}
use Rattle.stm_history.proofs.AllowedEvents.{only_memory, not_refused, submit_moves}
use Rattle.stm_history.proofs.stepping.submitted.Goals as goal

pub submit-requires : goal.submit-requires
submit-requires c =
    let here = c.requires in
    (here.0, here.1, here.2, ap (submit_refused here.0 false) c.in_ok-block.ensures ∙ not_refused NoMemory _ _ (c.in-Ok.ensures.refused here.0 here.1))

pub returns-in-Err-clause-not_allowed : goal.returns-in-Err-clause-not_allowed
returns-in-Err-clause-not_allowed c = λ n s k a.
    let memory = c.submit_refused.ensures (only_memory _ NoMemory _ _ (submit_not_refused s c.args.ticket c.args.block.now a) (c.in-Err.ensures.refused s k)) in
    cc

pub returns-then-given-ticket-clause-done : goal.returns-then-given-ticket-clause-done
returns-then-given-ticket-clause-done c = submit_moves c.in_ok-given.given c.args.ticket c.in_ok-block.block c.args.block.now _ _ c.in_ok-given.ensures.done c.if-given-ticket.true c.in_ok-block.ensures

pub returns-else-given-ticket-clause-not_allowed : goal.returns-else-given-ticket-clause-not_allowed
returns-else-given-ticket-clause-not_allowed c = λ n s k a. c.if-given-ticket.false ((c.in_ok-given.ensures.done s k).0.0 ∙ sym a.0)
