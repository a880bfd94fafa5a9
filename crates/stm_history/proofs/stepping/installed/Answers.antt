use Rattle.std.proofs.Common.{◌≡◌, ℕ, OnOk, sym, subst, ◌∙◌}
use Rattle.stm_eval.specs.EvaluatedFields.{message_ticket}
use Rattle.stm_events.specs.declared.event.What.TheVariants.{Installed}
use Rattle.stm_machine.specs.Machine.{MovesBy}
use Rattle.stm_history.proofs.AllowedEvents.{block_waits, map_none}
use Rattle.stm_history.proofs.stepping.installed.Goals as goal

pub returns-then-is_none-clause-not_allowed : goal.returns-then-is_none-clause-not_allowed
returns-then-is_none-clause-not_allowed c = λ n s k a.
    let there = c.block.ensures s k in
    block_waits s c.args.ticket c.args.verdict.now a (sym there ∙ map_none _ c.block.result c.if-is_none.ensures)

pub returns-in-Ok-clause-done : goal.returns-in-Ok-clause-done
returns-in-Ok-clause-done c =
    let here = c.requires.at in
    let same : message_ticket c.in-Ok.message ≡ c.args.ticket = (c.in-Ok.ensures here.0 here.1).ticket in
    subst (λ (t : ℕ). OnOk c.deliver_message.result (MovesBy (Installed t c.args.verdict.now) c.args.machine.now c.deliver_message.new.machine)) same c.deliver_message.ensures.done
