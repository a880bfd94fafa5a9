use Rattle.std.proofs.Common.{◌+◌, List, take, rules, sym, ap, subst}
use Rattle.stm_events.specs.declared.event.Event.{Event}
use Rattle.stm_history.specs.Following.{Follows}
use Rattle.stm_history_text.specs.Starts.{table_start}
use Rattle.stm_history_text.proofs.TextInParts.{next_at}
use Rattle.stm_history.proofs.ReplayFaults.{refused_at}
use Rattle.stm_history.proofs.replaying.step_all.Goals as goal

pub step-requires : goal.step-requires
step-requires c = (table_start c.requires.0, take c.loop-event.event-index c.args.history.now, c.loop-event.invariant c.requires.0 c.requires.1)

pub returns-in-Err-NotAllowed-clause-fault : goal.returns-in-Err-NotAllowed-clause-fault
returns-in-Err-NotAllowed-clause-fault c = λ T h.
    let k = c.loop-event.invariant T h in
    let front = take c.loop-event.event-index c.args.history.now in
    refused_at T c.args.history.now c.loop-event.event-index _ c.event-item.result (search rules) c.event-item.is k.legal (c.in-Err-NotAllowed.ensures.not_allowed (search rules) (table_start T) front k) (ap (λ n. n + 1) k.counted)

pub loop-event-preserved : goal.loop-event-preserved
loop-event-preserved c = λ T h.
    let i = c.loop-event.event-index in
    let more = next_at c.args.history.now i c.event-item.result (search rules) c.event-item.is in
    subst (λ (H : List Event). Follows (table_start T) H c.step.new.self) (sym more) (c.in-Ok.ensures.done (table_start T) (take i c.args.history.now) (c.loop-event.invariant T h))
