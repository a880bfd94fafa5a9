use Rattle.std.proofs.Common.{List, subst, sym}
use Rattle.stm_events.specs.declared.event.Event.{Event}
use Rattle.stm_events.specs.SlowDesk.{IsLegal}
use Rattle.stm_storm.proofs.FailedReplays.{refused_is_illegal}
use Rattle.stm_storm.proofs.replaying.judge.Goals as goal

pub returns-in-Ok : goal.returns-in-Ok
returns-in-Ok c = (subst (λ (events : List Event). IsLegal c.args.table.now events) c.history.ensures.history c.in-Ok.ensures.0, c.requires)

pub returns-in-Err-NotLegal : goal.returns-in-Err-NotLegal
returns-in-Err-NotLegal c =
    let refuses = rw c.in-Err-NotLegal.field-0-is at c.in-Err-NotLegal.ensures in
    let illegal = refused_is_illegal _ _ _ refuses in
    (λ legal. illegal (subst (λ (events : List Event). IsLegal c.args.table.now events) (sym c.history.ensures.history) legal), c.requires)
