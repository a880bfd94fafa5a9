use Rattle.std.proofs.Common.{◌∙◌, ap, Option, ℕ}
use Rattle.stm_events.specs.Ready.{next_ready}
use Rattle.stm_desk.specs.DeskView.{state_of}
use Rattle.stm_desk.specs.WorkOrders.{unless_below}
use Rattle.stm_desk.proofs.WorkOrders.{if_lower, due_below}
use Rattle.stm_desk.proofs.desk.Desk.next_due_below.Goals as goal

pub returns-in-Some-clause-first : goal.returns-in-Some-clause-first
returns-in-Some-clause-first c =
    let s = state_of c.args.self.now in
    c.unless_below.ensures ∙ ap (unless_below c.in-Some.due) c.next_ready.ensures
    ∙ ap (λ (o : Option ℕ). if_lower o (next_ready 0 s)) c.in-Some.ensures.first
    ∙ due_below s c.in-Some.ensures.possible

pub returns-in-None-clause-first : goal.returns-in-None-clause-first
returns-in-None-clause-first c =
    let s = state_of c.args.self.now in
    ap (λ (o : Option ℕ). if_lower o (next_ready 0 s)) c.in-None.ensures.first ∙ due_below s c.in-None.ensures.possible
