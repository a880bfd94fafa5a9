use Rattle.std.proofs.Common.{◌≡◌, Bool, false, subst}
use Rattle.std.specs.Prelude.{Result, Ok, Err, IfOk, OnOk}
use Rattle.stm_terms.specs.UnlessNoMemory.{RefusedAs}
use Rattle.stm_events.specs.declared.errors.FinishError.{FinishError}
use Rattle.stm_events.specs.declared.errors.FinishError.TheVariants.{NoMemory}
use Rattle.stm_events.specs.Refusals.{finish_refused}
use Rattle.stm_events.specs.SlowDesk.{Slow}
use Rattle.stm_machine.specs.declared.finish.Plan.{Plan}
use Rattle.stm_machine.specs.Machine.{Parts, IsAt}
use Rattle.stm_machine.specs.Plans.{IsPlan}
use Rattle.stm_desk.specs.DeskView.{DeskView, state_of, is_full}
use Rattle.stm_desk.proofs.Views.{view_of}
use Rattle.stm_desk.proofs.desk.Desk.plan.Goals as goal

at_state : (r : Result Plan FinishError) (m : Parts) (s : Slow) (t : _) → IsAt m s → IfOk r (λ p. (s : Slow) → IsAt m s → IsPlan s t p.verdict p.first_new p.stale) → IfOk r (λ p. IsPlan s t p.verdict p.first_new p.stale)
at_state (Ok p) m s t k h = h s k
at_state (Err e) m s t k h = tt

pub returns-clause-refused : goal.returns-clause-refused
returns-clause-refused c =
    let r = c.plan.result in
    let t = c.args.ticket in
    let here = c.plan.ensures.refused (state_of (view_of c.self.inside)) c.self.invariant.0.at in
    subst (λ (d : DeskView). RefusedAs NoMemory (finish_refused (state_of d) (is_full c.args.self.now) t) r) c.self.view_is
    (subst (λ (full : Bool). RefusedAs NoMemory (finish_refused (state_of (view_of c.self.inside)) full t) r) c.is_full-full.ensures here)

pub returns-clause-plan : goal.returns-clause-plan
returns-clause-plan c =
    let t = c.args.ticket in
    subst (λ (d : DeskView). IfOk c.plan.result (λ p. IsPlan (state_of d) t p.verdict p.first_new p.stale)) c.self.view_is
    (at_state c.plan.result c.self.inside.machine (state_of (view_of c.self.inside)) t c.self.invariant.0.at c.plan.ensures.plan)

pub returns-clause-room : goal.returns-clause-room
returns-clause-room c = subst (λ (full : Bool). OnOk c.plan.result (full ≡ false)) c.is_full-full.ensures c.plan.ensures.room
