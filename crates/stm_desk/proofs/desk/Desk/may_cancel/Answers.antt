use Rattle.std.proofs.Common.{◌≡◌, Bool, false, subst}
use Rattle.std.specs.Prelude.{OnOk}
use Rattle.stm_terms.specs.UnlessNoMemory.{RefusedAs}
use Rattle.stm_events.specs.declared.errors.CancelError.TheVariants.{NoMemory}
use Rattle.stm_events.specs.Refusals.{cancel_refused}
use Rattle.stm_desk.specs.DeskView.{DeskView, state_of, is_full}
use Rattle.stm_desk.proofs.Views.{view_of}
use Rattle.stm_desk.proofs.desk.Desk.may_cancel.Goals as goal

pub returns-clause-refused : goal.returns-clause-refused
returns-clause-refused c =
    let r = c.may_cancel.result in
    let here = c.may_cancel.ensures.refused (state_of (view_of c.self.inside)) c.self.invariant.0.at in
    subst (λ (d : DeskView). RefusedAs NoMemory (cancel_refused (state_of d) (is_full c.args.self.now) c.args.ticket) r) c.self.view_is
    (subst (λ (full : Bool). RefusedAs NoMemory (cancel_refused (state_of (view_of c.self.inside)) full c.args.ticket) r) c.is_full-full.ensures here)

pub returns-clause-room : goal.returns-clause-room
returns-clause-room c = subst (λ (full : Bool). OnOk c.may_cancel.result (full ≡ false)) c.is_full-full.ensures c.may_cancel.ensures.room
