use Rattle.std.proofs.Common.{◌≡◌, Bool, false, subst}
use Rattle.std.specs.Prelude.{Result, Ok, Err, OnOk}
use Rattle.stm_eval.specs.EvaluatedFields.{message_ticket, message_block, message_reads}
use Rattle.stm_eval.specs.declared.message.Evaluated.{Evaluated}
use Rattle.stm_events.specs.Refusals.{DeliveryRefusedAs}
use Rattle.stm_events.specs.SlowDesk.{Slow}
use Rattle.stm_machine.specs.Machine.{Parts, IsAt, MayDeliver}
use Rattle.stm_desk.specs.DeskView.{DeskView, state_of, is_full}
use Rattle.stm_desk.proofs.Views.{view_of}
use Rattle.stm_desk.proofs.desk.Desk.may_deliver.Goals as goal

at_state : {A E : Type 0} (r : Result A E) (m : Parts) (s : Slow) (message : Evaluated) → IsAt m s → OnOk r ((s : Slow) → IsAt m s → MayDeliver s message) → OnOk r (MayDeliver s message)
at_state (Ok x) m s message k h = h s k
at_state (Err e) m s message k h = tt

pub returns-clause-refused : goal.returns-clause-refused
returns-clause-refused c =
    let r = c.may_deliver.result in
    let m = c.args.message.now in
    let here = c.may_deliver.ensures.refused (state_of (view_of c.self.inside)) c.self.invariant.0.at in
    subst (λ (d : DeskView). DeliveryRefusedAs (state_of d) (is_full c.args.self.now) (message_ticket m) (message_block m) (message_reads m) r) c.self.view_is
    (subst (λ (full : Bool). DeliveryRefusedAs (state_of (view_of c.self.inside)) full (message_ticket m) (message_block m) (message_reads m) r) c.is_full-full.ensures here)

pub returns-clause-allowed : goal.returns-clause-allowed
returns-clause-allowed c =
    let m = c.args.message.now in
    subst (λ (d : DeskView). OnOk c.may_deliver.result (MayDeliver (state_of d) m)) c.self.view_is
    (at_state c.may_deliver.result c.self.inside.machine (state_of (view_of c.self.inside)) m c.self.invariant.0.at c.may_deliver.ensures.allowed)

pub returns-clause-room : goal.returns-clause-room
returns-clause-room c = subst (λ (full : Bool). OnOk c.may_deliver.result (full ≡ false)) c.is_full-full.ensures c.may_deliver.ensures.room
