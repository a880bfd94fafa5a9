-- What contracts see of the fields of a desk, and what a call asks of the desk, said of its fields.
use Rattle.std.proofs.Common.{◌≡◌, ℕ, false, sym, ap, subst, ◌∙◌}
use Rattle.stm_machine.specs.Checkpoints.{CheckpointView}
use Rattle.stm_desk.specs.declared.desk.Desk.TheInside.{Inside}
use Rattle.stm_desk.specs.DeskView.{DeskView, is_full, lacks_room}
use Rattle.stm_desk.specs.Checkpointed.{checkpoint_now}

abbrev pub view_of : Inside → DeskView
view_of d = record { table = d.table; checkpoint = d.checkpoint; limit = d.limit; history = d.history.items; pending = d.machine.pending }

pub room_of : {d e : DeskView} → d ≡ e → is_full e ≡ false → is_full d ≡ false
room_of e room = subst (λ (x : DeskView). is_full x ≡ false) (sym e) room

pub room_for : (n : ℕ) {d e : DeskView} → d ≡ e → lacks_room e n ≡ false → lacks_room d n ≡ false
room_for n e room = subst (λ (x : DeskView). lacks_room x n ≡ false) (sym e) room

pub checkpoint_of_fields : {c : CheckpointView} {d e : DeskView} → d ≡ e → c ≡ checkpoint_now e → c ≡ checkpoint_now d
checkpoint_of_fields e is = is ∙ sym (ap checkpoint_now e)
