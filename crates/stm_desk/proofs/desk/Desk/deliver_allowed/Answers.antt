use Rattle.std.proofs.Common.{◌≡◌, List, [], ◌∷◌, ◌++◌, false, refl, rules, sym, subst}
use Rattle.stm_events.specs.declared.event.Event.{Event}
use Rattle.stm_machine.specs.Machine.{MayDeliver, event, installation_of}
use Rattle.stm_desk.specs.Kept.{DeskInvariant, HasLabels}
use Rattle.stm_desk.specs.DeskView.{DeskView, state_of, is_full}
use Rattle.stm_events.specs.SlowDesk.{state_from}
use Rattle.stm_machine.specs.Checkpoints.{start_of}
use Rattle.stm_desk.proofs.Calls.{kept_move}
use Rattle.stm_desk.proofs.Labels.{labels_stay}
use Rattle.stm_desk.proofs.desk.Desk.deliver_allowed.Goals as goal

pub deliver-requires : goal.deliver-requires
deliver-requires c =
    let may = subst (λ (d : DeskView). MayDeliver (state_of d) c.args.message) (sym c.self.view_is) c.requires.allowed in
    (state_from (start_of c.self.inside.table c.self.inside.checkpoint) c.self.inside.history.items, c.self.invariant.0.at, may)

pub invariant_of-self-in-Ok-deliver : goal.invariant_of-self-in-Ok-deliver
invariant_of-self-in-Ok-deliver c =
    let m = c.args.message in
    let r = subst (λ (d : DeskView). is_full d ≡ false) (sym c.self.view_is) c.requires.room in
    let is : c.push_reserved.new.self.items ≡ c.self.inside.history.items ++ event c.args.client (installation_of m) ∷ [] = search rules in
    subst (λ (es : List Event). DeskInvariant c.self.inside.table c.self.inside.checkpoint c.self.inside.limit es c.deliver.new.self × HasLabels c.self.inside.checkpoint es c.self.inside.labels) (sym is) (
      kept_move _ _ _ _ _ c.self.invariant.0 c.args.client (installation_of m) c.deliver.new.self c.requires.client r tt c.in-Ok-deliver.ensures.moves.0,
      labels_stay _ _ _ c.self.invariant.1 c.args.client (installation_of m) refl,
    )
