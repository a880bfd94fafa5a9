use Rattle.std.proofs.Common.{◌≡◌, List, [], ◌∷◌, ◌++◌, true, false, refl, rules, sym, subst}
use Rattle.stm_events.specs.declared.event.Event.{Event}
use Rattle.stm_events.specs.declared.event.What.TheVariants.{Installed}
use Rattle.stm_machine.specs.Keeping.{IsVerdictUnder}
use Rattle.stm_machine.specs.Machine.{event}
use Rattle.stm_machine.specs.QueueAndIndex.{due_of}
use Rattle.stm_events.specs.SlowDesk.{find_waiter, state_from}
use Rattle.stm_machine.specs.Checkpoints.{start_of}
use Rattle.stm_desk.specs.Kept.{DeskInvariant, HasLabels}
use Rattle.stm_desk.specs.DeskView.{DeskView, state_of, is_full}
use Rattle.stm_desk.proofs.Calls.{kept_move}
use Rattle.stm_desk.proofs.Labels.{labels_stay}
use Rattle.stm_desk.proofs.desk.Desk.keep_verdict.Goals as goal

pub keep-requires : goal.keep-requires
keep-requires c =
    let u = subst (λ (d : DeskView). due_of (find_waiter c.args.ticket (state_of d).waiters) ≡ true) (sym c.self.view_is) c.requires.due in
    let p = subst (λ (d : DeskView). IsVerdictUnder (state_of d) c.args.ticket c.args.verdict c.args.scratch.now) (sym c.self.view_is) c.requires.verdict in
    (state_from (start_of c.self.inside.table c.self.inside.checkpoint) c.self.inside.history.items, c.self.invariant.0.at, (u, p))

pub invariant_of-self-2 : goal.invariant_of-self-2
invariant_of-self-2 c =
    let r = subst (λ (d : DeskView). is_full d ≡ false) (sym c.self.view_is) c.requires.room in
    let is : c.push_reserved.new.self.items ≡ c.self.inside.history.items ++ event c.args.client (Installed c.args.ticket c.args.verdict) ∷ [] = search rules in
    subst (λ (es : List Event). DeskInvariant c.self.inside.table c.self.inside.checkpoint c.self.inside.limit es c.keep.new.self × HasLabels c.self.inside.checkpoint es c.self.inside.labels) (sym is) (
      kept_move _ _ _ _ _ c.self.invariant.0 c.args.client (Installed c.args.ticket c.args.verdict) c.keep.new.self c.requires.client r tt c.in_ok-verdict.ensures.done,
      labels_stay _ _ _ c.self.invariant.1 c.args.client (Installed c.args.ticket c.args.verdict) refl,
    )
