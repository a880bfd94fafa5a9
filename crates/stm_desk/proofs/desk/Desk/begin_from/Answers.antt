use Rattle.std.proofs.Common.{◌≡◌, List, [], Some, refl, rules, sym, ap, subst, ◌∙◌}
use Rattle.stm_events.specs.declared.event.Event.{Event}
use Rattle.stm_events.specs.Labels.{label_of, labels_from}
use Rattle.stm_events.specs.SlowDesk.{state_from}
use Rattle.stm_events.specs.States.{observed}
use Rattle.stm_machine.specs.Checkpoints.{CheckpointView, IsCheckpoint, checkpoint_of, checkpoint_state, first_labels, with_labels, with_causes, start_of}
use Rattle.stm_desk.specs.DeskView.{DeskView, state_of, labels_of}
use Rattle.stm_desk.specs.Checkpointed.{causes_of}
use Rattle.stm_desk.specs.Reasons.{reason_of}
use Rattle.stm_desk.specs.Kept.{DeskInvariant, HasLabels}
use Rattle.stm_desk.proofs.Checkpointed.{unseen, checkpoint_kept}
use Rattle.stm_desk.proofs.CheckpointLabels.{labels_wait, labels_caused, labels_kept}
use Rattle.stm_desk.proofs.Views.{view_of, checkpoint_of_fields}
use Rattle.stm_desk.proofs.ReasonsStay.{reasons_stay}
use Rattle.stm_desk.proofs.Starts.{typed_history}
use Rattle.stm_desk.proofs.desk.Desk.begin_from.Goals as goal

pub invariant_of-self : goal.invariant_of-self
invariant_of-self c =
    let k = c.self.invariant.0 in
    let d = c.self.inside in
    let view = view_of d in
    let s = state_of view in
    let labels = labels_of view in
    let is = checkpoint_of_fields c.self.view_is c.requires in
    subst (λ (es : List Event). DeskInvariant d.table (Some c.args.checkpoint) d.limit es d.machine × HasLabels (Some c.args.checkpoint) es d.labels) (sym c.take_events.ensures.none) (
      checkpoint_kept _ _ _ _ _ k c.len-variables.ensures.table.typed labels (causes_of view) c.args.checkpoint is c.next-next.ensures.checkpoint,
      labels_kept s labels d.labels (causes_of view) d.checkpoint d.history.items c.args.checkpoint c.self.invariant.1 refl (labels_wait d.table d.checkpoint d.history.items k.start k.legal.each) is,
    )

pub returns : goal.returns
returns c =
    let k = c.self.invariant.0 in
    let d = c.self.inside in
    let view = view_of d in
    let s = state_of view in
    let labels = labels_of view in
    let is = checkpoint_of_fields c.self.view_is c.requires in
    record {
      events = search rules;
      taken = search rules;
      unseen =
          ap (λ (es : List Event). observed (state_from (checkpoint_state c.args.checkpoint) es)) c.take_events.ensures.none
          ∙ unseen _ _ _ _ _ k c.len-variables.ensures.table.typed labels (causes_of view) c.args.checkpoint is c.next-next.ensures.checkpoint
          ∙ ap (λ (x : DeskView). observed (state_of x)) c.self.view_is;
      labels = λ t.
          ap (λ (es : List Event). label_of t (labels_from (first_labels (Some c.args.checkpoint)) es)) c.take_events.ensures.none
          ∙ ap (λ (x : CheckpointView). label_of t (first_labels (Some x))) is
          ∙ labels_caused s labels (causes_of view) t (labels_wait d.table d.checkpoint d.history.items k.start k.legal.each)
          ∙ ap (λ (x : DeskView). label_of t (labels_of x)) c.self.view_is;
      reasons = λ t.
          let stay = reasons_stay view k.start (typed_history _ _ _ _ _ k c.len-variables.ensures.table.typed) (subst IsCheckpoint is c.next-next.ensures.checkpoint) t in
          ap (λ (es : List Event). reason_of (record view { checkpoint = Some c.args.checkpoint; history = es }) t) c.take_events.ensures.none
          ∙ ap (λ (x : CheckpointView). reason_of (record view { checkpoint = Some x; history = [] }) t) is
          ∙ stay ∙ ap (λ (x : DeskView). reason_of x t) c.self.view_is;
    }
