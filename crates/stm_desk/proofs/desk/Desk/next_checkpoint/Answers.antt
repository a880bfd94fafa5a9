use Rattle.std.proofs.Common.{Option, Err, ap, subst, ◌∙◌}
use Rattle.stm_terms.specs.UnlessNoMemory.{RefusedAs}
use Rattle.stm_events.specs.Labels.{labels_from}
use Rattle.stm_events.specs.SlowDesk.{state_from}
use Rattle.stm_machine.specs.declared.checkpoint.Checkpoint.{Checkpoint}
use Rattle.stm_machine.specs.declared.checkpoint.CheckpointError.{CheckpointError}
use Rattle.stm_machine.specs.declared.checkpoint.CheckpointError.TheVariants.{NoMemory}
use Rattle.stm_machine.specs.Checkpoints.{checkpoint_of, checkpoint_refused, first_labels, with_labels, start_of}
use Rattle.stm_desk.specs.DeskView.{DeskView, state_of, labels_of}
use Rattle.stm_desk.specs.Checkpointed.{checkpoint_refusal}
use Rattle.stm_desk.proofs.Checkpointed.{now_typed, now_rule}
use Rattle.stm_desk.proofs.CheckpointLabels.{same_checkpoint}
use Rattle.stm_desk.proofs.desk.Desk.next_checkpoint.Goals as goal

pub checkpoint-requires-clause-at : goal.checkpoint-requires-clause-at
checkpoint-requires-clause-at c =
    let k = c.self.invariant.0 in
    let cells = c.len-variables.ensures.table.typed in
    (state_from (start_of c.self.inside.table c.self.inside.checkpoint) c.self.inside.history.items, k.at, now_typed _ _ _ _ _ k cells, now_rule _ _ _ _ _ k cells)

pub checkpoint-requires-clause-labels : goal.checkpoint-requires-clause-labels
checkpoint-requires-clause-labels c = c.self.invariant.1.each

pub with_causes-requires : goal.with_causes-requires
with_causes-requires c =
    let d = c.self.inside in
    let s = state_from (start_of d.table d.checkpoint) d.history.items in
    c.in-Ok.ensures.taken s c.self.invariant.0.at
    ∙ same_checkpoint d.labels (labels_from (first_labels d.checkpoint) d.history.items) (checkpoint_of s) c.self.invariant.1.same
    ∙ ap (λ (x : DeskView). with_labels (labels_of x) (checkpoint_of (state_of x))) c.self.view_is

pub returns-in-Err-clause-refused : goal.returns-in-Err-clause-refused
returns-in-Err-clause-refused c =
    let same = ap checkpoint_refused c.self.invariant.0.at.stands.next_is ∙ ap checkpoint_refusal c.self.view_is in
    subst (λ (o : Option CheckpointError). RefusedAs {A = Checkpoint} NoMemory o (Err c.in-Err.refusal)) same c.in-Err.ensures.refused
