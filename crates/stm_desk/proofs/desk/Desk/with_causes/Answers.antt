use Rattle.std.proofs.Common.{◌≡◌, ◌∙◌, ℕ, Option, Some, sym, ap, subst}
use Rattle.std.specs.Prelude.{IfOk}
use Rattle.stm_store.specs.Cells.{StoreIsTyped}
use Rattle.stm_store.specs.Tables.{declared_cells}
use Rattle.stm_events.specs.declared.kept_cause.KeptCause.{KeptCause}
use Rattle.stm_events.specs.KeptCauses.{kept_cause_of}
use Rattle.stm_events.specs.Labels.{labels_from}
use Rattle.stm_events.specs.Laws.{AreRising}
use Rattle.stm_events.specs.SlowDesk.{state_from}
use Rattle.stm_machine.specs.Checkpoints.{CheckpointView, MayHaveCauses, MayStart, checkpoint_of, first_labels, with_causes, with_labels, start_of, IsCheckpoint}
use Rattle.stm_machine.proofs.CheckpointLabels.{causes_leave_checkpoints}
use Rattle.stm_desk.specs.declared.desk.Desk.TheInside.{Inside}
use Rattle.stm_desk.specs.DeskView.{DeskView, start_state, state_of, labels_of}
use Rattle.stm_desk.specs.Kept.{DeskInvariant}
use Rattle.stm_desk.specs.Causes.{has_stale}
use Rattle.stm_desk.specs.Checkpointed.{causes_of, checkpoint_now}
use Rattle.stm_desk.proofs.CausedBlocks.{stale_blocks_are, same_causes, of_returned}
use Rattle.stm_desk.proofs.Checkpointed.{checkpoint_kept}
use Rattle.stm_desk.proofs.FoundCauses.{may_have_causes}
use Rattle.stm_desk.proofs.Views.{view_of}
use Rattle.stm_desk.proofs.Starts.{IsTypedHistory, typed_history}
use Rattle.stm_desk.proofs.desk.Desk.with_causes.Goals as goal

pub causes-requires : goal.causes-requires
causes-requires c = λ t.
    let d = c.args.self.now in
    let rising = subst (λ (x : DeskView). AreRising (state_of x).next 0 (state_of x).waiters) c.self.view_is c.self.invariant.0.at.possible.rising in
    ap (has_stale t) c.blocks-2.ensures ∙ ap (λ (x : CheckpointView). has_stale t x.blocks) c.requires ∙ stale_blocks_are t (labels_of d) (state_of d) rising

-- the blocks of the checkpoint of a desk may have the causes that were found
may_have : (d : Inside) (now : DeskView) (checkpoint : CheckpointView) (causes : ℕ → Option KeptCause) → view_of d ≡ now → DeskInvariant d.table d.checkpoint d.limit d.history.items d.machine → StoreIsTyped (declared_cells d.table)
    → checkpoint ≡ with_labels (labels_of now) (checkpoint_of (state_of now)) → ((t : ℕ) → causes t ≡ causes_of now t) → MayHaveCauses checkpoint.store checkpoint.next causes checkpoint.blocks
may_have d now checkpoint causes e k cells is found =
    let start = subst (λ (x : DeskView). MayStart x.table x.checkpoint) e k.start in
    let typed = subst (λ (x : DeskView). IsTypedHistory (start_state x) x.history) e (typed_history _ _ _ _ _ k cells) in
    subst (λ (x : CheckpointView). MayHaveCauses x.store x.next causes x.blocks) (sym is) (may_have_causes now start typed (labels_of now) causes found)

pub with_causes-requires : goal.with_causes-requires
with_causes-requires c =
    may_have c.self.inside _ c.args.checkpoint (λ t. kept_cause_of t c.in_ok-causes.causes) c.self.view_is c.self.invariant.0 c.len-variables.ensures.table.typed c.requires c.in_ok-causes.ensures

pub returns-clause-taken : goal.returns-clause-taken
returns-clause-taken c =
    let d = c.args.self.now in
    let causes : ℕ → Option KeptCause = λ t. kept_cause_of t c.in_ok-causes.causes in
    let same : with_causes causes c.args.checkpoint ≡ checkpoint_now d = ap (with_causes causes) c.requires ∙ same_causes causes (causes_of d) (with_labels (labels_of d) (checkpoint_of (state_of d))) c.in_ok-causes.ensures in
    subst (λ (y : CheckpointView). IfOk c.with_causes.result (λ x. x ≡ y)) same c.with_causes.ensures

pub returns-clause-start : goal.returns-clause-start
returns-clause-start c =
    let d = c.self.inside in
    let k = c.self.invariant.0 in
    let s = state_from (start_of d.table d.checkpoint) d.history.items in
    let labels = labels_from (first_labels d.checkpoint) d.history.items in
    let causes : ℕ → Option KeptCause = λ t. kept_cause_of t c.in_ok-causes.causes in
    let plain : c.args.checkpoint ≡ with_labels labels (checkpoint_of s) = c.requires ∙ sym (ap (λ (x : DeskView). with_labels (labels_of x) (checkpoint_of (state_of x))) c.self.view_is) in
    let may = may_have d _ c.args.checkpoint causes c.self.view_is k c.len-variables.ensures.table.typed c.requires c.in_ok-causes.ensures in
    let is = (causes_leave_checkpoints causes c.args.checkpoint may c.next-next.ensures.checkpoint).0 in
    of_returned c.with_causes.result (λ x. x ≡ with_causes causes c.args.checkpoint) (λ x. MayStart c.args.self.now.table (Some x))
    (λ x e. subst (λ (y : DeskView). MayStart y.table (Some x)) c.self.view_is
    (checkpoint_kept _ _ _ _ _ k c.len-variables.ensures.table.typed labels causes x (e ∙ ap (with_causes causes) plain) (subst IsCheckpoint (sym e) is)).start)
    c.with_causes.ensures
