use Rattle.std.proofs.Common.{◌≡◌, ◌∙◌, true, ℕ, List, option_map, IfOk, IsTrue, ◌↔◌, sym, ap, subst}
use Rattle.stm_terms.specs.declared.kinds.Ty.{Ty}
use Rattle.stm_store.specs.Cells.{plains, Covers}
use Rattle.stm_check.specs.TypedBlock.{Block}
use Rattle.stm_events.specs.Labels.{is_label}
use Rattle.stm_machine.specs.Checkpoints.{CheckpointView, MayHaveCause, held_of, is_stale_delivery}
use Rattle.stm_machine.proofs.RightDeliveries.{if_both}
use Rattle.stm_machine.proofs.checkpoint.Checkpoint.may_wait.Goals as goal

pub returns : goal.returns
returns c =
    let one : is_label c.args.label.now ≡ true = sym (c.is_label.ensures ∙ ap is_label c.as_str.ensures) ∙ c.if-not-is_label.false in
    let covered = subst (λ (us : List (ℕ × Ty)). Covers (plains c.self.inside.store) us) (c.uses.ensures ∙ ap (λ (x : Block). x.uses) c.block.ensures) (c.covers.ensures.0 c.if-not-covers.false) in
    if_both _ _ c.may_have_cause.result
    (c.has_place.ensures.0 c.if-not-has_place.false, one, subst (λ (v : CheckpointView). Covers (plains v.store) c.args.block.now.uses) c.self.view_is covered)
    (subst (λ (v : CheckpointView). IfOk c.may_have_cause.result (λ b. IsTrue b ↔ MayHaveCause v.store v.next (is_stale_delivery c.args.delivery.now) (option_map held_of c.args.delivery.now) c.args.cause.now)) c.self.view_is c.may_have_cause.ensures)
