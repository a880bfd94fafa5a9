use Rattle.std.proofs.Common.{◌≡◌, ◌≢◌, ◌∙◌, [], true, false, length, None, List, ℕ, sym, ap, subst}
use Rattle.std.specs.Bool.{◌==◌}
use Rattle.stm_terms.specs.declared.kinds.Ty.{Ty}
use Rattle.stm_terms.specs.declared.values.Value.{Value}
use Rattle.stm_terms.specs.declared.values.Value.TheVariants as value
use Rattle.stm_terms.specs.declared.verdicts.Verdict.TheVariants.{Commits}
use Rattle.stm_terms.specs.Changes.{cell_value}
use Rattle.stm_store.proofs.ApplyPreservesTyping.{covered_stay}
use Rattle.stm_eval.specs.Messages.{Holds}
use Rattle.stm_events.specs.Refusals.{differing}
use Rattle.stm_events.specs.SlowDesk.{under}
use Rattle.stm_machine.specs.Checkpoints.{held_of}
use Rattle.stm_machine.proofs.RightDeliveries.{right_present, holds_present, on_ok}
use Rattle.stm_machine.proofs.right_delivery.right_reads.Goals.{else-is_stale-via-then-is_stale+else-is_empty, else-is_stale-via-else-is_stale}
use Rattle.stm_machine.proofs.right_delivery.right_reads.Goals as goal

pub reads_on-requires-in-Some : goal.reads_on-requires-in-Some
reads_on-requires-in-Some c =
    rw c.in_ok-frozen-in-Some.ensures.store (covered_stay c.args.store.now (Commits c.reads-in-Some.result.now [] value.Unit) c.args.block.now.uses c.requires)

pub returns-in_ok-frozen-in-None-clause-right : goal.returns-in_ok-frozen-in-None-clause-right
returns-in_ok-frozen-in-None-clause-right c =
    let d = c.args.delivery.now in
    let same : differing (under c.args.store.now) d.reads ≡ None = ap (differing (under c.args.store.now)) (sym c.reads.ensures) ∙ sym c.first_differing.ensures ∙ c.in-None.is in
    let some : d.stale ≡ true → d.reads ≢ [] = elim c.else-is_stale.branch [
      | else-is_stale-via-then-is_stale+else-is_empty w ↦ λ t e.
          let filled : false ≡ true = sym w.if-is_empty.false ∙ w.is_empty.ensures ∙ ap (λ (rs : List (ℕ × Value)). length rs == 0) (w.reads-then-is_stale.ensures ∙ e) in
          cc
      | else-is_stale-via-else-is_stale w ↦ λ t. cc (w.if-is_stale.false, c.is_stale.ensures, t)
    ] in
    on_ok _ _ c.reads_on.result
    (λ h. right_present c.args.store.now c.args.block.now d.stale (held_of d) c.len-cells.ensures.store.typed same some
    (subst (λ (f : List (Ty × Value)). Holds c.args.block.now.tree (cell_value f) d.reads d.verdict) c.in_ok-frozen-in-None.ensures h)) c.reads_on.ensures.holds

pub returns-in_ok-frozen-in-None-clause-refused : goal.returns-in_ok-frozen-in-None-clause-refused
returns-in_ok-frozen-in-None-clause-refused c = λ e r.
    let d = c.args.delivery.now in
    let same : differing (under c.args.store.now) d.reads ≡ None = ap (differing (under c.args.store.now)) (sym c.reads.ensures) ∙ sym c.first_differing.ensures ∙ c.in-None.is in
    c.reads_on.ensures.refused e
    (subst (λ (f : List (Ty × Value)). Holds c.args.block.now.tree (cell_value f) d.reads d.verdict) (sym c.in_ok-frozen-in-None.ensures) (holds_present c.args.store.now c.args.block.now d.stale (held_of d) same r))
