use Rattle.std.proofs.Common.{ℕ, List, sym, subst, ◌∙◌}
use Rattle.std.specs.Prelude.{IfOk, IsTrue, ◌↔◌}
use Rattle.stm_terms.specs.declared.values.Value.{Value}
use Rattle.stm_machine.specs.Checkpoints.{IsKeptCause}
use Rattle.stm_machine.proofs.RightDeliveries.{may_have}
use Rattle.stm_machine.proofs.checkpoint.may_have_cause.Goals as goal

pub returns-else-not-is_stale : goal.returns-else-not-is_stale
returns-else-not-is_stale c =
    may_have c.args.store.now c.args.next c.args.delivery.now c.args.cause.now c.in-Some-delivery.delivery c.in-Some.cause c.is_kept_cause.result c.in-Some-delivery.is c.in-Some.is
    (sym c.is_stale.ensures ∙ c.if-not-is_stale.false)
    (subst (λ (rs : List (ℕ × Value)). IfOk c.is_kept_cause.result (λ b. IsTrue b ↔ IsKeptCause c.args.store.now c.args.next rs c.in-Some.cause)) c.reads.ensures c.is_kept_cause.ensures)
