use Rattle.std.proofs.Common.{ℕ, List, [], ◌∷◌, ◌++◌, ap, ◌∙◌}
use Rattle.stm_terms.specs.declared.kinds.Ty.{Ty}
use Rattle.test_calls.proofs.TableUses.{uses_next}
use Rattle.test_calls.proofs.checkpoints.uses_of.Goals as goal

pub loop-id-preserved : goal.loop-id-preserved
loop-id-preserved c =
    c.in_ok-push.ensures.items ∙ ap (λ (us : List (ℕ × Ty)). us ++ (c.loop-id.id, c.kind.result) ∷ []) c.loop-id.invariant
    ∙ uses_next c.args.table.now c.loop-id.id c.kind.result c.kind.ensures
