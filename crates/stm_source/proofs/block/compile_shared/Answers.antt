use Rattle.std.proofs.Common.{sym, subst}
use Rattle.stm_store.specs.Cells.{Covers}
use Rattle.stm_check.specs.TypedBlock.{Block}
use Rattle.stm_source.proofs.block.compile_shared.Goals as goal

pub returns-in-Ok-clause-covered : goal.returns-in-Ok-clause-covered
returns-in-Ok-clause-covered c = λ cells k.
    subst (λ (b : Block). Covers cells b.uses) (sym c.in-Ok.ensures) (c.in_ok-block.ensures.covered cells k)
