-- What a store must have for jobs to be evaluated on it.
use Rattle.std.specs.Prelude.{List, [], ◌∷◌}
use Rattle.stm_terms.specs.declared.kinds.Ty.{Ty}
use Rattle.stm_terms.specs.declared.values.Value.{Value}
use Rattle.stm_store.specs.Cells.{Covers}
use Rattle.stm_eval.specs.declared.job.Job.{Job}

-- the store has the variables that each block names
abbrev pub AreJobsCovered : List (Ty × Value) → List Job → Type 0
AreJobsCovered cells [] = Unit {0}
AreJobsCovered cells (j ∷ js) = Covers cells j.block.uses × AreJobsCovered cells js
