-- One job more that a store covers.
use Rattle.std.proofs.Common.{List, [], ◌∷◌, ◌++◌}
use Rattle.stm_terms.specs.declared.kinds.Ty.{Ty}
use Rattle.stm_terms.specs.declared.values.Value.{Value}
use Rattle.stm_store.specs.Cells.{Covers}
use Rattle.stm_eval.specs.declared.job.Job.{Job}
use Rattle.stm_eval.specs.CoveredJobs.{AreJobsCovered}

pub covered_push : (cells : List (Ty × Value)) (js : List Job) (j : Job) → AreJobsCovered cells js → Covers cells j.block.uses → AreJobsCovered cells (js ++ j ∷ [])
covered_push cells [] j h one = (one, tt)
covered_push cells (x ∷ js) j h one = (h.0, covered_push cells js j h.1 one)
