-- What the evaluation of many jobs returns.
use Rattle.std.specs.Prelude.{List, [], ◌∷◌, Result}
use Rattle.std.specs.declared.alloc.AllocError.{AllocError}
use Rattle.stm_terms.specs.declared.kinds.Ty.{Ty}
use Rattle.stm_terms.specs.declared.values.Value.{Value}
use Rattle.stm_eval.specs.declared.job.Job.{Job}
use Rattle.stm_eval.specs.declared.message.Evaluated.{Evaluated}
use Rattle.stm_eval.specs.JobAnswers.{AnswersJob}

-- each answers the job at its place, and there are as many
abbrev pub AnswerJobs : List Job → List (Ty × Value) → List (Result Evaluated (Job × AllocError)) → Type 0
AnswerJobs [] cells [] = Unit {0}
AnswerJobs [] cells (a ∷ rest) = ⊥
AnswerJobs (j ∷ js) cells [] = ⊥
AnswerJobs (j ∷ js) cells (a ∷ rest) = AnswersJob j cells a × AnswerJobs js cells rest
