-- What the evaluation of a job returns.
use Rattle.std.specs.Prelude.{◌≡◌, List, Some, Result, Ok, Err}
use Rattle.std.specs.declared.alloc.AllocError.{AllocError}
use Rattle.stm_terms.specs.declared.kinds.Ty.{Ty}
use Rattle.stm_terms.specs.declared.values.Value.{Value}
use Rattle.stm_terms.specs.Changes.{cell_value}
use Rattle.stm_terms.specs.ReadSet.{reads_of}
use Rattle.stm_terms.specs.Verdict.{verdict}
use Rattle.stm_eval.specs.declared.job.Job.{Job}
use Rattle.stm_eval.specs.declared.message.Evaluated.{Evaluated}
use Rattle.stm_eval.specs.EvaluatedFields.{message_ticket, message_block, message_reads, message_verdict}

-- the job's message on these variables: its ticket and block, with what the block does there and what it reads
pub record IsMessageOf (job : Job) (cells : List (Ty × Value)) (m : Evaluated) : Type 0 where
  pub ticket : message_ticket m ≡ job.ticket
  pub block : message_block m ≡ job.block
  pub verdict_is : verdict (cell_value cells) job.block.tree ≡ Some (message_verdict m)
  pub reads_are : message_reads m ≡ reads_of (cell_value cells) job.block.tree

-- the job's message, or the job back
abbrev pub AnswersJob : Job → List (Ty × Value) → Result Evaluated (Job × AllocError) → Type 0
AnswersJob job cells (Ok m) = IsMessageOf job cells m
AnswersJob job cells (Err e) = e.0 ≡ job
