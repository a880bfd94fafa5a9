-- What is reported of the line after whole lines.
use Rattle.std.specs.Prelude.{◌≡◌, ℕ, List}
use Rattle.stm_history.specs.declared.check.Stage.{Stage}
use Rattle.stm_history.specs.declared.explanation.Explanation.{Explanation}
use Rattle.stm_history.specs.Progress.{CheckerState, LinesUpTo}
use Rattle.stm_history.specs.Explanation.{Explains, line_after}
use Rattle.stm_history.specs.Stages.{IsStage}

-- these are whole lines that lead to the stage
pub record IsAfter (front : List ℕ) (s : Stage) : Type 0 where
  pub progress : CheckerState
  pub stage : IsStage s progress
  pub lines : LinesUpTo progress front

-- these are whole lines, after which this is reported of a line of this number
pub record IsReportedAfter (front line : List ℕ) (number : ℕ) (x : Explanation) : Type 0 where
  pub progress : CheckerState
  pub lines : LinesUpTo progress front
  pub counted : number ≡ line_after progress
  pub why : Explains progress line x
