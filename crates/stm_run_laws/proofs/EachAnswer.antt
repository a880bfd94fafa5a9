-- Each line that says something is answered: a console that has taken some lines stands, and there no command prints
-- nothing.
use Rattle.std.proofs.Common.{◌≢◌, ℕ, List, ◌∷◌, ◌++◌, length, Option, Some, None, Result, Ok, Err, refl}
use Rattle.std.specs.Prelude.{codes, decimal}
use Rattle.stm_check.specs.Laws.{CheckNeverSaysNoMemory, VerdictFits}
use Rattle.stm_eval.specs.Laws.{VerdictIsStable}
use Rattle.stm_parse.specs.ParseFunction.{BlockAnswersAreRight, DeclarationAnswersAreRight}
use Rattle.stm_store.specs.Naming.{Named}
use Rattle.stm_store.specs.Tables.{Declared}
use Rattle.stm_event_lines.specs.CheckedBlocks.{CheckedAreWellTyped}
use Rattle.stm_run.specs.declared.command.Command.{Command}
use Rattle.stm_run.specs.declared.command.Command.TheVariants.{Tvar}
use Rattle.stm_run.specs.declared.console.Console.{Console}
use Rattle.stm_run.specs.declared.console.Console.TheVariants.{Declaring, Open}
use Rattle.stm_source.specs.declared.refusal.Refusal.{Refusal}
use Rattle.stm_source.specs.CompiledBlock.{compiled_block}
use Rattle.stm_source.specs.DeclaredVariable.{variable_of}
use Rattle.stm_lines.specs.LineClass.{LineClass, TooLong, Silent, NotAscii, Words, line_class}
use Rattle.stm_run.specs.Console.{command_named, initial_console, command_step, word_step, class_step, step}
use Rattle.stm_run.specs.ConsoleState.{present_desk}
use Rattle.stm_run.specs.Declaring.{tvar_line, tvar_text_step, tvar_step}
use Rattle.stm_run.specs.AfterLines.{state_after_lines}
use Rattle.stm_run_laws.specs.Laws.{EndsALine, EachLineIsAnswered}
use Rattle.stm_run.proofs.DeclaredVariables.{late_judged}
use Rattle.stm_run_laws.proofs.DeskAnswers.{desk_ends}
use Rattle.stm_run_laws.proofs.EndedLines.{refused_ends, refusal_ends}
use Rattle.stm_run.proofs.TextsJudged.{MayHoldOrTold, declares, BlockOrTold, compiled}
use Rattle.stm_run.proofs.ReachedConsole.{IsReached, present_stands, reached}

tvar_text_ends : (table : List Declared) (limit : ℕ) (r : Result Declared Refusal) → MayHoldOrTold table r → EndsALine (tvar_text_step table limit r).1
unfolding tvar_line
tvar_text_ends table limit (Ok d) h = (codes "tvar #" ++ decimal (length table) ++ 32 ∷ d.name, refl)
tvar_text_ends table limit (Err e) h = refusal_ends e h

module _ (blocks : BlockAnswersAreRight) (declarations : DeclarationAnswersAreRight) (faults : CheckNeverSaysNoMemory) (fits : VerdictFits) (stable : VerdictIsStable) (checked : CheckedAreWellTyped) where
  judged : (names : List Named) (text : List ℕ) → BlockOrTold names (compiled_block names text)
  judged = compiled blocks declarations faults checked

  declared : (table : List Declared) (text : List ℕ) → MayHoldOrTold table (variable_of table text)
  declared = declares blocks declarations faults checked

  tvar_ends : (s : Console) (argument : List ℕ) → EndsALine (tvar_step s argument).1
  tvar_ends (Declaring table limit) argument = tvar_text_ends table limit (variable_of table argument) (declared table argument)
  tvar_ends (Open d) argument = refused_ends (codes "Late")

  command_ends : (s : Console) → IsReached s → (c : Command) (argument : List ℕ) → EndsALine (command_step s c argument).1
  command_ends s h Tvar argument = tvar_ends s argument
  command_ends s h c argument = desk_ends judged (late_judged declarations) fits (present_desk s) (present_stands s h) c argument

  word_ends : (s : Console) → IsReached s → (o : Option Command) (argument : List ℕ) → EndsALine (word_step s o argument).1
  word_ends s h (Some c) argument = command_ends s h c argument
  word_ends s h None argument = refused_ends (codes "Command")

  class_ends : (s : Console) → IsReached s → (j : LineClass) → j ≢ Silent → EndsALine (class_step s j).1
  class_ends s h TooLong n = refused_ends (codes "LineTooLong")
  class_ends s h Silent n = absurd (n refl)
  class_ends s h NotAscii n = refused_ends (codes "NotAscii")
  class_ends s h (Words word argument) n = word_ends s h (command_named word) argument

  pub each_line : EachLineIsAnswered
  unfolding step
  each_line max_events low before line n =
      class_ends (state_after_lines (initial_console max_events) before) (reached blocks declarations faults stable checked max_events low before) (line_class line) n
