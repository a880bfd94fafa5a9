-- An event of the console's client, of its text, with small numbers and with a verdict in range can be in a line.
use Rattle.std.proofs.Common.{◌≡◌, ℕ, List, [], ◌∷◌, Ok, arith, subst}
use Rattle.stm_parse.specs.ParseFunction.{DeclarationAnswersAreRight}
use Rattle.stm_store.specs.Naming.{Named}
use Rattle.stm_store.specs.Tables.{Declared}
use Rattle.stm_events.specs.declared.event.Event.{Event}
use Rattle.stm_events.specs.declared.event.What.{What}
use Rattle.stm_events.specs.declared.event.What.TheVariants.{Submitted, Installed, Finished, Cancelled, Declared as DeclaredLate, Labelled}
use Rattle.stm_events.specs.SlowDesk.{Slow, after}
use Rattle.stm_event_lines.specs.Fits.{WhatFitsNames}
use Rattle.stm_source.specs.DeclaredVariable.{late_variable_of}
use Rattle.stm_desk.specs.DeskView.{start_state}
use Rattle.stm_run.specs.Console.{initial_console}
use Rattle.stm_run.specs.ConsoleState.{present_desk}
use Rattle.stm_run.specs.AfterLines.{state_after_lines}
use Rattle.stm_run.specs.Fitting.{IsOfText, AreOfTexts, EventsAreOfConsole, AreNumbersSmall, HaveSmallNumbers, NumbersAreSmall, IsVerdictInRange, AreVerdictsInRange}
use Rattle.stm_run_laws.specs.ReadBack.{VerdictsFitLines, EventsFitNames, EventsFitLines}
use Rattle.stm_run.proofs.DeclaredVariables.{LateOrTold, late_judged, fits_value}

module _ (declarations : DeclarationAnswersAreRight) where
  pub variable_told : (known : List Named) (text : List ℕ) (v : Declared) → late_variable_of known text ≡ Ok v → LateOrTold (Ok v)
  variable_told known text v e = subst LateOrTold e (late_judged declarations known text)

  what_fits : (known : List Named) (what : What) → IsOfText known what → AreNumbersSmall what → IsVerdictInRange what → WhatFitsNames known what
  what_fits known (Submitted ticket block) t n v = (n, t)
  what_fits known (Installed ticket w) t n v = (n, v)
  what_fits known (Finished ticket w first_new stale) t n v = (n.0, v, n.1, n.2)
  what_fits known (Cancelled ticket) t n v = n
  what_fits known (DeclaredLate name kind value) t n v =
      let told = variable_told known t.0 (record { name = name; kind = kind; value = value }) t.1 in (told.0, n.0, fits_value value told.1 n.1)
  what_fits known (Labelled ticket label) t n v = (n, t)

  pub all_fit : (s : Slow) (es : List Event) → AreOfTexts s es → HaveSmallNumbers es → AreVerdictsInRange es → EventsFitNames s es
  all_fit s [] t n v = tt
  all_fit s (e ∷ es) t n v = ((omega (arith, t.0), what_fits s.names e.what t.1 n.0 v.0), all_fit (after s e.what) es t.2 n.1 v.1)

  pub events_fit : EventsAreOfConsole → NumbersAreSmall → VerdictsFitLines → EventsFitLines
  events_fit of_console small verdicts max_events low before =
      let d = (present_desk (state_after_lines (initial_console max_events) before)).desk in
      all_fit (start_state d) d.history (of_console max_events before).events (small max_events low before) (verdicts max_events low before)
