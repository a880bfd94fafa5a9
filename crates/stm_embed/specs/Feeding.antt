-- The console that C holds, and the bytes that wait to be given.
use Rattle.std.specs.Prelude.{◌≡◌, ◌≤◌, ℕ, List, [], ◌++◌, length, min, take, drop}
use Rattle.stm_terms.specs.Limits.{max_events}
use Rattle.stm_lines.specs.Lines.{whole_lines_of}
use Rattle.stm_run.specs.declared.console.Console.{Console}
use Rattle.stm_run.specs.Console.{answers_to, initial_console}
use Rattle.stm_run.specs.AfterLines.{state_after_lines}
use Rattle.stm_embed.specs.declared.feeding.Embedded.{Embedded}

-- what the console knows
abbrev pub console_of : Embedded → Console
console_of e = e.session.console

-- the answers that were not given
abbrev pub unread_answers : Embedded → List ℕ
unread_answers e = drop e.given e.answers.items

-- a desk that takes as many events as these, at most 1,048,576: no variable is declared, and no answer waits
abbrev pub IsNew : ℕ → Embedded → Type 0
IsNew events e = (console_of e ≡ initial_console (min events max_events)) × (unread_answers e ≡ [])

-- a desk that takes no events, on which no variable is declared, and these are the bytes that wait
abbrev pub HasOnly : List ℕ → Embedded → Type 0
HasOnly bytes e = (console_of e ≡ initial_console 0) × (unread_answers e ≡ bytes)

-- the bytes are whole lines, with no part of another: whatever follows them begins a line
abbrev pub AreWholeLines : List ℕ → Type 0
AreWholeLines bytes = (more : List ℕ) → whole_lines_of (bytes ++ more) ≡ whole_lines_of bytes ++ whole_lines_of more

-- ---- inside
-- from the console s, and these answers, this many bytes of lines were taken: now these are the console and the answers
pub record HasFed (lines : List ℕ) (s t : Console) (before after : List ℕ) (count : ℕ) : Type 0 where
  pub within : count ≤ length lines
  pub whole : AreWholeLines (take count lines)
  pub console : t ≡ state_after_lines s (whole_lines_of (take count lines))
  pub answers : after ≡ before ++ answers_to s (whole_lines_of (take count lines))
