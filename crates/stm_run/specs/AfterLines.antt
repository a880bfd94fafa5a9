-- What the console knows after some lines.
use Rattle.std.specs.Prelude.{ℕ, List, [], ◌∷◌}
use Rattle.stm_run.specs.declared.console.Console.{Console}
use Rattle.stm_run.specs.Console.{initial_console, state_after}

-- what the console knows after some lines
abbrev pub state_after_lines : Console → List (List ℕ) → Console
state_after_lines s [] = s
state_after_lines s (line ∷ rest) = state_after_lines (state_after s line) rest

-- the console that lines lead to from the first one, with a desk that takes this many events
abbrev pub console_reached : ℕ → List (List ℕ) → Console
console_reached max_events lines = state_after_lines (initial_console max_events) lines
