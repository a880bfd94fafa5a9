-- What a command writes.
use Rattle.std.specs.Prelude.{◌≡◌, ℕ, List, ◌++◌, OnOk, Result, String, string_bytes}
use Rattle.std.specs.Global.{Global}
use Rattle.stm_commands.specs.OpenDesk.{Steps}

-- the new text is the old one with this text after it, unless memory ran out
abbrev pub Prints : {A E : Type 0} → Result A E → String Global → String Global → List ℕ → Type 0
Prints result old new text = OnOk result (string_bytes new ≡ string_bytes old ++ text)

-- this is the state after a step, and what the step prints is printed, unless memory ran out
abbrev pub TakesStep : {S A E : Type 0} → Result A E → S → String Global → String Global → S × List ℕ → Type 0
TakesStep result state old new step = OnOk result (Steps state (string_bytes old) (string_bytes new) step)
