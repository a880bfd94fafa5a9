-- What a storm writes.
use Rattle.std.specs.Prelude.{◌≡◌, ℕ, ◌+◌, List, [], ◌∷◌, ◌++◌, Option, Some, None, Result, Ok, Err, IfSome, codes, decimal, length}
use Rattle.std.specs.Io.KnownBytes.{Appends, Keeps}
use Rattle.stm_events.specs.declared.event.Event.{Event}
use Rattle.stm_pool.specs.declared.storm.Counts.{Counts}
use Rattle.stm_storm.specs.StormHistory.{IsIllegalStormHistory, IsStormHistory}
use Rattle.stm_script.specs.StormScript.{StormScript, storm_script}
use Rattle.stm_script.specs.declared.script_fault.ScriptFault.{ScriptFault}
use Rattle.stm_storm.specs.declared.storming.StormFault.{StormFault}
use Rattle.stm_storm.specs.declared.storming.StormFault.TheVariants.{Replay, Run, Script}

-- the line of a client
unfoldable pub client_line : ℕ → Counts → List ℕ
client_line client c =
    codes "client " ++ decimal client
    ++ codes " submitted " ++ decimal c.submitted
    ++ codes " finished " ++ decimal c.finished
    ++ codes " cancelled " ++ decimal c.cancelled
    ++ codes " refused " ++ decimal c.refused
    ++ codes " missed " ++ decimal c.missed ++ 10 ∷ []

-- those of the clients from this one on
abbrev pub client_lines : ℕ → List Counts → List ℕ
client_lines client [] = []
client_lines client (c ∷ cs) = client_line client c ++ client_lines (client + 1) cs

-- the line with the number of events
unfoldable pub events_line : ℕ → List ℕ
events_line events = codes "events " ++ decimal events ++ 10 ∷ []

-- what is written if the history was replayed and found legal
abbrev pub storm_text : List Counts → ℕ → List ℕ
storm_text counts events = client_lines 0 counts ++ events_line events ++ codes "replay ok" ++ 10 ∷ []

-- the last lines if it was replayed and isn't legal, or wasn't replayed, since the desk couldn't be closed
abbrev pub failed_lines : Option ℕ → List ℕ
failed_lines (Some events) = events_line events ++ codes "replay failed" ++ 10 ∷ []
failed_lines None = codes "replay failed" ++ 10 ∷ []

-- what is written if the history isn't found legal
abbrev pub failed_text : List Counts → Option ℕ → List ℕ
failed_text counts events = client_lines 0 counts ++ failed_lines events

-- a text that a storm of a script may write: what its counts say was submitted, finished and cancelled is in a history that is legal over
-- the script's variables. Which history that is depends on which thread came first; what was refused or missed is not in it
pub record IsStormText (input text : List ℕ) : Type 0 where
  pub script : StormScript
  pub right : storm_script input ≡ Ok script
  pub counts : List Counts
  pub each : length counts ≡ length script.sections
  pub history : List Event
  pub counted : IsStormHistory script.table counts (length history) history
  pub written : text ≡ storm_text counts (length history)

-- a text that a storm of a script may write if its history isn't found legal. If it has a number of events, the counts are those of a
-- history of that length which isn't legal over the script's variables; if not, the desk couldn't be closed
pub record IsFailedStormText (input text : List ℕ) : Type 0 where
  pub script : StormScript
  pub right : storm_script input ≡ Ok script
  pub counts : List Counts
  pub each : length counts ≡ length script.sections
  pub events : Option ℕ
  pub illegal : IfSome events (λ n. (history : List Event) × IsIllegalStormHistory script.table counts n history)
  pub written : text ≡ failed_text counts events

-- a line of the script is invalid
abbrev pub IsInvalidStorm : List ℕ → Type 0
IsInvalidStorm input = (fault : ScriptFault) × (storm_script input ≡ Err fault)

-- of an invalid script nothing was written
abbrev pub KeepsOfInvalidStorm : Option (List ℕ) → Option (List ℕ) → Option (List ℕ) → Type 0
KeepsOfInvalidStorm input old new = IfSome input (λ i. IsInvalidStorm i → Keeps old new)

-- What `storm` wrote, by its result. `input` are the bytes that the reader had left, `old` and `new` those that the writer had before and has
-- after the call, if they are known.
abbrev pub WritesStorm : Option (List ℕ) → Option (List ℕ) → Option (List ℕ) → Result (Unit {0}) StormFault → Type 0
-- the script is right, and a text of it was written
WritesStorm input old new (Ok done) = IfSome input (λ i. (text : List ℕ) × IsStormText i text × Appends old new text)
-- the script is right, and a text of it was written that ends with `replay failed`: its desk couldn't be closed, or left a history that isn't
-- legal
WritesStorm input old new (Err Replay) = IfSome input (λ i. (text : List ℕ) × IsFailedStormText i text × Appends old new text)
-- this is the first invalid line of the script, and why it is invalid; nothing was written
WritesStorm input old new (Err (Script fault)) = IfSome input (λ i. storm_script i ≡ Err fault) × Keeps old new
-- reader, writer or memory failed; what was written isn't said, unless the script is invalid
WritesStorm input old new (Err (Run fault)) = KeepsOfInvalidStorm input old new
