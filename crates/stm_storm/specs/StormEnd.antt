-- What the replay of a storm's history finds, and the text that the code writes of it.
use Rattle.std.specs.Prelude.{◌≡◌, ◌≤◌, ℕ, List, [], ◌∷◌, ◌++◌, Option, Some, None, Result, Ok, Err, IfSome, codes, length, vec_len, ⊤}
use Rattle.stm_store.specs.Tables.{Declared}
use Rattle.stm_events.specs.declared.event.Event.{Event}
use Rattle.stm_events.specs.SlowDesk.{IsLegal}
use Rattle.stm_pool.specs.declared.close.Report.{Report}
use Rattle.stm_pool.specs.declared.storm.Counts.{Counts}
use Rattle.stm_script.specs.Limits.{max_sections}
use Rattle.stm_script.specs.ScriptReading.{script_of}
use Rattle.stm_script.specs.StormScript.{storm_script}
use Rattle.stm_script.specs.declared.script_reader.Script.{Script}
use Rattle.stm_storm.specs.declared.storming.StormFault.{StormFault}
use Rattle.stm_storm.specs.declared.storming.StormFault.TheVariants as storm_fault
use Rattle.stm_storm.specs.declared.replaying.Replay.{Replay}
use Rattle.stm_storm.specs.declared.replaying.Replay.TheVariants.{NotClosed, NotLegal, Legal}
use Rattle.stm_storm.specs.StormHistory.{IsIllegalStormHistory, IsStormHistory}
use Rattle.stm_storm.specs.StormText.{client_lines, events_line, failed_lines}

-- What reading a storm's script returns, of an input that may be known: the script that the input is; or the input's first faulty line and
-- why it is faulty. Nothing was replayed yet.
abbrev pub ReadsStorm : Option (List ℕ) → Result Script StormFault → Type 0
ReadsStorm input (Ok script) = IfSome input (λ i. storm_script i ≡ Ok (script_of script)) × (vec_len script.sections ≤ max_sections)
ReadsStorm input (Err (storm_fault.Script fault)) = IfSome input (λ i. storm_script i ≡ Err fault)
ReadsStorm input (Err (storm_fault.Run fault)) = ⊤
ReadsStorm input (Err storm_fault.Replay) = ⊥

-- the lines after those of the clients
abbrev pub replay_text : Replay → List ℕ
replay_text NotClosed = failed_lines None
replay_text (NotLegal events) = failed_lines (Some events)
replay_text (Legal events) = events_line events ++ codes "replay ok" ++ 10 ∷ []

-- all lines: those of the clients, and what the replay found
abbrev pub end_text : List Counts → Replay → List ℕ
end_text counts replay = client_lines 0 counts ++ replay_text replay

-- what is found of a closed desk's history: whether it is legal, and how many events it has
abbrev pub IsReplayed : List Declared → List Event → Replay → Type 0
IsReplayed table history NotClosed = ⊥
IsReplayed table history (NotLegal n) = ¬ IsLegal table history × (n ≡ length history)
IsReplayed table history (Legal n) = IsLegal table history × (n ≡ length history)

-- what is found of the history of a desk that may not have been closed
abbrev pub IsReplayedIfClosed : List Declared → Option Report → Replay → Type 0
IsReplayedIfClosed table None replay = replay ≡ NotClosed
IsReplayedIfClosed table (Some report) replay = IsReplayed table report.desk.history replay

-- if a storm's history was found legal, or not legal, there is one
abbrev pub IsStormEnd : List Declared → List Counts → Replay → Type 0
IsStormEnd table counts NotClosed = ⊤
IsStormEnd table counts (NotLegal n) = (history : List Event) × IsIllegalStormHistory table counts n history
IsStormEnd table counts (Legal n) = (history : List Event) × IsStormHistory table counts n history

-- no legal history was found
abbrev pub IsFailedReplay : Replay → Type 0
IsFailedReplay NotClosed = ⊤
IsFailedReplay (NotLegal n) = ⊤
IsFailedReplay (Legal n) = ⊥
