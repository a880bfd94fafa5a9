-- What reading a line returns: a line is read exactly if it is the text of something that fits.
use Rattle.std.specs.Prelude.{◌≡◌, ◌≢◌, List, ℕ, Option, Some, None, Result, Ok, Err, IfSome, option_and_then, option_map, string_bytes}
use Rattle.std.specs.Str.{IsUtf8}
use Rattle.serde_json.specs.Read.{read as json_in}
use Rattle.stm_store.specs.declared.cell.Cell.{Cell}
use Rattle.stm_store.specs.Naming.{Named}
use Rattle.stm_store.specs.Tables.{Declared}
use Rattle.stm_events.specs.declared.event.Event.{Event}
use Rattle.stm_event_lines.specs.declared.checkpoint.CheckpointHeader.{CheckpointHeader}
use Rattle.stm_event_lines.specs.declared.checkpoint.NamedCell.{NamedCell}
use Rattle.stm_event_lines.specs.declared.checkpoint.WaitingBlock.{WaitingBlock}
use Rattle.stm_event_lines.specs.declared.read.Header.{Header}
use Rattle.stm_event_lines.specs.declared.read.LineError.{LineError}
use Rattle.stm_event_lines.specs.declared.read.LineError.TheVariants.{Bad}
use Rattle.stm_event_lines.specs.declared.variable.Variable.{Variable}
use Rattle.stm_event_lines.specs.CheckpointLines.{FitsCheckpointHeader, FitsNamedCell, FitsWaitingBlock, line_of_cell, line_of_checkpoint_header, line_of_waiting}
use Rattle.stm_event_lines.specs.Fields.{event_of}
use Rattle.stm_event_lines.specs.Fits.{FitsHeader, FitsNames, FitsVariable}
use Rattle.stm_event_lines.specs.Lines.{event_line, line_of_header, variable_line}

-- a variable that was read, as an entry of a table
abbrev pub declared : Variable → Declared
declared v = record { name = string_bytes v.name; kind = v.kind; value = v.value }

-- the name, if there is one, and the cell of a variable that was read
abbrev pub cell_parts : NamedCell → Option (List ℕ) × Cell
cell_parts c = (option_map string_bytes c.name, c.cell)

-- What reading the line returns: something that fits and whose text is the line, where `seen` is how contracts see it. The line is bad
-- only if it is the text of nothing that fits; memory may run out for any line.
abbrev pub ReadsAs : {B A : Type 0} → (A → B) → (B → Type 0) → (B → List ℕ) → List ℕ → Result A LineError → Type 0
ReadsAs seen Fits text line (Ok x) = Fits (seen x) × (text (seen x) ≡ line)
ReadsAs {B} seen Fits text line (Err e) = e ≡ Bad → (y : B) → Fits y → text y ≢ line

-- an event over these names is read
abbrev pub ReadsEvent : List Named → List ℕ → Result Event LineError → Type 0
ReadsEvent known line result = ReadsAs (λ (e : Event). e) (FitsNames known) event_line line result

-- the first line of a history without a checkpoint is read
abbrev pub ReadsHeader : List ℕ → Result Header LineError → Type 0
ReadsHeader line result = ReadsAs (λ (h : Header). h) FitsHeader line_of_header line result

-- a declared variable is read
abbrev pub ReadsVariable : List ℕ → Result Variable LineError → Type 0
ReadsVariable line result = ReadsAs declared FitsVariable variable_line line result

-- the first line of a history from a checkpoint is read
abbrev pub ReadsCheckpointHeader : List ℕ → Result CheckpointHeader LineError → Type 0
ReadsCheckpointHeader line result = ReadsAs (λ (h : CheckpointHeader). h) FitsCheckpointHeader line_of_checkpoint_header line result

-- a variable of a checkpoint is read
abbrev pub ReadsCell : List ℕ → Result NamedCell LineError → Type 0
ReadsCell line result = ReadsAs cell_parts FitsNamedCell line_of_cell line result

-- a waiting block over these names is read
abbrev pub ReadsWaiting : List Named → List ℕ → Result WaitingBlock LineError → Type 0
ReadsWaiting known line result = ReadsAs (λ (w : WaitingBlock). w) (FitsWaitingBlock known) line_of_waiting line result

-- What the line can be read as, if its JSON may be written in another way: something that fits; and if the line is the text of something
-- that fits, then just that.
abbrev pub CanBeReadAs : {B : Type 0} → (B → Type 0) → (B → List ℕ) → List ℕ → Option B → Type 0
CanBeReadAs {B} Fits text line read = IfSome read Fits × ((y : B) → Fits y → text y ≡ line → read ≡ Some y)

-- the event over these names that the JSON of a line stands for, however it is written
unfoldable pub event_in_line : List Named → List ℕ → Option Event
event_in_line known line = option_and_then (event_of known) (json_in line)

-- What is read of the line is the event that its JSON stands for; and if nothing is read, it stands for none, or isn't UTF-8.
abbrev pub IsEventOfJson : List Named → List ℕ → Option Event → Type 0
IsEventOfJson known line None = IsUtf8 line → event_in_line known line ≡ None
IsEventOfJson known line (Some e) = event_in_line known line ≡ Some e
