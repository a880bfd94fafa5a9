-- What is sent to a writer of JSON.
use Rattle.std.specs.Prelude.{ℕ, List, map, codes}
use Rattle.serde.specs.Event.{Log, Logs, field_key}
use Rattle.serde.specs.declared.name.Case.TheVariants.{AsIs}
use Rattle.serde_json.specs.Data.{Data, array, object, member, no_members}
use Rattle.serde_json.specs.Events.{SendsValue}
use Rattle.serde_json.specs.View.{items_of}
use Rattle.stm_terms.specs.declared.kinds.Ty.{Ty}
use Rattle.stm_terms.specs.declared.values.Value.{Value}
use Rattle.stm_event_lines.specs.Lines.{value_data, write_data, new_data}

-- a member of an object is sent: its key, and then its value
abbrev pub SendsMember : List ℕ → Data → Log → Log → Type 0
SendsMember key d old new = (named : Log) × Logs old named (field_key key AsIs) × SendsValue d named new

-- what a commit does, in JSON
abbrev pub changes_data : List (ℕ × Value) → List (Ty × Value) → Value → Data
changes_data writes news result =
    object (member (codes "news") (array (items_of (map new_data news)))
    (member (codes "result") (value_data result)
    (member (codes "writes") (array (items_of (map write_data writes))) no_members)))
