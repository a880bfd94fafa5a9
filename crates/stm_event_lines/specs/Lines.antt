-- The lines of a history, without their line feeds: each is the compact text of a JSON value.
use Rattle.std.specs.Prelude.{◌≡◌, ◌⊎◌, ℕ, ◌≤◌, nat_le, if◌then◌else◌, List, map, codes}
use Rattle.serde_json.specs.Data.{Data, null, boolean, number, unsigned, string, array, object, item, no_items, member, no_members}
use Rattle.serde_json.specs.Find.{of_integer}
use Rattle.serde_json.specs.View.{items_of}
use Rattle.serde_json.specs.Written.{compact_text}
use Rattle.stm_terms.specs.declared.kinds.Ty.{Ty}
use Rattle.stm_terms.specs.declared.values.Value.{Value}
use Rattle.stm_terms.specs.declared.values.Value.TheVariants as value
use Rattle.stm_terms.specs.declared.values.Ref.TheVariants.{Old, New}
use Rattle.stm_terms.specs.declared.values.Fault.TheVariants.{Thrown, Overflow}
use Rattle.stm_terms.specs.declared.verdicts.Verdict.{Verdict}
use Rattle.stm_terms.specs.declared.verdicts.Verdict.TheVariants.{Commits, Throws, Blocks}
use Rattle.stm_terms.specs.Texts.{type_text}
use Rattle.stm_store.specs.Tables.{Declared}
use Rattle.stm_events.specs.declared.event.Event.{Event}
use Rattle.stm_events.specs.declared.event.What.{What}
use Rattle.stm_events.specs.declared.event.What.TheVariants.{Submitted, Installed, Finished, Cancelled, Declared as DeclaredLate, Labelled}
use Rattle.stm_events.specs.declared.staleness.StalenessRule.{StalenessRule}
use Rattle.stm_events.specs.declared.staleness.StalenessRule.TheVariants.{Written, Changed}
use Rattle.stm_event_lines.specs.declared.read.Header.{Header}

-- formats 1 to 3 are those of histories that begin with the first values of their variables, declare no variable late and label no
-- block; the last of them is written
abbrev pub table_format : ℕ
table_format = 3

-- the format of histories in which a variable is declared late, or was before their checkpoint, or a block is labelled, or of a block in the
-- checkpoint it is known why it is stale
abbrev pub declaring_format : ℕ
declaring_format = 5

-- the formats of histories that begin with the first values of their variables
abbrev pub IsFormat : ℕ → Type 0
IsFormat format = ((1 ≤ format) × (format ≤ table_format)) ⊎ (format ≡ declaring_format)

-- the rule by which the blocks of a history become stale: in formats 1 and 2 a block wakes the readers of all that it wrote
abbrev pub rule_of : ℕ → StalenessRule
rule_of format = if nat_le 3 format then Changed else Written

-- a natural number, in JSON
abbrev pub number_data : ℕ → Data
number_data n = number (unsigned n)

-- a value, in JSON: a reference has its variable's number under the key `old` or `new`
abbrev pub value_data : Value → Data
value_data (value.Int n) = number (of_integer n)
value_data (value.Bool b) = boolean b
value_data value.Unit = null
value_data (value.Var (Old i)) = object (member (codes "old") (number_data i) no_members)
value_data (value.Var (New k)) = object (member (codes "new") (number_data k) no_members)

-- a write, in JSON: a pair of the variable's number and its new value
abbrev pub write_data : ℕ × Value → Data
write_data w = array (item (number_data w.0) (item (value_data w.1) no_items))

-- a new variable, in JSON: a pair of its type's text and its first value
abbrev pub new_data : Ty × Value → Data
new_data n = array (item (string (type_text n.0)) (item (value_data n.1) no_items))

-- a verdict, in JSON
abbrev pub verdict_data : Verdict → Data
verdict_data (Commits writes news result) =
    object (member (codes "commits") (object
    (member (codes "news") (array (items_of (map new_data news)))
    (member (codes "result") (value_data result)
    (member (codes "writes") (array (items_of (map write_data writes))) no_members)))) no_members)
verdict_data (Throws (Thrown n)) = object (member (codes "throws") (number (of_integer n)) no_members)
verdict_data (Throws Overflow) = object (member (codes "throws") (string (codes "overflow")) no_members)
verdict_data Blocks = string (codes "blocks")

-- the JSON value of an event, with its keys in byte order
abbrev pub what_data : ℕ → What → Data
what_data client (Submitted ticket block) =
    object (member (codes "block") (string block.text)
    (member (codes "client") (number_data client)
    (member (codes "event") (string (codes "submitted"))
    (member (codes "ticket") (number_data ticket) no_members))))
what_data client (Installed ticket v) =
    object (member (codes "client") (number_data client)
    (member (codes "event") (string (codes "installed"))
    (member (codes "ticket") (number_data ticket)
    (member (codes "verdict") (verdict_data v) no_members))))
what_data client (Finished ticket v first_new stale) =
    object (member (codes "client") (number_data client)
    (member (codes "event") (string (codes "finished"))
    (member (codes "first_new") (number_data first_new)
    (member (codes "stale") (array (items_of (map number_data stale)))
    (member (codes "ticket") (number_data ticket)
    (member (codes "verdict") (verdict_data v) no_members))))))
what_data client (Cancelled ticket) =
    object (member (codes "client") (number_data client)
    (member (codes "event") (string (codes "cancelled"))
    (member (codes "ticket") (number_data ticket) no_members)))
what_data client (DeclaredLate name kind value) =
    object (member (codes "client") (number_data client)
    (member (codes "event") (string (codes "declared"))
    (member (codes "init") (value_data value)
    (member (codes "name") (string name)
    (member (codes "type") (string (type_text kind)) no_members)))))
what_data client (Labelled ticket label) =
    object (member (codes "client") (number_data client)
    (member (codes "event") (string (codes "labelled"))
    (member (codes "label") (string label)
    (member (codes "ticket") (number_data ticket) no_members))))

-- the JSON value of a whole event
abbrev pub event_data : Event → Data
event_data e = what_data e.client e.what

-- the first line, in JSON: the format, and how many variables' lines follow
abbrev pub header_data : ℕ → ℕ → Data
header_data format n = object (member (codes "format") (number_data format) (member (codes "vars") (number_data n) no_members))

-- a declared variable, in JSON: its first value, its name and its type's text
abbrev pub variable_data : Declared → Data
variable_data d =
    object (member (codes "init") (value_data d.value)
    (member (codes "name") (string d.name)
    (member (codes "type") (string (type_text d.kind)) no_members)))

-- the line of an event
unfoldable pub event_line : Event → List ℕ
event_line e = compact_text (event_data e)

-- the first line: the format, and how many variables' lines follow
unfoldable pub header_line : ℕ → ℕ → List ℕ
header_line format n = compact_text (header_data format n)

-- the first line that says this
abbrev pub line_of_header : Header → List ℕ
line_of_header h = header_line h.format h.vars

-- the line of a declared variable
unfoldable pub variable_line : Declared → List ℕ
variable_line d = compact_text (variable_data d)
