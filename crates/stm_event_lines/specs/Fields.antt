-- What a JSON value stands for, as the reader finds it. A line is accepted where what was found has this very line again.
use Rattle.std.specs.Prelude.{ℕ, ◌^◌, List, [], ◌∷◌, codes, nat_lt, if◌then◌else◌, Option, Some, None, option_map, option_and_then, is_some}
use Rattle.std.specs.Result.{result_ok}
use Rattle.std.specs.Str.{bytes_eq}
use Rattle.serde_json.specs.Data.{Data, Items, no_items, item}
use Rattle.serde_json.specs.Find.{get, at, as_null, as_bool, as_str, as_number, as_array, as_u64, as_i64}
use Rattle.stm_terms.specs.declared.kinds.Ty.{Ty}
use Rattle.stm_terms.specs.declared.values.Value.{Value}
use Rattle.stm_terms.specs.declared.values.Value.TheVariants as value
use Rattle.stm_terms.specs.declared.values.Ref.TheVariants.{Old, New}
use Rattle.stm_terms.specs.declared.values.Fault.{Fault}
use Rattle.stm_terms.specs.declared.values.Fault.TheVariants.{Thrown, Overflow}
use Rattle.stm_terms.specs.declared.verdicts.Verdict.{Verdict}
use Rattle.stm_terms.specs.declared.verdicts.Verdict.TheVariants.{Commits, Throws, Blocks}
use Rattle.stm_parse.specs.TypeFunction.{parsed_type}
use Rattle.stm_terms.specs.Names.{is_name_text}
use Rattle.stm_store.specs.Tables.{Declared}
use Rattle.stm_store.specs.Naming.{Named}
use Rattle.stm_source.specs.CompiledBlock.{block_of_text}
use Rattle.stm_events.specs.declared.event.Event.{Event}
use Rattle.stm_events.specs.declared.event.What.{What}
use Rattle.stm_events.specs.declared.event.What.TheVariants.{Submitted, Installed, Finished, Cancelled, Declared as DeclaredLate, Labelled}
use Rattle.stm_event_lines.specs.declared.read.Header.{Header}
use Rattle.stm_events.specs.Labels.{is_label}
use Rattle.stm_terms.specs.Limits.{max_clients}

-- the number, if it has at most 32 bits
abbrev pub in_32_bits : ℕ → Option ℕ
in_32_bits n = if nat_lt n (2 ^ 32) then Some n else None

-- a number of at most 32 bits
abbrev pub u32_of : Data → Option ℕ
u32_of d = option_and_then in_32_bits (option_and_then as_u64 (as_number d))

-- the string under a key
abbrev pub text_field : List ℕ → Data → Option (List ℕ)
text_field key d = option_and_then as_str (get key d)

-- the number of at most 32 bits under a key
abbrev pub number_field : List ℕ → Data → Option ℕ
number_field key d = option_and_then u32_of (get key d)

-- what is found first, or else second
abbrev pub or_else : {A : Type 0} → Option A → Option A → Option A
or_else None o = o
or_else (Some x) o = Some x

-- the type that a text writes; none if the text has a fault
abbrev pub type_in : List ℕ → Option Ty
type_in text = result_ok (parsed_type text)

-- a reference: the number of a variable that is there, or of a new one, by its key
abbrev pub reference_of : Data → Option Value
reference_of d =
    or_else (option_map (λ i. value.Var (Old i)) (number_field (codes "old") d))
    (option_map (λ k. value.Var (New k)) (number_field (codes "new") d))

-- what a variable holds: the unit value, a truth value, an integer or a reference
abbrev pub value_of : Data → Option Value
value_of d =
    if is_some (as_null d) then Some value.Unit
    else or_else (option_map value.Bool (as_bool d))
    (or_else (option_map value.Int (option_and_then as_i64 (as_number d))) (reference_of d))

-- a write: a pair of a variable's number and its new value
abbrev pub write_of : Data → Option (ℕ × Value)
write_of d = option_and_then (λ i. option_map (λ v. (i, v)) (option_and_then value_of (at 1 d))) (option_and_then u32_of (at 0 d))

-- a new variable: a pair of its type's text and its first value
abbrev pub new_of : Data → Option (Ty × Value)
new_of d =
    option_and_then (λ t. option_map (λ v. (t, v)) (option_and_then value_of (at 1 d)))
    (option_and_then type_in (option_and_then as_str (at 0 d)))

-- each of the items, or none
abbrev pub all_of : {A : Type 0} → (Data → Option A) → Items → Option (List A)
all_of f no_items = Some []
all_of f (item d ds) = option_and_then (λ x. option_map (λ xs. x ∷ xs) (all_of f ds)) (f d)

-- the list under a key
abbrev pub list_field : {A : Type 0} → (Data → Option A) → List ℕ → Data → Option (List A)
list_field f key d = option_and_then (all_of f) (option_and_then as_array (get key d))

-- a commit: its writes, its new variables and its result
abbrev pub commits_of : Data → Option Verdict
commits_of d =
    option_and_then (λ writes. option_and_then (λ news.
    option_map (Commits writes news) (option_and_then value_of (get (codes "result") d)))
    (list_field new_of (codes "news") d))
    (list_field write_of (codes "writes") d)

-- why a block throws: the number that it throws, or an overflow
abbrev pub fault_of : Data → Option Fault
fault_of d =
    or_else (option_map Thrown (option_and_then as_i64 (as_number d))) (if is_some (as_str d) then Some Overflow else None)

-- a verdict: that the block blocks, or else a throw or a commit
abbrev pub verdict_of : Data → Option Verdict
verdict_of d =
    if is_some (as_str d) then Some Blocks
    else or_else (option_map Throws (option_and_then fault_of (get (codes "throws") d)))
    (option_and_then commits_of (get (codes "commits") d))

-- the verdict of an event
abbrev pub verdict_field : Data → Option Verdict
verdict_field d = option_and_then verdict_of (get (codes "verdict") d)

-- the submission of the block of this text
abbrev pub submitted_of : List Named → Data → ℕ → Option What
submitted_of known d ticket = option_map (Submitted ticket) (option_and_then (block_of_text known) (text_field (codes "block") d))

-- the installation of a verdict
abbrev pub installed_of : Data → ℕ → Option What
installed_of d ticket = option_map (Installed ticket) (verdict_field d)

-- a finish: its verdict, its first new variable, and the tickets that become stale
abbrev pub finished_of : Data → ℕ → Option What
finished_of d ticket =
    option_and_then (λ v. option_and_then (λ first_new.
    option_map (Finished ticket v first_new) (list_field u32_of (codes "stale") d))
    (number_field (codes "first_new") d))
    (verdict_field d)

-- a variable: its name, its type and its first value
abbrev pub declared_from_json : Data → Option Declared
declared_from_json d =
    option_and_then (λ name. option_and_then (λ kind.
    option_map (λ v. record { name = name; kind = kind; value = v }) (option_and_then value_of (get (codes "init") d)))
    (option_and_then type_in (text_field (codes "type") d)))
    (text_field (codes "name") d)

-- the late declaration of a variable, if its name is one
abbrev pub if_named : Declared → Option What
if_named d = if is_name_text d.name then Some (DeclaredLate d.name d.kind d.value) else None

-- a late declaration
abbrev pub declared_event_of : Data → Option What
declared_event_of d = option_and_then if_named (declared_from_json d)

-- a label of a ticket, if the text is one
abbrev pub if_label : ℕ → List ℕ → Option What
if_label ticket label = if is_label label then Some (Labelled ticket label) else None

-- the label that a block gets
abbrev pub labelled_of : Data → ℕ → Option What
labelled_of d ticket = option_and_then (if_label ticket) (text_field (codes "label") d)

-- what happened to a ticket, by the word for it
abbrev pub what_of : List Named → Data → List ℕ → ℕ → Option What
what_of known d kind ticket =
    if bytes_eq kind (codes "submitted") then submitted_of known d ticket
    else if bytes_eq kind (codes "installed") then installed_of d ticket
    else if bytes_eq kind (codes "finished") then finished_of d ticket
    else if bytes_eq kind (codes "cancelled") then Some (Cancelled ticket)
    else if bytes_eq kind (codes "labelled") then labelled_of d ticket
    else None

-- the client of an event: one that there may be
abbrev pub client_field : Data → Option ℕ
client_field d = option_and_then (λ n. if nat_lt n max_clients then Some n else None) (number_field (codes "client") d)

-- what happened, by the word for it: a declaration has no ticket
abbrev pub what_in : List Named → Data → List ℕ → Option What
what_in known d kind =
    if bytes_eq kind (codes "declared") then declared_event_of d else option_and_then (what_of known d kind) (number_field (codes "ticket") d)

-- an event of a history over these names
abbrev pub event_of : List Named → Data → Option Event
event_of known d =
    option_and_then (λ kind. option_and_then (λ client.
    option_map (λ w. record { client = client; what = w }) (what_in known d kind))
    (client_field d))
    (text_field (codes "event") d)

-- a first line, whether or not its format is read
abbrev pub header_of : Data → Option Header
header_of d =
    option_and_then (λ format. option_map (λ n. record { format = format; vars = n }) (number_field (codes "vars") d))
    (number_field (codes "format") d)
