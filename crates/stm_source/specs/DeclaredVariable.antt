-- The variable that a text declares, or why it is refused.
use Rattle.std.specs.Prelude.{ℕ, List, Option, Some, None, Result, Ok, Err}
use Rattle.stm_terms.specs.declared.kinds.Ty.{Ty}
use Rattle.stm_terms.specs.declared.values.Ref.TheVariants.{Old}
use Rattle.stm_terms.specs.declared.values.Value.{Value}
use Rattle.stm_terms.specs.declared.values.Value.TheVariants.{Var}
use Rattle.stm_parse.specs.declared.fault.ParseFault.{ParseFault}
use Rattle.stm_parse.specs.Declarations.{ParsedInit, literal, named, ParsedDeclaration}
use Rattle.stm_parse.specs.ParseFunction.{parsed_declaration}
use Rattle.stm_store.specs.declared.table.DeclareError.{DeclareError}
use Rattle.stm_store.specs.Naming.{Named, number_named}
use Rattle.stm_store.specs.Tables.{Declared, number_of, declare_refusal}
use Rattle.stm_source.specs.declared.refusal.Refusal.{Refusal}
use Rattle.stm_source.specs.declared.refusal.Refusal.TheVariants.{Parsing, Unknown, Declaring as Refused}

-- a name in place of a first value stands for a reference to its variable
abbrev pub reference_to : ℕ → Option ℕ → Result Value Refusal
reference_to place (Some i) = Ok (Var (Old i))
reference_to place None = Err (Unknown place)

-- the first value that a declaration gives its variable, or why it is refused
abbrev pub initial : List Declared → ParsedInit → Result Value Refusal
initial table (literal v) = Ok v
initial table (named name place) = reference_to place (number_of name table)

-- the variable, unless the table refuses it
abbrev pub unless_refused : Declared → Option DeclareError → Result Declared Refusal
unless_refused d None = Ok d
unless_refused d (Some e) = Err (Refused e)

-- the variable of this name, type and first value, or why it is refused
abbrev pub with_initial_value : List Declared → List ℕ → Ty → Result Value Refusal → Result Declared Refusal
with_initial_value table name kind (Ok v) =
    unless_refused (record { name = name; kind = kind; value = v }) (declare_refusal table name kind v)
with_initial_value table name kind (Err e) = Err e

-- the variable of a declaration that was parsed, or why it is refused
abbrev pub on_declaration : List Declared → Result ParsedDeclaration ParseFault → Result Declared Refusal
on_declaration table (Ok d) = with_initial_value table d.name d.kind (initial table d.init)
on_declaration table (Err e) = Err (Parsing e)

-- the variable that a text declares after the others; the first that holds of a fault of the grammar, an undeclared
-- first value, and what the table refuses
unfoldable pub variable_of : List Declared → List ℕ → Result Declared Refusal
variable_of table text = on_declaration table (parsed_declaration text)

-- ---- a variable that is declared late
-- the first value that a late declaration gives its variable, over the names that are known then
abbrev pub late_initial : List Named → ParsedInit → Result Value Refusal
late_initial known (literal v) = Ok v
late_initial known (named name place) = reference_to place (number_named name known)

-- its variable, if the first value has one
abbrev pub with_late_value : List ℕ → Ty → Result Value Refusal → Result Declared Refusal
with_late_value name kind (Ok v) = Ok (record { name = name; kind = kind; value = v })
with_late_value name kind (Err e) = Err e

-- the variable of a late declaration that was parsed, or why it is refused
abbrev pub on_late_declaration : List Named → Result ParsedDeclaration ParseFault → Result Declared Refusal
on_late_declaration known (Ok d) = with_late_value d.name d.kind (late_initial known d.init)
on_late_declaration known (Err e) = Err (Parsing e)

-- the variable that a text declares late; the first that holds of a fault of the grammar and an undeclared first value. What else
-- refuses it, the desk says (`late_declare_refused`)
unfoldable pub late_variable_of : List Named → List ℕ → Result Declared Refusal
late_variable_of known text = on_late_declaration known (parsed_declaration text)
