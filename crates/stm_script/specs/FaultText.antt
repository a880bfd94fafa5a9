-- What is written of a faulty line of a script: its number, and the reason by a name, with the place of the cause if it has one.
use Rattle.std.specs.Prelude.{ℕ, List, [], ◌∷◌, ◌++◌, Option, Some, None, codes, decimal}
use Rattle.stm_parse.specs.declared.fault.ParseFault.{ParseFault}
use Rattle.stm_parse.specs.declared.fault.ParseFault.TheVariants as parse
use Rattle.stm_check.specs.declared.fault.TypeFault.{TypeFault}
use Rattle.stm_check.specs.declared.fault.TypeFault.TheVariants as typed
use Rattle.stm_store.specs.declared.table.DeclareError.{DeclareError}
use Rattle.stm_store.specs.declared.table.DeclareError.TheVariants as declare
use Rattle.stm_source.specs.declared.refusal.Refusal.{Refusal}
use Rattle.stm_source.specs.declared.refusal.Refusal.TheVariants.{Parsing, Typing, Unknown, Declaring}
use Rattle.stm_script.specs.declared.script_fault.Reason.{Reason}
use Rattle.stm_script.specs.declared.script_fault.Reason.TheVariants.{LineTooLong, NotAscii, Command, Argument, Late, NoClient, ClientsFull, ScriptTooLong, Refused}
use Rattle.stm_script.specs.declared.script_fault.ScriptFault.{ScriptFault}

-- the name of an error of the grammar, as the console prints it, too
abbrev pub parse_fault_name : ParseFault → List ℕ
parse_fault_name (parse.BadByte n) = codes "BadByte"
parse_fault_name (parse.BadNumber n) = codes "BadNumber"
parse_fault_name (parse.NameTooLong n) = codes "NameTooLong"
parse_fault_name (parse.Unexpected n) = codes "Unexpected"
parse_fault_name parse.EndOfText = codes "EndOfText"
parse_fault_name parse.TooDeep = codes "TooDeep"
parse_fault_name parse.TooLarge = codes "TooLarge"
parse_fault_name parse.NoMemory = codes "NoMemory"

-- the place of a fault of the grammar, in bytes from 0 in the argument
abbrev pub parse_fault_place : ParseFault → Option ℕ
parse_fault_place (parse.BadByte n) = Some n
parse_fault_place (parse.BadNumber n) = Some n
parse_fault_place (parse.NameTooLong n) = Some n
parse_fault_place (parse.Unexpected n) = Some n
parse_fault_place parse.EndOfText = None
parse_fault_place parse.TooDeep = None
parse_fault_place parse.TooLarge = None
parse_fault_place parse.NoMemory = None

-- a fault of types
abbrev pub type_fault_name : TypeFault → List ℕ
type_fault_name (typed.Unknown n) = codes "Unknown"
type_fault_name (typed.Mismatch n) = codes "Mismatch"
type_fault_name (typed.NotAVariable n) = codes "NotAVariable"
type_fault_name (typed.Untyped n) = codes "Untyped"
type_fault_name (typed.TypeTooDeep n) = codes "TypeTooDeep"
type_fault_name typed.NoMemory = codes "NoMemory"

-- the place of a fault of types
abbrev pub type_fault_place : TypeFault → Option ℕ
type_fault_place (typed.Unknown n) = Some n
type_fault_place (typed.Mismatch n) = Some n
type_fault_place (typed.NotAVariable n) = Some n
type_fault_place (typed.Untyped n) = Some n
type_fault_place (typed.TypeTooDeep n) = Some n
type_fault_place typed.NoMemory = None

-- why the table refuses a declaration, or a value is not one that a variable may hold
abbrev pub declare_error_name : DeclareError → List ℕ
declare_error_name declare.Twice = codes "Twice"
declare_error_name declare.TypeOfValue = codes "TypeOfValue"
declare_error_name declare.TableFull = codes "TableFull"
declare_error_name declare.NoMemory = codes "NoMemory"

-- why a block, a variable or an expectation is refused
abbrev pub refusal_name : Refusal → List ℕ
refusal_name (Parsing fault) = parse_fault_name fault
refusal_name (Typing fault) = type_fault_name fault
refusal_name (Unknown n) = codes "Unknown"
refusal_name (Declaring error) = declare_error_name error

-- the place of the cause
abbrev pub refusal_place : Refusal → Option ℕ
refusal_place (Parsing fault) = parse_fault_place fault
refusal_place (Typing fault) = type_fault_place fault
refusal_place (Unknown n) = Some n
refusal_place (Declaring error) = None

-- why a line is faulty
abbrev pub reason_name : Reason → List ℕ
reason_name LineTooLong = codes "LineTooLong"
reason_name NotAscii = codes "NotAscii"
reason_name Command = codes "Command"
reason_name Argument = codes "Argument"
reason_name Late = codes "Late"
reason_name NoClient = codes "no client"
reason_name ClientsFull = codes "ClientsFull"
reason_name ScriptTooLong = codes "ScriptTooLong"
reason_name (Refused refusal) = refusal_name refusal

-- the place of the cause; none if the reason has none
abbrev pub reason_place : Reason → Option ℕ
reason_place LineTooLong = None
reason_place NotAscii = None
reason_place Command = None
reason_place Argument = None
reason_place Late = None
reason_place NoClient = None
reason_place ClientsFull = None
reason_place ScriptTooLong = None
reason_place (Refused refusal) = refusal_place refusal

-- which line is faulty
abbrev pub script_fault_text : ScriptFault → List ℕ
script_fault_text f = codes "stmdesk: script line " ++ decimal f.line

-- which line is faulty, with the name of the reason, and its place if there is one
abbrev pub reason_line : ScriptFault → List ℕ → Option ℕ → List ℕ
reason_line f name (Some place) = script_fault_text f ++ codes ": " ++ name ++ 32 ∷ decimal place ++ 10 ∷ []
reason_line f name None = script_fault_text f ++ codes ": " ++ name ++ 10 ∷ []

-- what is written of a faulty line: a line with its number, and one that has the reason as well
abbrev pub script_fault_lines : ScriptFault → List ℕ
script_fault_lines f = script_fault_text f ++ 10 ∷ reason_line f (reason_name f.reason) (reason_place f.reason)
