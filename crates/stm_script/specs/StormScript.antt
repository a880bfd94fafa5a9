-- What a script of a storm says: variables, and what each of some clients does.
use Rattle.std.specs.Prelude.{ℕ, ◌+◌, ◌-◌, ◌&&◌, nat_lt, nat_le, List, [], ◌∷◌, ◌++◌, Option, Some, None, Result, Ok, Err, if◌then◌else◌, codes, length, slice_get}
use Rattle.std.specs.Str.{bytes_eq}
use Rattle.stm_terms.specs.declared.values.Value.{Value}
use Rattle.stm_check.specs.TypedBlock.{Block}
use Rattle.stm_parse.specs.declared.fault.ParseFault.{ParseFault}
use Rattle.stm_parse.specs.ExpectationFunction.{parsed_expectation}
use Rattle.stm_parse.specs.Expectations.{ParsedExpectation}
use Rattle.stm_store.specs.declared.table.DeclareError.TheVariants.{TypeOfValue}
use Rattle.stm_store.specs.Naming.{named_in_table}
use Rattle.stm_store.specs.Tables.{Declared, declared_cells, number_of, is_of}
use Rattle.stm_script.specs.declared.section.Task.{Task}
use Rattle.stm_script.specs.declared.section.Task.TheVariants as task
use Rattle.stm_script.specs.Limits.{max_sections}
use Rattle.stm_source.specs.declared.refusal.Refusal.{Refusal}
use Rattle.stm_source.specs.declared.refusal.Refusal.TheVariants.{Parsing, Unknown, Declaring}
use Rattle.stm_script.specs.declared.script_fault.Reason.{Reason}
use Rattle.stm_script.specs.declared.script_fault.Reason.TheVariants as reason
use Rattle.stm_script.specs.declared.script_fault.ScriptFault.{ScriptFault}
use Rattle.stm_script.specs.declared.storm_word.StormWord.{StormWord}
use Rattle.stm_script.specs.declared.storm_word.StormWord.TheVariants.{Tvar, Client, Submit, Finish, Cancel, Expect}
use Rattle.stm_lines.specs.NumberArgument.{number_argument}
use Rattle.stm_source.specs.CompiledBlock.{compiled_block}
use Rattle.stm_source.specs.DeclaredVariable.{initial, variable_of}
use Rattle.stm_lines.specs.LineClass.{LineClass, TooLong, Silent, NotAscii, Words, line_class}
use Rattle.stm_lines.specs.Lines.{lines_of}

-- the word that a line begins with
unfoldable pub storm_word_named : List ℕ → Option StormWord
storm_word_named word =
    if bytes_eq word (codes "tvar") then Some Tvar
    else if bytes_eq word (codes "client") then Some Client
    else if bytes_eq word (codes "submit") then Some Submit
    else if bytes_eq word (codes "finish") then Some Finish
    else if bytes_eq word (codes "cancel") then Some Cancel
    else if bytes_eq word (codes "expect") then Some Expect
    else None

-- a script that was read: its variables, and what each client does
pub record StormScript : Type 0 where
  pub table : List Declared
  pub sections : List (List Task)

-- a section under way: its tasks so far, and how many of them are submissions
pub record Begun : Type 0 where
  pub tasks : List Task
  pub submissions : ℕ

-- a script under way: its variables, the sections that have ended, and the one under way, if any has begun
pub record PartialScript : Type 0 where
  pub table : List Declared
  pub ended : List (List Task)
  pub begun : Option Begun

-- nothing was read yet
abbrev pub nothing_read : PartialScript
nothing_read = record { table = []; ended = []; begun = None }

-- ---- the lines, or the first reason why a line is faulty
-- `tvar`: a variable more, before the first section
abbrev pub declared_more : PartialScript → Result Declared Refusal → Result PartialScript Reason
declared_more r (Ok d) = Ok (record r { table = r.table ++ d ∷ [] })
declared_more r (Err e) = Err (reason.Refused e)

-- the sections so far
abbrev pub sections_so_far : List (List Task) → Option Begun → List (List Task)
sections_so_far ended None = ended
sections_so_far ended (Some b) = ended ++ b.tasks ∷ []

-- the section under way, if any has begun, has ended
abbrev pub without_begun : PartialScript → PartialScript
without_begun r = record { table = r.table; ended = sections_so_far r.ended r.begun; begun = None }

-- the next section begins
abbrev pub with_section : PartialScript → PartialScript
with_section r = record {
  table = r.table;
  ended = sections_so_far r.ended r.begun;
  begun = Some (record { tasks = []; submissions = 0 });
}

-- `client`: the next section begins, unless it has an argument, or there are as many sections as there may be
abbrev pub after_client : PartialScript → List ℕ → Result PartialScript Reason
after_client r argument =
    if nat_lt 0 (length argument) then Err reason.Argument
    else if nat_lt (length (sections_so_far r.ended r.begun)) max_sections then Ok (with_section r)
    else Err reason.ClientsFull

-- a task more in the section under way
abbrev pub with_task : PartialScript → Begun → Task → PartialScript
with_task r b t = record r { begun = Some (record b { tasks = b.tasks ++ t ∷ [] }) }

-- `submit`: the submission of a block more
abbrev pub with_block : PartialScript → Begun → Result Block Refusal → Result PartialScript Reason
with_block r b (Ok block) = Ok (record r {
  begun = Some (record { tasks = b.tasks ++ task.Submit block ∷ []; submissions = b.submissions + 1 });
})
with_block r b (Err e) = Err (reason.Refused e)

-- the submission of a number, counted from 0, if the number, counted from 1, is one of those before
abbrev pub submission_of : ℕ → Option ℕ → Option ℕ
submission_of submissions (Some n) = if nat_lt 0 n && nat_le n submissions then Some (n - 1) else None
submission_of submissions None = None

-- `finish` and `cancel`: a task more for one of the submissions before, if there is such a one
abbrev pub with_submission : PartialScript → Begun → (ℕ → Task) → Option ℕ → Result PartialScript Reason
with_submission r b make (Some k) = Ok (with_task r b (make k))
with_submission r b make None = Err reason.Argument

-- the name of an expectation, which its text begins with, isn't declared
abbrev pub unknown_name : Refusal
unknown_name = Unknown 0

-- the value is one that the variable may hold; else it is refused as one in a declaration
abbrev pub expected_at : List Declared → ℕ → Option Declared → Result Value Refusal → Result Task Refusal
expected_at table i (Some d) (Ok v) = if is_of (declared_cells table) v d.kind then Ok (task.Expect i v) else Err (Declaring TypeOfValue)
expected_at table i (Some d) (Err e) = Err e
expected_at table i None v = Err unknown_name

-- what is expected of a variable by its number
abbrev pub expected_of : List Declared → ParsedExpectation → Option ℕ → Result Task Refusal
expected_of table e (Some i) = expected_at table i (slice_get table i) (initial table e.value)
expected_of table e None = Err unknown_name

-- what is expected of a declared variable; a name stands for the reference to its variable
abbrev pub expected_task : List Declared → Result ParsedExpectation ParseFault → Result Task Refusal
expected_task table (Ok e) = expected_of table e (number_of e.name table)
expected_task table (Err e) = Err (Parsing e)

-- `expect`: an expectation more
abbrev pub with_expectation : PartialScript → Begun → Result Task Refusal → Result PartialScript Reason
with_expectation r b (Ok t) = Ok (with_task r b t)
with_expectation r b (Err e) = Err (reason.Refused e)

-- a line of a section
abbrev pub after_task : PartialScript → Begun → StormWord → List ℕ → Result PartialScript Reason
after_task r b Tvar argument = Err reason.Late
after_task r b Client argument = after_client r argument
after_task r b Submit argument = with_block r b (compiled_block (named_in_table r.table) argument)
after_task r b Finish argument = with_submission r b task.Finish (submission_of b.submissions (number_argument argument))
after_task r b Cancel argument = with_submission r b task.Cancel (submission_of b.submissions (number_argument argument))
after_task r b Expect argument = with_expectation r b (expected_task r.table (parsed_expectation argument))

-- a line before the first section
abbrev pub before_sections : PartialScript → StormWord → List ℕ → Result PartialScript Reason
before_sections r Tvar argument = declared_more r (variable_of r.table argument)
before_sections r Client argument = after_client r argument
before_sections r Submit argument = Err reason.NoClient
before_sections r Finish argument = Err reason.NoClient
before_sections r Cancel argument = Err reason.NoClient
before_sections r Expect argument = Err reason.NoClient

-- a line whose word is known
abbrev pub after_word : PartialScript → Option Begun → StormWord → List ℕ → Result PartialScript Reason
after_word r None word argument = before_sections r word argument
after_word r (Some b) word argument = after_task r b word argument

-- and the section under way, if any has begun, is that of the script
abbrev pub after_known : PartialScript → StormWord → List ℕ → Result PartialScript Reason
after_known r word argument = after_word r r.begun word argument

-- a line by its word
abbrev pub after_words : PartialScript → Option StormWord → List ℕ → Result PartialScript Reason
after_words r (Some word) argument = after_known r word argument
after_words r None argument = Err reason.Command

-- a line by its judgement
abbrev pub after_class : PartialScript → LineClass → Result PartialScript Reason
after_class r TooLong = Err reason.LineTooLong
after_class r Silent = Ok r
after_class r NotAscii = Err reason.NotAscii
after_class r (Words word argument) = after_words r (storm_word_named word) argument

-- a line, judged as those of a run are
unfoldable pub after_line : PartialScript → List ℕ → Result PartialScript Reason
after_line r line = after_class r (line_class line)

-- ---- the script
-- how many lines a script may have
abbrev pub most_lines : ℕ
most_lines = 1048576

-- the line of this number is faulty for this reason
abbrev pub faulty_line : ℕ → Reason → ScriptFault
faulty_line n why = record { line = n; reason = why }

-- what a line with its number leads to, or why it is faulty
abbrev pub numbered_result : ℕ → Result PartialScript Reason → Result PartialScript ScriptFault
numbered_result n (Ok r) = Ok r
numbered_result n (Err why) = Err (faulty_line n why)

-- a line with its number, of which there are no more than a script may have
abbrev pub after_numbered : PartialScript → ℕ → List ℕ → Result PartialScript ScriptFault
after_numbered r n line =
    if nat_lt most_lines n then Err (faulty_line n reason.ScriptTooLong) else numbered_result n (after_line r line)

-- the lines from this number on, to the first that is faulty
abbrev pub after_lines : Result PartialScript ScriptFault → ℕ → List (List ℕ) → Result PartialScript ScriptFault
after_lines (Err e) n lines = Err e
after_lines (Ok r) n [] = Ok r
after_lines (Ok r) n (line ∷ rest) = after_lines (after_numbered r n line) (n + 1) rest

-- in the end there has to be a section; else the line after the last one, which has this number, is faulty
abbrev pub ended_script : List Declared → List (List Task) → Option Begun → ℕ → Result StormScript ScriptFault
ended_script table ended (Some b) next = Ok (record { table = table; sections = ended ++ b.tasks ∷ [] })
ended_script table ended None next = Err (faulty_line next reason.NoClient)

-- the script that was read to its end, if the line after its last one has this number; or its first faulty line
abbrev pub script_result : Result PartialScript ScriptFault → ℕ → Result StormScript ScriptFault
script_result (Ok r) next = ended_script r.table r.ended r.begun next
script_result (Err f) next = Err f

-- the script that a text is, or its first faulty line and why it is faulty; lines are counted from 1
unfoldable pub storm_script : List ℕ → Result StormScript ScriptFault
storm_script input = script_result (after_lines (Ok nothing_read) 1 (lines_of input)) (length (lines_of input) + 1)
