-- The code's script under way, and what its calls return, by the definitions of scripts.
use Rattle.std.specs.Prelude.{◌≡◌, ◌≢◌, ◌≤◌, ◌⊎◌, ℕ, ◌+◌, nat_lt, List, [], ◌∷◌, ◌++◌, Option, Some, None, Result, Ok, Err, IfSome, length, map, if◌then◌else◌, vec_len, ⊤}
use Rattle.stm_terms.specs.UnlessNoMemory.{AnswersUnless}
use Rattle.stm_source.specs.declared.refusal.Refusal.{Refusal}
use Rattle.stm_source.specs.OutOfMemory.{IsOutOfMemory}
use Rattle.stm_store.specs.Tables.{Declared}
use Rattle.stm_script.specs.declared.section.Section.{Section}
use Rattle.stm_script.specs.declared.section.Task.{Task}
use Rattle.stm_script.specs.Limits.{max_sections}
use Rattle.stm_script.specs.declared.script_line.LineFault.{LineFault}
use Rattle.stm_script.specs.declared.script_line.LineFault.TheVariants.{Faulty, NoMemory}
use Rattle.stm_lines.specs.declared.run_fault.RunFault.TheVariants as run
use Rattle.stm_script.specs.declared.reading_fault.ReadingFault.{ReadingFault}
use Rattle.stm_script.specs.declared.reading_fault.ReadingFault.TheVariants as reading
use Rattle.stm_script.specs.declared.script_fault.Reason.{Reason}
use Rattle.stm_script.specs.declared.script_fault.Reason.TheVariants.{Refused, ScriptTooLong}
use Rattle.stm_script.specs.declared.script_fault.ScriptFault.{ScriptFault}
use Rattle.stm_script.specs.declared.script_so_far.ScriptSoFar.{ScriptSoFar}
use Rattle.stm_script.specs.declared.script_reader.Script.{Script}
use Rattle.stm_lines.specs.LineClass.{LineClass}
use Rattle.stm_lines.specs.LineReading.{classes_from}
use Rattle.stm_script.specs.StormScript.{Begun, PartialScript, StormScript, faulty_line, most_lines, numbered_result, after_class, script_result, sections_so_far, storm_script}

-- what the definitions of scripts give, as the calls return it
abbrev pub or_faulty : {Y : Type 0} → Result Y Reason → Result Y LineFault
or_faulty (Ok y) = Ok y
or_faulty (Err why) = Err (Faulty why)

-- what the definitions of blocks, variables and expectations give, as the calls return it: a refusal makes the line faulty
abbrev pub or_refused : {Y : Type 0} → Result Y Refusal → Result Y LineFault
or_refused (Ok y) = Ok y
or_refused (Err refusal) = Err (Faulty (Refused refusal))

-- what a refusal is to a script: it makes the line faulty, unless it says that memory ran out
abbrev pub IsLineFaultOf : Refusal → LineFault → Type 0
IsLineFaultOf refusal fault = (IsOutOfMemory refusal × (fault ≡ NoMemory)) ⊎ (¬ IsOutOfMemory refusal × (fault ≡ Faulty (Refused refusal)))

-- a line, or a part of it, leads to the script under way that the definitions give, or is faulty for the reason that they give, unless memory ran out;
-- scripts of storms and of explorations are read so
abbrev pub ComesTo : {S : Type 0} → Result Unit LineFault → S → Result S Reason → Type 0
ComesTo result script answer = AnswersUnless NoMemory (λ _. script) result (or_faulty answer)

-- a text reads to what the definitions give, or makes its line faulty by the refusal that they give, unless memory ran out
abbrev pub ReadsTo : {Y : Type 0} → Result Y LineFault → Result Y Refusal → Type 0
ReadsTo result answer = AnswersUnless NoMemory (λ y. y) result (or_refused answer)

-- a declaration puts the variable after the others; a refusal leaves them as they were, unless memory ran out
abbrev pub DeclaresNext : List Declared → Result Unit Refusal → List Declared → Result Declared Refusal → Type 0
DeclaresNext old (Ok u) new answer = (d : Declared) × (answer ≡ Ok d) × (new ≡ old ++ d ∷ [])
DeclaresNext old (Err e) new answer = ¬ IsOutOfMemory e → (answer ≡ Err e) × (new ≡ old)

-- what a client is to do
abbrev pub tasks_of : Section → List Task
tasks_of s = s.tasks.items

-- a script under way, as the definitions have it
abbrev pub reading_of : ScriptSoFar → PartialScript
reading_of s = record { table = s.variables; ended = map tasks_of s.ended.items; begun = s.begun }

-- a script under way in which a section has begun
abbrev pub reading_in : List Declared → List (List Task) → Begun → PartialScript
reading_in table ended b = record { table = table; ended = ended; begun = Some b }

-- a script as the definitions have it
abbrev pub script_of : Script → StormScript
script_of s = record { table = s.table; sections = map tasks_of s.sections.items }

-- What reading a script returns, of an input that may be known: the script that the input is; the input's first faulty line and why it is
-- faulty; or that the reader failed or memory ran out, since nothing is written.
abbrev pub ReadsScript : Option (List ℕ) → Result Script ReadingFault → Type 0
ReadsScript input (Ok script) = IfSome input (λ text. storm_script text ≡ Ok (script_of script)) × (vec_len script.sections ≤ max_sections)
ReadsScript input (Err (reading.Script fault)) = IfSome input (λ text. storm_script text ≡ Err fault)
ReadsScript input (Err (reading.Run fault)) = fault ≢ run.Write

-- What ending a script under way returns, if the line after its last one has this number: the script; why there is none, and then that line
-- is the faulty one; or that memory ran out.
abbrev pub EndsScript : PartialScript → ℕ → Result Script ReadingFault → Type 0
EndsScript r next (Ok script) = (script_result (Ok r) next ≡ Ok (script_of script)) × (vec_len script.sections ≤ max_sections)
EndsScript r next (Err (reading.Script fault)) = script_result (Ok r) next ≡ Err fault
EndsScript r next (Err (reading.Run fault)) = fault ≡ run.NoMemory

-- no more sections have begun than a script may have
abbrev pub HasFewSections : PartialScript → Type 0
HasFewSections r = length (sections_so_far r.ended r.begun) ≤ max_sections

-- ---- lines by their judgement alone
-- what a line that is judged so leads to, with its number
abbrev pub after_class_at : PartialScript → ℕ → LineClass → Result PartialScript ScriptFault
after_class_at r n class =
    if nat_lt most_lines n then Err (faulty_line n ScriptTooLong) else numbered_result n (after_class r class)

-- lines that are judged so, from this number on
abbrev pub after_classes : Result PartialScript ScriptFault → ℕ → List LineClass → Result PartialScript ScriptFault
after_classes (Err e) n classes = Err e
after_classes (Ok r) n [] = Ok r
after_classes (Ok r) n (class ∷ rest) = after_classes (after_class_at r n class) (n + 1) rest

-- the script that they lead to
unfoldable pub rest_script : Result PartialScript ScriptFault → ℕ → List LineClass → Result StormScript ScriptFault
rest_script r n classes = script_result (after_classes r n classes) (n + length classes)

-- if it is known what the input was and what is left, the lines from this number on lead to its script
abbrev pub IsReadTo : Option (List ℕ) → Option (List ℕ) → PartialScript → ℕ → Type 0
IsReadTo None new r n = ⊤
IsReadTo (Some all) None r n = ⊥
IsReadTo (Some all) (Some rest) r n = storm_script all ≡ rest_script (Ok r) n (classes_from [] rest)
