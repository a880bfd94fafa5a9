-- What reading a script returns, put together by its result.
use Rattle.std.proofs.Common.{◌≡◌, ◌∙◌, ℕ, List, Option, Result, Ok, Err, IfSome, refl, ap}
use Rattle.std.proofs.lemmas.Option.{IfSome_then}
use Rattle.stm_lines.specs.declared.run_fault.RunFault.TheVariants as run
use Rattle.stm_script.specs.declared.reading_fault.ReadingFault.{ReadingFault}
use Rattle.stm_script.specs.declared.reading_fault.ReadingFault.TheVariants as reading
use Rattle.stm_script.specs.declared.script_fault.ScriptFault.{ScriptFault}
use Rattle.stm_script.specs.declared.script_reader.Script.{Script}
use Rattle.stm_script.specs.ScriptReading.{EndsScript, ReadsScript}
use Rattle.stm_script.specs.StormScript.{PartialScript, script_result, storm_script}

-- a line is faulty, or the lines couldn't be read
pub not_read : (input : Option (List ℕ)) (e : ReadingFault) → ((f : ScriptFault) → e ≡ reading.Script f → IfSome input (λ text. storm_script text ≡ Err f))
    → (e ≡ reading.Run run.Write → ⊥) → ReadsScript input (Err e)
not_read input (reading.Script f) faulty fault = faulty f refl
not_read input (reading.Run f) faulty fault = λ is. fault (ap reading.Run is)

-- all lines were read, and the script ends so
pub read_to_end : (input : Option (List ℕ)) (r : PartialScript) (next : ℕ) (result : Result Script ReadingFault)
    → IfSome input (λ text. storm_script text ≡ script_result (Ok r) next) → EndsScript r next result → ReadsScript input result
read_to_end input r next (Ok script) read ends = (IfSome_then input read (λ text is. is ∙ ends.0), ends.1)
read_to_end input r next (Err (reading.Script f)) read ends = IfSome_then input read (λ text is. is ∙ ends)
read_to_end input r next (Err (reading.Run f)) read ends = λ is. absurd (cc (ends, is))
