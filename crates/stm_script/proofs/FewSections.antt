-- No line begins more sections than a script may have.
use Rattle.std.proofs.Common.{◌≡◌, ℕ, ◌+◌, ◌≤◌, ◌<◌, true, false, Bool, List, [], ◌∷◌, ◌++◌, length, refl, sym, subst, arith, cond, length-append, Option, Some, None, Result, Ok, Err}
use Rattle.std.specs.Prelude.{nat_lt, ⊤}
use Rattle.std.proofs.lemmas.Bool.Decides.{nat_tests}
use Rattle.stm_check.specs.TypedBlock.{Block}
use Rattle.stm_parse.specs.ExpectationFunction.{parsed_expectation}
use Rattle.stm_store.specs.Naming.{named_in_table}
use Rattle.stm_store.specs.Tables.{Declared}
use Rattle.stm_script.specs.declared.section.Task.{Task}
use Rattle.stm_script.specs.declared.section.Task.TheVariants as task
use Rattle.stm_script.specs.Limits.{max_sections}
use Rattle.stm_lines.specs.NumberArgument.{number_argument}
use Rattle.stm_source.specs.CompiledBlock.{compiled_block}
use Rattle.stm_source.specs.DeclaredVariable.{variable_of}
use Rattle.stm_source.specs.declared.refusal.Refusal.{Refusal}
use Rattle.stm_script.specs.declared.storm_word.StormWord.{StormWord}
use Rattle.stm_script.specs.declared.storm_word.StormWord.TheVariants.{Tvar, Client, Submit, Finish, Cancel, Expect}
use Rattle.stm_lines.specs.LineClass.{LineClass, TooLong, Silent, NotAscii, Words}
use Rattle.stm_script.specs.declared.script_fault.Reason.{Reason}
use Rattle.stm_script.specs.declared.script_fault.Reason.TheVariants as reason
use Rattle.stm_script.specs.ScriptReading.{HasFewSections, after_class_at}
use Rattle.stm_script.specs.StormScript.{PartialScript, Begun, sections_so_far, faulty_line, most_lines, numbered_result, with_section, declared_more, after_client, with_task, with_block, submission_of, with_submission, with_expectation, expected_task, after_task, before_sections, after_word, after_words, after_class, storm_word_named}

-- a step that leads to a script leads to one with few sections
abbrev pub Few : Result PartialScript Reason → Type 0
Few (Err why) = ⊤
Few (Ok s) = length (sections_so_far s.ended s.begun) ≤ max_sections

-- the section under way may change, and the variables
same : (sections : List (List Task)) (b c : Begun) → length (sections ++ b.tasks ∷ []) ≤ max_sections → length (sections ++ c.tasks ∷ []) ≤ max_sections
same sections b c h = omega (arith, length-append sections (b.tasks ∷ []), length-append sections (c.tasks ∷ []))

few_declared : (r : PartialScript) (d : Result Declared Refusal) → HasFewSections r → Few (declared_more r d)
few_declared r (Ok d) h = h
few_declared r (Err e) h = tt

one_more : (sections : List (List Task)) → length sections < max_sections → length (sections ++ [] ∷ []) ≤ max_sections
one_more sections h = omega (arith, length-append sections ([] ∷ []))

few_client : (r : PartialScript) (argument : List ℕ) → Few (after_client r argument)
few_client r argument = by (nat_lt 0 (length argument)) (nat_lt (length (sections_so_far r.ended r.begun)) max_sections) refl
  where
    by : (some few : Bool) → nat_lt (length (sections_so_far r.ended r.begun)) max_sections ≡ few
        → Few (cond some (Err reason.Argument) (cond few (Ok (with_section r)) (Err reason.ClientsFull)))
    by true few e = tt
    by false false e = tt
    by false true e = one_more (sections_so_far r.ended r.begun) (grind (arith, nat_tests))

few_block : (r : PartialScript) (b : Begun) (block : Result Block Refusal) → length (r.ended ++ b.tasks ∷ []) ≤ max_sections → Few (with_block r b block)
few_block r b (Ok block) h = same r.ended b (record { tasks = b.tasks ++ task.Submit block ∷ []; submissions = b.submissions + 1 }) h
few_block r b (Err e) h = tt

few_task : (r : PartialScript) (b : Begun) (t : Task) → length (r.ended ++ b.tasks ∷ []) ≤ max_sections → Few (Ok (with_task r b t))
few_task r b t h = same r.ended b (record { tasks = b.tasks ++ t ∷ []; submissions = b.submissions }) h

few_submission : (r : PartialScript) (b : Begun) (make : ℕ → Task) (k : Option ℕ) → length (r.ended ++ b.tasks ∷ []) ≤ max_sections → Few (with_submission r b make k)
few_submission r b make (Some k) h = few_task r b (make k) h
few_submission r b make None h = tt

few_expectation : (r : PartialScript) (b : Begun) (t : Result Task Refusal) → length (r.ended ++ b.tasks ∷ []) ≤ max_sections → Few (with_expectation r b t)
few_expectation r b (Ok t) h = few_task r b t h
few_expectation r b (Err e) h = tt

few_in_section : (r : PartialScript) (b : Begun) (word : StormWord) (argument : List ℕ) → length (r.ended ++ b.tasks ∷ []) ≤ max_sections → Few (after_task r b word argument)
few_in_section r b Tvar argument h = tt
few_in_section r b Client argument h = few_client r argument
few_in_section r b Submit argument h = few_block r b (compiled_block (named_in_table r.table) argument) h
few_in_section r b Finish argument h = few_submission r b task.Finish (submission_of b.submissions (number_argument argument)) h
few_in_section r b Cancel argument h = few_submission r b task.Cancel (submission_of b.submissions (number_argument argument)) h
few_in_section r b Expect argument h = few_expectation r b (expected_task r.table (parsed_expectation argument)) h

few_before : (r : PartialScript) (word : StormWord) (argument : List ℕ) → HasFewSections r → Few (before_sections r word argument)
few_before r Tvar argument h = few_declared r (variable_of r.table argument) h
few_before r Client argument h = few_client r argument
few_before r Submit argument h = tt
few_before r Finish argument h = tt
few_before r Cancel argument h = tt
few_before r Expect argument h = tt

pub few_word : (r : PartialScript) (begun : Option Begun) (word : StormWord) (argument : List ℕ) → r.begun ≡ begun → HasFewSections r → Few (after_word r begun word argument)
few_word r None word argument e h = few_before r word argument h
few_word r (Some b) word argument e h = few_in_section r b word argument (subst (λ (x : Option Begun). length (sections_so_far r.ended x) ≤ max_sections) e h)

few_words : (r : PartialScript) (word : Option StormWord) (argument : List ℕ) → HasFewSections r → Few (after_words r word argument)
few_words r (Some word) argument h = few_word r r.begun word argument refl h
few_words r None argument h = tt

few_class : (r : PartialScript) (class : LineClass) → HasFewSections r → Few (after_class r class)
few_class r TooLong h = tt
few_class r Silent h = h
few_class r NotAscii h = tt
few_class r (Words word argument) h = few_words r (storm_word_named word) argument h

-- after each line there are few
pub few_more : (r s : PartialScript) (n : ℕ) (class : LineClass) → HasFewSections r → after_class_at r n class ≡ Ok s → HasFewSections s
few_more r s n class h e = by (nat_lt most_lines n) (after_class r class) (few_class r class h) e
  where
    by : (many : Bool) (x : Result PartialScript Reason) → Few x → cond many (Err (faulty_line n reason.ScriptTooLong)) (numbered_result n x) ≡ Ok s
        → HasFewSections s
    by true x f p = absurd (cc)
    by false (Err why) f p = absurd (cc)
    by false (Ok t) f p = let same : t ≡ s = cc in subst HasFewSections same f

pub few_at_first : (r : PartialScript) → r ≡ record { table = []; ended = []; begun = None } → HasFewSections r
few_at_first r e = subst HasFewSections (sym e) (omega arith)
