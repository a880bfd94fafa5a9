-- What `check --why` prints.
use Rattle.std.specs.Prelude.{◌≡◌, ◌≢◌, ◌⊎◌, ℕ, List, [], ◌++◌, Option, Result, Ok, Err, IfSome, codes, decimal, string_bytes}
use Rattle.std.specs.Io.KnownBytes.{Keeps}
use Rattle.stm_terms.specs.Texts.{IsPrefixOf}
use Rattle.stm_lines.specs.declared.run_fault.RunFault.{RunFault}
use Rattle.stm_lines.specs.declared.run_fault.RunFault.TheVariants.{Write}
use Rattle.stm_lines.specs.WrittenFronts.{WritesSome}
use Rattle.stm_history.specs.declared.explanation.CallRefusal.{CallRefusal}
use Rattle.stm_history.specs.declared.explanation.CallRefusal.TheVariants.{Submission, Delivery, Finish, Cancellation, Declaration, Labelling}
use Rattle.stm_history.specs.declared.explanation.Explanation.{Explanation}
use Rattle.stm_history.specs.declared.explanation.Explanation.TheVariants.{Expected, Refused, Unreadable}
use Rattle.stm_history.specs.declared.fault.HistoryFault.TheVariants as fault
use Rattle.stm_history.specs.Explanation.{ReportsWhy}
use Rattle.stm_commands.specs.Refusals.{submit_error_text, deliver_error_text, finish_error_text, cancel_error_text, late_declare_error_text, label_error_text}
use Rattle.stm_console.specs.declared.checking.Finding.{Finding}
use Rattle.stm_console.specs.declared.checking.Finding.TheVariants.{Legal, BadHeader, BadLine, NotLegal}
use Rattle.stm_console.specs.Checking.{IsFinding, finding_text}

-- a refusal, as a run prints it
abbrev pub call_refusal_text : CallRefusal → List ℕ
call_refusal_text (Submission error) = submit_error_text error
call_refusal_text (Delivery error) = deliver_error_text error
call_refusal_text (Finish error) = finish_error_text error
call_refusal_text (Cancellation error) = cancel_error_text error
call_refusal_text (Declaration error) = late_declare_error_text error
call_refusal_text (Labelling error) = label_error_text error

-- the line that is printed of an explanation
abbrev pub explanation_text : Explanation → List ℕ
explanation_text (Expected line) = codes "expected " ++ string_bytes line ++ codes "\n"
explanation_text (Refused refusal) = call_refusal_text refusal
explanation_text Unreadable = codes "unreadable\n"

-- the text says why the bytes have this finding: nothing of a legal history; of any other the explanation of its first line
-- that is not accepted, after `bad header` with the line's number
abbrev pub IsWhyText : List ℕ → Finding → List ℕ → Type 0
IsWhyText bytes (Legal events) text = text ≡ []
IsWhyText bytes BadHeader text =
    (line : ℕ) × (x : Explanation) × ReportsWhy bytes fault.BadHeader line x
    × (text ≡ codes "line " ++ decimal line ++ codes " " ++ explanation_text x)
IsWhyText bytes (BadLine n) text =
    (line : ℕ) × (x : Explanation) × ReportsWhy bytes (fault.BadLine n) line x × (text ≡ explanation_text x)
IsWhyText bytes (NotLegal n) text =
    (line : ℕ) × (x : Explanation) × ReportsWhy bytes (fault.NotLegal n) line x × (text ≡ explanation_text x)

-- what is printed of the bytes with this finding: the finding, and why
abbrev pub IsAnswerWhy : List ℕ → Finding → List ℕ → Type 0
IsAnswerWhy bytes f text = IsFinding bytes f × ((why : List ℕ) × IsWhyText bytes f why × (text ≡ finding_text f ++ why))

-- nothing, or a prefix of what is printed of the bytes
abbrev pub BeginsAnswerWhy : List ℕ → List ℕ → Type 0
BeginsAnswerWhy bytes front = (front ≡ []) ⊎ ((f : Finding) × (text : List ℕ) × IsAnswerWhy bytes f text × IsPrefixOf front text)

-- What a check that also says why has written, by its result. `input` are the bytes that the reader had left, `old` and `new` those that the writer
-- had before and has after the call. None if they aren't known.
abbrev pub WritesWhy : Option (List ℕ) → Option (List ℕ) → Option (List ℕ) → Result Finding RunFault → Type 0
-- what it found of the bytes, and why
WritesWhy input old new (Ok f) = IfSome input (λ bytes. WritesSome (IsAnswerWhy bytes f) old new)
-- nothing, or a front of what is printed of the bytes; and if the writer isn't what failed, nothing
WritesWhy input old new (Err e) = IfSome input (λ bytes. WritesSome (BeginsAnswerWhy bytes) old new) × (e ≢ Write → Keeps old new)
