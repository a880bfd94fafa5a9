-- A text of the grammar, and which fault is reported of any other text.
use Rattle.std.specs.Prelude.{◌≡◌, ℕ, ◌-◌, ◌<◌, ◌≤◌, ◌⊎◌, List, ◌∷◌, ◌++◌, length, slice_get, Option, Some, None, Result, Ok, Err, MatchResult, ⊤}
use Rattle.stm_parse.specs.declared.token.Lexeme.{Lexeme}
use Rattle.stm_parse.specs.declared.token.ErrorKind.{ErrorKind}
use Rattle.stm_parse.specs.declared.token.ErrorKind.TheVariants as cause
use Rattle.stm_parse.specs.declared.token.Failure.{Failure}
use Rattle.stm_parse.specs.declared.token.Failure.TheVariants as stop
use Rattle.stm_parse.specs.declared.tokenizer.Token.{Token}
use Rattle.stm_parse.specs.declared.fault.ParseFault.{ParseFault}
use Rattle.stm_parse.specs.declared.fault.ParseFault.TheVariants as fault
use Rattle.stm_parse.specs.MaximalMunch.{IsTokenization}
use Rattle.stm_parse.specs.Lexing.{lexemes_of}
use Rattle.stm_parse.specs.Faults.{Language, IsText, Begins, AtFault}

-- the most bytes of a text
unfoldable pub most_bytes : ℕ
most_bytes = 65536

-- the most tokens of a text
unfoldable pub most_tokens : ℕ
most_tokens = 4096

-- the text has these tokens
abbrev pub Lexes : List ℕ → List Lexeme → Type 0
Lexes text ls = (ts : List Token) × IsTokenization 0 text (Ok ts) × (ls ≡ lexemes_of text ts)

-- and neither too many bytes nor too many tokens
abbrev pub LexesWithinLimits : List ℕ → List Lexeme → Type 0
LexesWithinLimits text ls = (length text ≤ most_bytes) × Lexes text ls × (length ls ≤ most_tokens)

-- the text is a text of this tree, within the limits
abbrev pub IsTextOf : {A : Type 0} → Language A → List ℕ → A → Type 0
IsTextOf L text t = (ls : List Lexeme) × LexesWithinLimits text ls × IsText L ls t

-- the token that begins at this place is the first at fault
abbrev pub FirstAtFault : {A : Type 0} → Language A → List ℕ → ErrorKind → ℕ → Type 0
FirstAtFault L text c place =
    (ls q s : List Lexeme) × (x : Lexeme) × LexesWithinLimits text ls
    × (ls ≡ q ++ (x ∷ s)) × (x.start ≡ place) × Begins L q × AtFault L c q (x ∷ s)

-- no token is at fault, and the tokens are no text
abbrev pub EndsTooSoon : {A : Type 0} → Language A → List ℕ → Type 0
EndsTooSoon {A} L text = (ls : List Lexeme) × LexesWithinLimits text ls × Begins L ls × ((t : A) → IsText L ls t → ⊥)

-- the fault that is reported of tokens, before any of the grammar
abbrev pub IsEarly : List ℕ → ParseFault → Type 0
IsEarly text fault.TooLarge =
    (most_bytes < length text)
    ⊎ (ls : List Lexeme) × (length text ≤ most_bytes) × Lexes text ls × (most_tokens < length ls)
IsEarly text (fault.BadByte n) = (length text ≤ most_bytes) × IsTokenization 0 text (Err (fault.BadByte n))
IsEarly text (fault.BadNumber n) = (length text ≤ most_bytes) × IsTokenization 0 text (Err (fault.BadNumber n))
IsEarly text (fault.NameTooLong n) = (length text ≤ most_bytes) × IsTokenization 0 text (Err (fault.NameTooLong n))
IsEarly text (fault.Unexpected n) = ⊥
IsEarly text fault.EndOfText = ⊥
IsEarly text fault.TooDeep = ⊥
IsEarly text fault.NoMemory = ⊤

-- the fault that is reported: too many bytes; the first fault of the tokens; too many tokens; the first token at fault; an
-- early end
abbrev pub IsReported : {A : Type 0} → Language A → List ℕ → ParseFault → Type 0
IsReported L text fault.TooLarge = IsEarly text fault.TooLarge
IsReported L text (fault.BadByte n) = IsEarly text (fault.BadByte n)
IsReported L text (fault.BadNumber n) = IsEarly text (fault.BadNumber n) ⊎ FirstAtFault L text cause.BadNumber n
IsReported L text (fault.NameTooLong n) = IsEarly text (fault.NameTooLong n)
IsReported L text (fault.Unexpected n) = FirstAtFault L text cause.Unexpected n
IsReported L text fault.EndOfText = EndsTooSoon L text
IsReported L text fault.TooDeep = (n : ℕ) × FirstAtFault L text cause.TooDeep n
IsReported L text fault.NoMemory = ⊤

-- what is reported of a fault that is left so far from the end
abbrev pub fault_of_cause : ErrorKind → Option Lexeme → ParseFault
fault_of_cause cause.Unexpected None = fault.EndOfText
fault_of_cause cause.TooDeep None = fault.EndOfText
fault_of_cause cause.BadNumber None = fault.EndOfText
fault_of_cause cause.Unexpected (Some x) = fault.Unexpected x.start
fault_of_cause cause.TooDeep (Some x) = fault.TooDeep
fault_of_cause cause.BadNumber (Some x) = fault.BadNumber x.start

-- what is reported of the place at which the descent stopped
abbrev pub fault_of_failure : List Lexeme → Failure → ParseFault
fault_of_failure ls stop.Memory = fault.NoMemory
fault_of_failure ls (stop.At f) = fault_of_cause f.cause (slice_get ls (length ls - f.left))

-- what was read, seen by view, is what one of the trees of the text stands for; a fault is the one that is reported
abbrev pub ReadsByGrammar : {A X Y : Type 0} → Language A → (List ℕ → A → Y) → (X → Y) → List ℕ → Result X ParseFault → Type 0
ReadsByGrammar {A} L stands_for view text (Ok x) = (t : A) × IsTextOf L text t × (view x ≡ stands_for text t)
ReadsByGrammar L stands_for view text (Err e) = IsReported L text e

-- each text is read, with its one tree, unless memory runs out
abbrev pub ReadsEachText : {A X Y : Type 0} → Language A → (List ℕ → A → Y) → (X → Y) → List ℕ → Result X ParseFault → Type 0
ReadsEachText {A} L stands_for view text result =
    (t : A) → IsTextOf L text t → MatchResult result (λ x. view x ≡ stands_for text t) (λ e. e ≡ fault.NoMemory)

-- what was read, seen by view, is a tree of the text; a fault is the one that is reported
abbrev pub ReadsTreeByGrammar : {A X : Type 0} → Language A → (X → A) → List ℕ → Result X ParseFault → Type 0
ReadsTreeByGrammar L view text (Ok x) = IsTextOf L text (view x)
ReadsTreeByGrammar L view text (Err e) = IsReported L text e

-- each text is read as its one tree, unless memory runs out
abbrev pub ReadsEachTree : {A X : Type 0} → Language A → (X → A) → List ℕ → Result X ParseFault → Type 0
ReadsEachTree L view text result = ReadsEachText L (λ _ t. t) view text result
