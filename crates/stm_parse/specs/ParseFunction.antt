-- The one answer for a text, as a function. That it is right by the grammar is a law.
use Rattle.std.specs.Prelude.{◌≢◌, ℕ, ◌-◌, List, length, slice_get, nat_lt, if◌then◌else◌, Result, Ok, Err}
use Rattle.stm_terms.specs.ParsedAst.{RawAct}
use Rattle.stm_parse.specs.declared.token.Lexeme.{Lexeme}
use Rattle.stm_parse.specs.declared.token.Fault.{Fault}
use Rattle.stm_parse.specs.declared.tokenizer.Token.{Token}
use Rattle.stm_parse.specs.declared.fault.ParseFault.{ParseFault}
use Rattle.stm_parse.specs.declared.fault.ParseFault.TheVariants as fault
use Rattle.stm_parse.specs.Declarations.{ParsedDeclaration, declaration_in}
use Rattle.stm_parse.specs.Faults.{Language}
use Rattle.stm_parse.specs.Grammar.{IsBlock, DeclarationTree, IsDeclaration}
use Rattle.stm_parse.specs.Lexing.{lexemes_of}
use Rattle.stm_parse.specs.ParseResult.{most_bytes, most_tokens, IsTextOf, IsReported, fault_of_cause}
use Rattle.stm_parse.specs.Descent.{Reader, whole, block_reader, declaration_reader}
use Rattle.stm_parse.specs.Tokenizer.{tokens_of}

-- what is right to answer: a tree of which the text is a text, or the fault that is reported
abbrev pub IsAnswer : {A : Type 0} → Language A → List ℕ → Result A ParseFault → Type 0
IsAnswer L text (Ok t) = IsTextOf L text t
IsAnswer L text (Err e) = (e ≢ fault.NoMemory) × IsReported L text e

-- what was read of these tokens, with a fault at its place in the text
abbrev pub located : {A : Type 0} → List Lexeme → Result A Fault → Result A ParseFault
located ls (Ok t) = Ok t
located ls (Err f) = Err (fault_of_cause f.cause (slice_get ls (length ls - f.left)))

-- the answer for a text, by its tokens or by their first fault
abbrev pub of_tokens : {A : Type 0} → Reader A → List ℕ → Result (List Token) ParseFault → Result A ParseFault
of_tokens r text (Err e) = Err e
of_tokens r text (Ok ts) =
    if nat_lt most_tokens (length ts) then Err fault.TooLarge
    else located (lexemes_of text ts) (whole r (lexemes_of text ts))

-- the answer for a text that is read so: what was read, or the fault that is reported
unfoldable pub answered : {A : Type 0} → Reader A → List ℕ → Result A ParseFault
answered r text = if nat_lt most_bytes (length text) then Err fault.TooLarge else of_tokens r text (tokens_of text)

-- a block's tree, or the fault that is reported
unfoldable pub parsed_block : List ℕ → Result RawAct ParseFault
parsed_block text = answered block_reader text

-- a declaration's tree, or the fault that is reported
unfoldable pub declared_tree : List ℕ → Result DeclarationTree ParseFault
declared_tree text = answered declaration_reader text

-- what a tree stands for in a text; a fault stays
abbrev pub declaration_result : List ℕ → Result DeclarationTree ParseFault → Result ParsedDeclaration ParseFault
declaration_result text (Ok t) = Ok (declaration_in text t)
declaration_result text (Err e) = Err e

-- what it says of a variable
unfoldable pub parsed_declaration : List ℕ → Result ParsedDeclaration ParseFault
parsed_declaration text = declaration_result text (declared_tree text)

-- the answer for each text that is read as a block is right by the grammar
abbrev pub BlockAnswersAreRight : Type 0
BlockAnswersAreRight = (text : List ℕ) → IsAnswer IsBlock text (parsed_block text)

-- the answer for each text that is read as a declaration is right by the grammar
abbrev pub DeclarationAnswersAreRight : Type 0
DeclarationAnswersAreRight = (text : List ℕ) → IsAnswer IsDeclaration text (declared_tree text)
