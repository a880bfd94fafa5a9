-- The calls answer as the grammar allows.
use Rattle.std.proofs.Common.{◌≡◌, ℕ, List, refl, ap, ◌∙◌, Result, Ok, Err, ◌≢◌}
use Rattle.stm_terms.specs.ParsedAst.{RawAct}
use Rattle.stm_parse.specs.declared.token.Lexeme.{Lexeme}
use Rattle.stm_parse.specs.declared.token.Failure.{Failure}
use Rattle.stm_parse.specs.declared.fault.ParseFault.{ParseFault}
use Rattle.stm_parse.specs.declared.fault.ParseFault.TheVariants as fault
use Rattle.stm_parse.specs.Declarations.{declaration_in}
use Rattle.stm_parse.specs.Grammar.{IsBlock, DeclarationTree, IsDeclaration}
use Rattle.stm_parse.specs.ParseFunction.{parsed_block, declared_tree, declaration_result, parsed_declaration, BlockAnswersAreRight, DeclarationAnswersAreRight}
use Rattle.stm_parse.specs.ParseResult.{LexesWithinLimits, IsEarly, fault_of_failure}
use Rattle.stm_parse.specs.Descent.{StopsAs, block_reader, declaration_reader, whole}
use Rattle.stm_parse.proofs.AnswersCorrect.{answer_right, ok_answer, stop_answer, early_answer}
use Rattle.stm_parse.proofs.TypeReaders.{good_declaration}
use Rattle.stm_parse.proofs.WholeTextRead.{good_block}

pub early_block : (text : List ℕ) (e : ParseFault) → IsEarly text e → e ≢ fault.NoMemory → parsed_block text ≡ Err e
unfolding parsed_block
early_block text e h = early_answer block_reader text e h

pub ok_block : (text : List ℕ) (ls : List Lexeme) → LexesWithinLimits text ls → (t : RawAct) → whole block_reader ls ≡ Ok t → parsed_block text ≡ Ok t
unfolding parsed_block
ok_block text ls f t e = ok_answer block_reader text ls f t e

pub stop_block : (text : List ℕ) (ls : List Lexeme) → LexesWithinLimits text ls → (e : Failure) → StopsAs e (whole block_reader ls) → fault_of_failure ls e ≢ fault.NoMemory → parsed_block text ≡ Err (fault_of_failure ls e)
unfolding parsed_block
stop_block text ls f e h = stop_answer block_reader text ls f e h

-- a change of the tree that keeps each fault keeps how a call fails
pub fails_through : {A B : Type 0} (f : Result A ParseFault → Result B ParseFault) → ((e : ParseFault) → f (Err e) ≡ Err e) → (e : ParseFault) (r : Result A ParseFault) → (e ≢ fault.NoMemory → r ≡ Err e) → e ≢ fault.NoMemory → f r ≡ Err e
fails_through f k e r q n = ap f (q n) ∙ k e

pub early_declaration : (text : List ℕ) (e : ParseFault) → IsEarly text e → e ≢ fault.NoMemory → parsed_declaration text ≡ Err e
unfolding parsed_declaration declared_tree
early_declaration text e h = fails_through (declaration_result text) (λ e. refl) e _ (early_answer declaration_reader text e h)

pub ok_declaration : (text : List ℕ) (ls : List Lexeme) → LexesWithinLimits text ls → (t : DeclarationTree) → whole declaration_reader ls ≡ Ok t → parsed_declaration text ≡ Ok (declaration_in text t)
unfolding parsed_declaration declared_tree
ok_declaration text ls f t e = ap (declaration_result text) (ok_answer declaration_reader text ls f t e)

pub stop_declaration : (text : List ℕ) (ls : List Lexeme) → LexesWithinLimits text ls → (e : Failure) → StopsAs e (whole declaration_reader ls) → fault_of_failure ls e ≢ fault.NoMemory → parsed_declaration text ≡ Err (fault_of_failure ls e)
unfolding parsed_declaration declared_tree
stop_declaration text ls f e h = fails_through (declaration_result text) (λ e. refl) (fault_of_failure ls e) _ (stop_answer declaration_reader text ls f e h)

pub blocks_are_right : BlockAnswersAreRight
unfolding parsed_block
blocks_are_right text = answer_right block_reader IsBlock good_block text

pub declarations_are_right : DeclarationAnswersAreRight
unfolding declared_tree
declarations_are_right text = answer_right declaration_reader IsDeclaration good_declaration text
