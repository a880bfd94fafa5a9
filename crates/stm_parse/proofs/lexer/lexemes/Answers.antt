use Rattle.std.proofs.Common.{List, ℕ, Result, Ok, Err, MatchResult, IfOk, IfErr, Vec, Global, length, map, subst, ◌≡◌, ◌≢◌}
use Rattle.stm_parse.specs.declared.fault.ParseFault.{ParseFault}
use Rattle.stm_parse.specs.declared.fault.ParseFault.TheVariants as fault
use Rattle.stm_parse.specs.declared.token.Lexeme.{Lexeme}
use Rattle.stm_parse.specs.LexedText.{LexesTo}
use Rattle.stm_parse.specs.Lexing.{token_of}
use Rattle.stm_parse.specs.NameTokens.{NamesOf}
use Rattle.stm_parse.specs.ParseResult.{Lexes}
use Rattle.stm_parse.specs.Tokenizer.{tokens_of, SpansRise, IsTokenFault}
use Rattle.stm_parse.proofs.TokenizationUnique.{rules_cut}
use Rattle.stm_parse.proofs.TokenizedIsAscii.{cut_ascii}
use Rattle.stm_parse.proofs.lexer.lexemes.Goals as goal

-- what is known of the bytes, together
lexed_to : (bytes : List ℕ) (r : Result (Vec Lexeme Global) ParseFault) → MatchResult r (λ v. Lexes bytes v.items) (λ e. e ≢ fault.NoMemory → tokens_of bytes ≡ Err e)
    → IfOk r (λ v. tokens_of bytes ≡ Ok (map token_of v.items)) → IfOk r (λ v. SpansRise 0 (length bytes) (map token_of v.items)) → IfOk r (λ v. NamesOf bytes v.items) → IfErr r IsTokenFault → LexesTo bytes r
lexed_to bytes (Ok v) h classes rise names faults = record {
  lexes = h;
  classes = classes;
  rise = rise;
  ascii = cut_ascii bytes h.0 (rules_cut bytes (Ok h.0) h.1);
  names = names;
}
lexed_to bytes (Err e) h classes rise names faults = (faults, h)

pub returns : goal.returns
returns c =
    let cut = c.cut_lexemes.ensures in
    subst (λ b. LexesTo b c.cut_lexemes.result) c.as_bytes.ensures.value (lexed_to c.as_bytes.result.now c.cut_lexemes.result cut.cuts cut.classes cut.rising cut.names cut.faults)
