-- One turn of the cutting, with what the grammar sees.
use Rattle.std.proofs.Common.{◌≡◌, ℕ, ◌+◌, ◌-◌, ◌<◌, ◌≤◌, List, [], ◌∷◌, ◌++◌, length, take, drop, map, refl, sym, ap, ◌∙◌, subst, arith, Result, Ok, Err}
use Rattle.stm_parse.specs.declared.tokenizer.Token.{Token}
use Rattle.stm_parse.specs.Front.{Front}
use Rattle.stm_parse.specs.Front as front
use Rattle.stm_parse.specs.declared.fault.ParseFault.{ParseFault}
use Rattle.stm_parse.specs.declared.token.TokenKind.{TokenKind}
use Rattle.stm_parse.specs.declared.token.Lexeme.{Lexeme}
use Rattle.stm_parse.specs.Lexing.{token_kind_of, class_of, token_of, lexeme_of, lexemes_of}
use Rattle.stm_parse.specs.ParseResult.{Lexes}
use Rattle.stm_parse.specs.NameTokens.{NamesOf}
use Rattle.stm_parse.specs.Tokenizer.{front_of, with_front, next, cut, tokens_of, SpansRise}
use Rattle.stm_parse.proofs.TokenizationUnique.{cut_by_rules}
use Rattle.stm_parse.proofs.TokenizerTurn.{turn_blank, turn_found, turn_bad, cut_end, rise_more, rise_snoc}
use Rattle.stm_parse.proofs.TreeNamesAndSize.{names_of}

-- the tokens before a place
pub record AreSeen (bytes : List ℕ) (place : ℕ) (ls : List Lexeme) : Type 0 where
  pub cut_here : with_front (map token_of ls) (cut 0 place (drop place bytes)) ≡ tokens_of bytes
  pub rise : SpansRise 0 place (map token_of ls)
  pub seen : ls ≡ lexemes_of bytes (map token_of ls)

lexemes_more : (text : List ℕ) (ts : List Token) (t : Token) → lexemes_of text (ts ++ t ∷ []) ≡ lexemes_of text ts ++ lexeme_of text t ∷ []
lexemes_more text [] t = refl
lexemes_more text (s ∷ ts) t = ap (λ l. lexeme_of text s ∷ l) (lexemes_more text ts t)

tokens_more : (ls : List Lexeme) (x : Lexeme) → map token_of (ls ++ x ∷ []) ≡ map token_of ls ++ token_of x ∷ []
tokens_more [] x = refl
tokens_more (y ∷ ls) x = ap (λ ts. token_of y ∷ ts) (tokens_more ls x)

module _ (bytes : List ℕ) (place : ℕ) (ls : List Lexeme) (h : AreSeen bytes place ls) where
  pub seen_classes : length bytes ≤ place → tokens_of bytes ≡ Ok (map token_of ls)
  seen_classes l = sym h.cut_here ∙ cut_end bytes (map token_of ls) place l

  pub seen_all : length bytes ≤ place → Lexes bytes ls
  seen_all l = (map token_of ls, cut_by_rules bytes (Ok (map token_of ls)) (seen_classes l), h.seen)

  pub seen_rise : place ≤ length bytes → SpansRise 0 (length bytes) (map token_of ls)
  seen_rise l = rise_more 0 place (length bytes) (map token_of ls) l h.rise

  pub seen_names : place ≤ length bytes → NamesOf bytes ls
  seen_names l = subst (NamesOf bytes) (sym h.seen) (names_of bytes 0 (map token_of ls) (seen_rise l))

  pub seen_blank : place < length bytes → front.Blank ≡ front_of (drop place bytes) → AreSeen bytes (place + 1) ls
  seen_blank l e = record { cut_here = sym (turn_blank bytes (map token_of ls) place l front.Blank e refl) ∙ h.cut_here; rise = rise_more 0 place (place + 1) (map token_of ls) (omega arith) h.rise; seen = h.seen }

  pub seen_found : place < length bytes → (s : TokenKind) (n : ℕ) → front.Found (class_of s) n ≡ front_of (drop place bytes) → s ≡ token_kind_of (class_of s) (take n (drop place bytes)) → 0 < n → n ≤ length bytes - place → AreSeen bytes (place + n) (ls ++ record { sym = s; start = place; end = place + n } ∷ [])
  seen_found l s n e q a b =
      let ts : List Token = map token_of ls in
      let x : TokenKind → Lexeme = λ s. record { sym = s; start = place; end = place + n } in
      let t : Token = record { kind = class_of s; start = place; end = place + n } in
      let m : n ≡ place + n - place = omega arith in
      let p : x s ≡ lexeme_of bytes t = ap x (q ∙ ap (λ k. token_kind_of (class_of s) (take k (drop place bytes))) m) in
      let g : map token_of (ls ++ x s ∷ []) ≡ ts ++ t ∷ [] = tokens_more ls (x s) in
      record {
        cut_here = ap (λ ts. with_front ts (cut 0 (place + n) (drop (place + n) bytes))) g ∙ sym (turn_found bytes ts place l (front.Found (class_of s) n) e (class_of s) n refl a b) ∙ h.cut_here;
        rise = subst (SpansRise 0 (place + n)) (sym g) (rise_snoc 0 place ts t (omega arith) (omega arith) h.rise);
        seen = ap (λ m. m ++ x s ∷ []) h.seen ∙ ap (λ y. lexemes_of bytes ts ++ y ∷ []) p ∙ sym (lexemes_more bytes ts t) ∙ ap (lexemes_of bytes) (sym g);
      }

  pub seen_bad : place < length bytes → (g : Front) (x : ParseFault) → g ≡ front_of (drop place bytes) → ((go : ℕ → Result (List Token) ParseFault) → next g place go ≡ Err x) → tokens_of bytes ≡ Err x
  seen_bad l g x e n = sym h.cut_here ∙ turn_bad bytes (map token_of ls) place l g e g x refl n
