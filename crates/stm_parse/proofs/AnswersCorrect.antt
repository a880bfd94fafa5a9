-- What a good reader answers for a text is right.
use Rattle.std.proofs.Common.{◌≡◌, ◌≢◌, ℕ, zero, suc, ◌+◌, ◌-◌, ◌<◌, ◌≤◌, List, [], ◌∷◌, length, slice_get, refl, sym, ap, ◌∙◌, subst, arith, Bool, true, false, cond, nat_lt, Option, Some, None, Result, Ok, Err, inl, inr}
use Rattle.std.proofs.lemmas.Bool.{le-ltb, lt-ltb, ltb-false, ltb-true}
use Rattle.stm_parse.specs.declared.token.Lexeme.{Lexeme}
use Rattle.stm_parse.specs.declared.token.ErrorKind.{ErrorKind}
use Rattle.stm_parse.specs.declared.token.ErrorKind.TheVariants as cause
use Rattle.stm_parse.specs.declared.token.Fault.{Fault}
use Rattle.stm_parse.specs.declared.token.Failure.{Failure}
use Rattle.stm_parse.specs.declared.token.Failure.TheVariants as stop
use Rattle.stm_parse.specs.declared.tokenizer.Token.{Token}
use Rattle.stm_parse.specs.Front.{Front}
use Rattle.stm_parse.specs.Front as front
use Rattle.stm_parse.specs.declared.fault.ParseFault.{ParseFault}
use Rattle.stm_parse.specs.declared.fault.ParseFault.TheVariants as fault
use Rattle.stm_parse.specs.Tokenizer.{cut, front_of, next, with_front, tokens_of, IsTokenFault}
use Rattle.stm_parse.specs.Lexing.{lexemes_of}
use Rattle.stm_parse.specs.Faults.{Language}
use Rattle.stm_parse.specs.ParseResult.{most_bytes, most_tokens, LexesWithinLimits, IsEarly, fault_of_cause, fault_of_failure}
use Rattle.stm_parse.specs.Descent.{Reader, StopsAs, whole}
use Rattle.stm_parse.specs.ParseFunction.{IsAnswer, located, of_tokens, answered}
use Rattle.stm_parse.proofs.ReaderCorrect.{Good, Any}
use Rattle.stm_parse.proofs.TokenizationUnique.{rules_cut}
use Rattle.stm_parse.proofs.FaultReported.{tokens_early, early_reported, lexemes_count, too_many, they_fit, ok_text, stop_reported}

-- a fault of a text's tokens
abbrev IsCutting : ParseFault → Type 0
IsCutting e = IsTokenFault e × (e ≢ fault.NoMemory)

cut_fault : (k place : ℕ) (bytes : List ℕ) (e : ParseFault) → cut k place bytes ≡ Err e → IsCutting e
unfolding cut
cut_fault k place [] e q = absurd cc
cut_fault (suc k) place (b ∷ bytes) e q = cut_fault k (place + 1) bytes e q
cut_fault zero place (b ∷ bytes) e q = of (λ k q. cut_fault k (place + 1) bytes e q) (front_of (b ∷ bytes)) q
  where
    is : (x : ParseFault) → (let r : Result (List Token) ParseFault = Err x in r ≡ Err e) → IsCutting x → IsCutting e
    is x q h = let p : x ≡ e = cc in subst IsCutting p h

    of : ((k : ℕ) → cut k (place + 1) bytes ≡ Err e → IsCutting e) → (f : Front) → next f place (λ k. cut k (place + 1) bytes) ≡ Err e → IsCutting e
    of rec front.Blank q = rec 0 q
    of rec (front.Found kind n) q = found (cut (n - 1) (place + 1) bytes) refl q
      where
        found : (r : Result (List Token) ParseFault) → cut (n - 1) (place + 1) bytes ≡ r → with_front (record { kind = kind; start = place; end = place + n } ∷ []) r ≡ Err e → IsCutting e
        found (Ok us) p q = absurd cc
        found (Err x) p q = rec (n - 1) (p ∙ q)
    of rec front.BadByte q = is (fault.BadByte place) q (tt, λ p. cc)
    of rec front.LongName q = is (fault.NameTooLong place) q (tt, λ p. cc)
    of rec front.BadNumber q = is (fault.BadNumber place) q (tt, λ p. cc)

cause_is_no_memory : (c : ErrorKind) (o : Option Lexeme) → fault_of_cause c o ≢ fault.NoMemory
cause_is_no_memory cause.Unexpected None e = cc
cause_is_no_memory cause.TooDeep None e = cc
cause_is_no_memory cause.BadNumber None e = cc
cause_is_no_memory cause.Unexpected (Some x) e = cc
cause_is_no_memory cause.TooDeep (Some x) e = cc
cause_is_no_memory cause.BadNumber (Some x) e = cc

module _ {A : Type 0} (r : Reader A) (L : Language A) (good : (n : ℕ) → Good n r L Any) (text : List ℕ) where
  of_lexemes : (ls : List Lexeme) → LexesWithinLimits text ls → IsAnswer L text (located ls (whole r ls))
  of_lexemes ls f = by (whole r ls) refl
    where
      by : (y : Result A Fault) → whole r ls ≡ y → IsAnswer L text (located ls y)
      by (Ok t) e = ok_text r L good text ls f t e
      by (Err x) e = (cause_is_no_memory x.cause (slice_get ls (length ls - x.left)), stop_reported r L good text ls f (stop.At x) e)

  of_cut : length text ≤ most_bytes → (y : Result (List Token) ParseFault) → tokens_of text ≡ y → IsAnswer L text (of_tokens r text y)
  of_cut l (Err e) q = let k = cut_fault 0 0 text e q in (k.1, early_reported L text e (tokens_early text e l (λ n. q) k.0))
  of_cut l (Ok ts) q = by (nat_lt most_tokens (length ts)) refl
    where
      by : (b : Bool) → nat_lt most_tokens (length ts) ≡ b → IsAnswer L text (cond b (Err fault.TooLarge) (located (lexemes_of text ts) (whole r (lexemes_of text ts))))
      by true e = (λ p. cc, too_many text ts l q (ltb-true most_tokens (length ts) e))
      by false e = of_lexemes (lexemes_of text ts) (they_fit text ts (lexemes_of text ts) l q (ltb-false most_tokens (length ts) e) refl)

  pub answer_right : IsAnswer L text (answered r text)
  unfolding answered
  answer_right = by (nat_lt most_bytes (length text)) refl
    where
      by : (b : Bool) → nat_lt most_bytes (length text) ≡ b → IsAnswer L text (cond b (Err fault.TooLarge) (of_tokens r text (tokens_of text)))
      by true e = (λ p. cc, inl (ltb-true most_bytes (length text) e))
      by false e = of_cut (ltb-false most_bytes (length text) e) (tokens_of text) refl

module _ {A : Type 0} (r : Reader A) (text : List ℕ) where
  small : length text ≤ most_bytes → answered r text ≡ of_tokens r text (tokens_of text)
  unfolding answered
  small l = ap (λ b. cond b (Err fault.TooLarge) (of_tokens r text (tokens_of text))) (le-ltb most_bytes (length text) l)

  pub fits_answer : (ls : List Lexeme) → LexesWithinLimits text ls → answered r text ≡ located ls (whole r ls)
  fits_answer ls f =
      let ts = f.1.0 in
      let e = ap length f.1.2 in
      let k = lexemes_count text ts in
      let m = f.2 in
      let n : length ts ≤ most_tokens = omega arith in
      small f.0 ∙ ap (of_tokens r text) (rules_cut text (Ok ts) f.1.1) ∙ ap (λ b. cond b (Err fault.TooLarge) (located (lexemes_of text ts) (whole r (lexemes_of text ts)))) (le-ltb most_tokens (length ts) n) ∙ ap (λ l. located l (whole r l)) (sym f.1.2)

  pub ok_answer : (ls : List Lexeme) → LexesWithinLimits text ls → (t : A) → whole r ls ≡ Ok t → answered r text ≡ Ok t
  ok_answer ls f t e = fits_answer ls f ∙ ap (located ls) e

  pub stop_answer : (ls : List Lexeme) → LexesWithinLimits text ls → (e : Failure) → StopsAs e (whole r ls) → fault_of_failure ls e ≢ fault.NoMemory → answered r text ≡ Err (fault_of_failure ls e)
  stop_answer ls f stop.Memory h n = absurd (n refl)
  stop_answer ls f (stop.At x) h n = fits_answer ls f ∙ ap (located ls) h

  pub early_answer : (e : ParseFault) → IsEarly text e → e ≢ fault.NoMemory → answered r text ≡ Err e
  unfolding answered
  early_answer fault.TooLarge (inl l) q = ap (λ b. cond b (Err fault.TooLarge) (of_tokens r text (tokens_of text))) (lt-ltb most_bytes (length text) l)
  early_answer fault.TooLarge (inr h) q =
      let ts = h.2.0 in
      let e = ap length h.2.2 in
      let k = lexemes_count text ts in
      let m = h.3 in
      let n : most_tokens < length ts = omega arith in
      small h.1 ∙ ap (of_tokens r text) (rules_cut text (Ok ts) h.2.1) ∙ ap (λ b. cond b (Err fault.TooLarge) (located (lexemes_of text ts) (whole r (lexemes_of text ts)))) (lt-ltb most_tokens (length ts) n)
  early_answer (fault.BadByte n) h q = small h.0 ∙ ap (of_tokens r text) (rules_cut text (Err (fault.BadByte n)) h.1)
  early_answer (fault.BadNumber n) h q = small h.0 ∙ ap (of_tokens r text) (rules_cut text (Err (fault.BadNumber n)) h.1)
  early_answer (fault.NameTooLong n) h q = small h.0 ∙ ap (of_tokens r text) (rules_cut text (Err (fault.NameTooLong n)) h.1)
  early_answer (fault.Unexpected n) h q = absurd h
  early_answer fault.EndOfText h q = absurd h
  early_answer fault.TooDeep h q = absurd h
  early_answer fault.NoMemory h q = absurd (q refl)
