-- From the tokens to the text: which fault is reported.
use Rattle.std.proofs.Common.{◌≡◌, ℕ, suc, ◌-◌, ◌<◌, ◌≤◌, List, [], ◌∷◌, ◌++◌, length, length-append, append-nil, slice_get, refl, sym, ap, ◌∙◌, subst, arith, Some, None, Result, ◌≢◌, Ok, Err, inl, inr}
use Rattle.stm_parse.specs.declared.token.Lexeme.{Lexeme}
use Rattle.stm_parse.specs.declared.token.ErrorKind.{ErrorKind}
use Rattle.stm_parse.specs.declared.token.ErrorKind.TheVariants as cause
use Rattle.stm_parse.specs.declared.token.Failure.{Failure}
use Rattle.stm_parse.specs.declared.token.Failure.TheVariants as stop
use Rattle.stm_parse.specs.declared.tokenizer.Token.{Token}
use Rattle.stm_parse.specs.declared.fault.ParseFault.{ParseFault}
use Rattle.stm_parse.specs.declared.fault.ParseFault.TheVariants as fault
use Rattle.stm_parse.specs.Tokenizer.{tokens_of, IsTokenFault}
use Rattle.stm_parse.specs.Lexing.{lexemes_of}
use Rattle.stm_parse.specs.Faults.{Language, IsText, Begins, AtFault}
use Rattle.stm_parse.specs.ParseResult.{most_bytes, most_tokens, Lexes, LexesWithinLimits, IsTextOf, IsEarly, IsReported, fault_of_cause, fault_of_failure}
use Rattle.stm_parse.specs.Descent.{Reader, StopsAs, whole}
use Rattle.stm_parse.proofs.ReaderCorrect.{Good, Any}
use Rattle.stm_parse.proofs.TokenizationUnique.{one_by_rules, cut_by_rules}
use Rattle.stm_parse.proofs.WholeTextRead.{Right, right, only}

pub get_end : (q : List Lexeme) → slice_get (q ++ []) (length q) ≡ None
get_end [] = refl
get_end (x ∷ q) = get_end q

pub get_next : (q s : List Lexeme) (x : Lexeme) → slice_get (q ++ (x ∷ s)) (length q) ≡ Some x
get_next [] s x = refl
get_next (y ∷ q) s x = get_next q s x

pub place_is : (ls q s : List Lexeme) (n : ℕ) → ls ≡ q ++ s → n ≡ length s → slice_get ls (length ls - n) ≡ slice_get (q ++ s) (length q)
place_is ls q s n e l =
    let p : length ls - n ≡ length q = omega (arith, ap length e, length-append q s) in
    ap (λ l. slice_get l (length ls - n)) e ∙ ap (λ i. slice_get (q ++ s) i) p

same_ok : (a b : List Token) → (let r : Result (List Token) ParseFault = Ok a in r ≡ Ok b) → a ≡ b
same_ok a b e = cc

pub lexemes_count : (text : List ℕ) (ts : List Token) → length (lexemes_of text ts) ≡ length ts
lexemes_count text [] = refl
lexemes_count text (t ∷ ts) = ap suc (lexemes_count text ts)

-- a fault of the tokens is reported before any of the grammar
pub tokens_early : (text : List ℕ) (e : ParseFault) → length text ≤ most_bytes → (e ≢ fault.NoMemory → tokens_of text ≡ Err e) → IsTokenFault e → IsEarly text e
tokens_early text (fault.BadByte n) l h k = (l, cut_by_rules text (Err (fault.BadByte n)) (h (λ p. cc)))
tokens_early text (fault.BadNumber n) l h k = (l, cut_by_rules text (Err (fault.BadNumber n)) (h (λ p. cc)))
tokens_early text (fault.NameTooLong n) l h k = (l, cut_by_rules text (Err (fault.NameTooLong n)) (h (λ p. cc)))
tokens_early text (fault.Unexpected n) l h k = absurd k
tokens_early text fault.EndOfText l h k = absurd k
tokens_early text fault.TooDeep l h k = absurd k
tokens_early text fault.TooLarge l h k = absurd k
tokens_early text fault.NoMemory l h k = tt

pub too_many : (text : List ℕ) (ts : List Token) → length text ≤ most_bytes → tokens_of text ≡ Ok ts → most_tokens < length ts → IsEarly text fault.TooLarge
too_many text ts l e m = let n = lexemes_count text ts in inr (lexemes_of text ts, l, (ts, cut_by_rules text (Ok ts) e, refl), omega arith)

pub they_fit : (text : List ℕ) (ts : List Token) (ls : List Lexeme) → length text ≤ most_bytes → tokens_of text ≡ Ok ts → length ts ≤ most_tokens → ls ≡ lexemes_of text ts → LexesWithinLimits text ls
they_fit text ts ls l e m q = let n = lexemes_count text ts in let k = ap length q in (l, (ts, cut_by_rules text (Ok ts) e, q), omega arith)

pub lexes_same : (text : List ℕ) (ls ms : List Lexeme) → Lexes text ls → Lexes text ms → ls ≡ ms
lexes_same text ls ms h k = let e : h.0 ≡ k.0 = same_ok h.0 k.0 (one_by_rules text (Ok h.0) (Ok k.0) h.1 k.1) in h.2 ∙ ap (lexemes_of text) e ∙ sym k.2

pub early_reported : {A : Type 0} (L : Language A) (text : List ℕ) (e : ParseFault) → IsEarly text e → IsReported L text e
early_reported L text fault.TooLarge h = h
early_reported L text (fault.BadByte n) h = h
early_reported L text (fault.BadNumber n) h = inl h
early_reported L text (fault.NameTooLong n) h = h
early_reported L text (fault.Unexpected n) h = absurd h
early_reported L text fault.EndOfText h = absurd h
early_reported L text fault.TooDeep h = absurd h
early_reported L text fault.NoMemory h = tt

-- if the tokens are those of a text that fits, nothing but lack of memory is reported early
pub early_is_memory : (text : List ℕ) (ls : List Lexeme) → LexesWithinLimits text ls → (e : ParseFault) → IsEarly text e → e ≡ fault.NoMemory
early_is_memory text ls f fault.TooLarge (inl h) = let l = f.0 in absurd (omega arith)
early_is_memory text ls f fault.TooLarge (inr h) = let e = lexes_same text ls h.0 f.1 h.2 in let l = f.2 in let m = h.3 in absurd (omega (arith, ap length e))
early_is_memory text ls f (fault.BadByte n) h = let e = one_by_rules text (Ok f.1.0) (Err (fault.BadByte n)) f.1.1 h.1 in absurd cc
early_is_memory text ls f (fault.BadNumber n) h = let e = one_by_rules text (Ok f.1.0) (Err (fault.BadNumber n)) f.1.1 h.1 in absurd cc
early_is_memory text ls f (fault.NameTooLong n) h = let e = one_by_rules text (Ok f.1.0) (Err (fault.NameTooLong n)) f.1.1 h.1 in absurd cc
early_is_memory text ls f (fault.Unexpected n) h = absurd h
early_is_memory text ls f fault.EndOfText h = absurd h
early_is_memory text ls f fault.TooDeep h = absurd h
early_is_memory text ls f fault.NoMemory h = refl

module _ {A : Type 0} (r : Reader A) (L : Language A) (good : (n : ℕ) → Good n r L Any) (text : List ℕ) (ls : List Lexeme) (fits : LexesWithinLimits text ls) where
  pub text_of : (t : A) → whole r ls ≡ Ok t → IsText L ls t
  text_of t e = subst (Right L ls) e (right r L good ls)

  pub ok_text : (t : A) → whole r ls ≡ Ok t → IsTextOf L text t
  ok_text t e = (ls, fits, subst (Right L ls) e (right r L good ls))

  first_reported : (c : ErrorKind) (q s : List Lexeme) → ls ≡ q ++ s → Begins L q → AtFault L c q s → IsReported L text (fault_of_cause c (slice_get (q ++ s) (length q)))
  first_reported cause.Unexpected q [] e b a =
      let f : ls ≡ q = e ∙ append-nil q in
      subst (λ o. IsReported L text (fault_of_cause cause.Unexpected o)) (sym (get_end q)) (ls, fits, subst (Begins L) (sym f) b, λ t h. a t (h.0, h.1, h.2, sym f ∙ h.3))
  first_reported cause.TooDeep q [] e b a = absurd a
  first_reported cause.BadNumber q [] e b a = absurd a
  first_reported cause.Unexpected q (x ∷ s) e b a = subst (λ o. IsReported L text (fault_of_cause cause.Unexpected o)) (sym (get_next q s x)) (ls, q, s, x, fits, e, refl, b, a)
  first_reported cause.TooDeep q (x ∷ s) e b a = subst (λ o. IsReported L text (fault_of_cause cause.TooDeep o)) (sym (get_next q s x)) (x.start, (ls, q, s, x, fits, e, refl, b, a))
  first_reported cause.BadNumber q (x ∷ s) e b a = subst (λ o. IsReported L text (fault_of_cause cause.BadNumber o)) (sym (get_next q s x)) (inr (ls, q, s, x, fits, e, refl, b, a))

  pub stop_reported : (e : Failure) → StopsAs e (whole r ls) → IsReported L text (fault_of_failure ls e)
  stop_reported stop.Memory h = tt
  stop_reported (stop.At f) h =
      let k = subst (Right L ls) h (right r L good ls) in
      subst (λ o. IsReported L text (fault_of_cause f.cause o)) (sym (place_is ls k.0 k.1 f.left k.2 k.3)) (first_reported f.cause k.0 k.1 k.2 k.4 k.5)

  reads : (t : A) → IsTextOf L text t → whole r ls ≡ Ok t
  reads t h = only r L good ls t (subst (λ l. IsText L l t) (lexes_same text h.0 ls h.1.1 fits.1) h.2)

  pub only_this : (t u : A) → IsTextOf L text t → whole r ls ≡ Ok u → u ≡ t
  only_this t u h e = let f = reads t h in cc

  pub stop_is_memory : (t : A) → IsTextOf L text t → (e : Failure) → StopsAs e (whole r ls) → fault_of_failure ls e ≡ fault.NoMemory
  stop_is_memory t h stop.Memory k = refl
  stop_is_memory t h (stop.At f) k = let g = reads t h in absurd cc

-- each text has one tree
pub one_tree : {A : Type 0} (r : Reader A) (L : Language A) → ((n : ℕ) → Good n r L Any) → (ls : List Lexeme) (t u : A) → IsText L ls t → IsText L ls u → t ≡ u
one_tree r L good ls t u h k = let e = only r L good ls t h in let f = only r L good ls u k in cc
