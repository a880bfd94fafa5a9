-- A text is cut by the rules, and in no other way.
use Rattle.std.proofs.Common.{◌≡◌, ℕ, zero, suc, ◌+◌, ◌-◌, ◌<◌, ◌≤◌, ◌⊎◌, inl, inr, List, [], ◌∷◌, length, take, drop, length-drop}
use Rattle.std.proofs.Common.{refl, sym, ap, ◌∙◌, subst, arith, true, Ok, Err}
use Rattle.std.specs.List.{list_all}
use Rattle.std.proofs.lemmas.Bool.{cases_order, and_parts}
use Rattle.stm_terms.specs.Names.{is_digit, is_word_byte}
use Rattle.stm_parse.specs.declared.tokenizer.TokenClass.{TokenClass}
use Rattle.stm_parse.specs.declared.tokenizer.TokenClass.TheVariants as kind
use Rattle.stm_parse.specs.declared.tokenizer.Token.{Token}
use Rattle.stm_parse.specs.Front.{Front}
use Rattle.stm_parse.specs.Front as front
use Rattle.stm_parse.specs.Bytes.{is_letter}
use Rattle.stm_parse.specs.Tokenizer.{front_of, with_front, next, cut, tokens_of}
use Rattle.stm_parse.specs.MaximalMunch.{is_symbol, is_token, IsLongest, BeginsNoToken, Tokenization, token_before, IsTokenization}
use Rattle.stm_parse.specs.MaximalMunch.{at_end, at_blank, at_token, at_fault, at_bad_byte, TokensAreMaximal, TokenizationIsUnique}
use Rattle.stm_parse.proofs.LongestTokenInFront.{letter_digit, letter_symbol, digit_symbol, nothing_is_no_token, blank_begins_none, IsRightFront, right_front}

no_token_is_longest : {bytes : List ℕ} {k : TokenClass} {n : ℕ} → BeginsNoToken bytes → IsLongest bytes k n → ⊥
no_token_is_longest {k = k} {n = n} none h = let e = none k n in let f = h.token in absurd cc

none_at_end : BeginsNoToken []
none_at_end k zero = nothing_is_no_token k
none_at_end k (suc n) = nothing_is_no_token k

token_has_bytes : {bytes : List ℕ} {k : TokenClass} {n : ℕ} → IsLongest bytes k n → 0 < n
token_has_bytes {k = k} {n = zero} h = let e = nothing_is_no_token k in let f = h.token in absurd cc
token_has_bytes {n = suc n} h = omega arith

-- bytes that belong to a token cut already are passed
passed : (k place : ℕ) (bytes : List ℕ) → k ≤ length bytes → cut k place bytes ≡ cut 0 (place + k) (drop k bytes)
unfolding cut
passed zero place bytes h = let e : place ≡ place + 0 = omega arith in ap (λ p. cut 0 p bytes) e
passed (suc k) place [] h = absurd (omega arith)
passed (suc k) place (b ∷ bytes) h =
    let e : place + 1 + k ≡ place + suc k = omega arith in
    passed k (place + 1) bytes (omega arith) ∙ ap (λ p. cut 0 p (drop k bytes)) e

before : (t : Token) (r : Tokenization) → token_before t r ≡ with_front (t ∷ []) r
before t (Ok ts) = refl
before t (Err e) = refl

behind : (n place b : ℕ) (rest : List ℕ) → 0 < n → n ≤ length (b ∷ rest)
    → cut 0 (place + n) (drop n (b ∷ rest)) ≡ cut (n - 1) (place + 1) rest
behind zero place b rest h l = absurd (omega arith)
behind (suc n) place b rest h l =
    let e : place + suc n ≡ place + 1 + n = omega arith in
    let f : n ≡ suc n - 1 = omega arith in
    ap (λ p. cut 0 p (drop n rest)) e ∙ sym (passed n (place + 1) rest (omega arith)) ∙ ap (λ k. cut k (place + 1) rest) f

by_rules : (size place : ℕ) (bytes : List ℕ) → length bytes ≤ size → IsTokenization place bytes (cut 0 place bytes)
unfolding cut IsRightFront
by_rules size place [] l = at_end
by_rules zero place (b ∷ rest) l = absurd (omega arith)
by_rules (suc size) place (b ∷ rest) l = by (λ p bytes k. by_rules size p bytes k) (front_of (b ∷ rest)) (right_front b rest)
  where
    by : ((p : ℕ) (bytes : List ℕ) → length bytes ≤ size → IsTokenization p bytes (cut 0 p bytes))
        → (f : Front) → IsRightFront b rest f → IsTokenization place (b ∷ rest) (next f place (λ k. cut k (place + 1) rest))
    by go front.Blank h = at_blank h (go (place + 1) rest (omega arith))
    by go (front.Found k n) h =
        let t : Token = record { kind = k; start = place; end = place + n } in
        let m : 0 < n = token_has_bytes h.0 in
        let l : length (drop n (b ∷ rest)) ≤ size = omega (arith, length-drop n (b ∷ rest)) in
        subst (IsTokenization place (b ∷ rest)) (before t _ ∙ ap (with_front (t ∷ [])) (behind n place b rest m h.0.within))
        (at_token h.0 (h.1 place) (go (place + n) (drop n (b ∷ rest)) l))
    by go front.BadByte h = at_bad_byte h.0 h.1
    by go front.LongName h = at_fault h.1.0 (h.1.1 place)
    by go front.BadNumber h = at_fault h.1.0 (h.1.1 place)

pub each_by_rules : TokensAreMaximal
each_by_rules text = by_rules (length text) 0 text (omega arith)

word_letter : (b : ℕ) (bytes : List ℕ) → is_token kind.Word (b ∷ bytes) ≡ true → is_letter b ≡ true
word_letter b bytes e = (and_parts (is_letter b) (list_all is_word_byte bytes) e).0

number_digit : (b : ℕ) (bytes : List ℕ) → is_token kind.Number (b ∷ bytes) ≡ true → is_digit b ≡ true
number_digit b bytes e = (and_parts (is_digit b) (list_all is_digit bytes) e).0

no_word_is_number : (b : ℕ) (bytes : List ℕ) → is_token kind.Word (b ∷ bytes) ≡ true
    → is_token kind.Number (b ∷ bytes) ≡ true → ⊥
no_word_is_number b bytes e f =
    let l = letter_digit b (word_letter b bytes e) in
    let d = number_digit b bytes f in
    absurd cc

no_word_is_symbol : (b : ℕ) (bytes : List ℕ) → is_token kind.Word (b ∷ bytes) ≡ true → is_symbol (b ∷ bytes) ≡ true → ⊥
no_word_is_symbol b bytes e f = let s = letter_symbol b bytes (word_letter b bytes e) in absurd cc

no_number_is_symbol : (b : ℕ) (bytes : List ℕ) → is_token kind.Number (b ∷ bytes) ≡ true → is_symbol (b ∷ bytes) ≡ true → ⊥
no_number_is_symbol b bytes e f = let s = digit_symbol b bytes (number_digit b bytes e) in absurd cc

-- no bytes are tokens of two kinds
one_kind : (j k : TokenClass) (bytes : List ℕ) → is_token j bytes ≡ true → is_token k bytes ≡ true → j ≡ k
one_kind j k [] e f = let g = nothing_is_no_token j in absurd cc
one_kind kind.Word kind.Word (b ∷ bytes) e f = refl
one_kind kind.Word kind.Number (b ∷ bytes) e f = absurd (no_word_is_number b bytes e f)
one_kind kind.Word kind.Symbol (b ∷ bytes) e f = absurd (no_word_is_symbol b bytes e f)
one_kind kind.Number kind.Word (b ∷ bytes) e f = absurd (no_word_is_number b bytes f e)
one_kind kind.Number kind.Number (b ∷ bytes) e f = refl
one_kind kind.Number kind.Symbol (b ∷ bytes) e f = absurd (no_number_is_symbol b bytes e f)
one_kind kind.Symbol kind.Word (b ∷ bytes) e f = absurd (no_word_is_symbol b bytes f e)
one_kind kind.Symbol kind.Number (b ∷ bytes) e f = absurd (no_number_is_symbol b bytes f e)
one_kind kind.Symbol kind.Symbol (b ∷ bytes) e f = refl

-- one token is the longest
one_longest : {bytes : List ℕ} {j k : TokenClass} {m n : ℕ} → IsLongest bytes j m → IsLongest bytes k n → (j ≡ k) × (m ≡ n)
one_longest {bytes = bytes} {j = j} {k = k} {m = m} {n = n} g h = by (cases_order m n)
  where
    by : (m ≡ n) ⊎ ((m < n) ⊎ (n < m)) → (j ≡ k) × (m ≡ n)
    by (inl e) = (one_kind j k (take n bytes) (ap (λ i. is_token j (take i bytes)) (sym e) ∙ g.token) h.token, e)
    by (inr (inl l)) = let e = g.no_longer k n l h.within in let f = h.token in absurd cc
    by (inr (inr l)) = let e = h.no_longer j m l g.within in let f = g.token in absurd cc

one_cut : {place : ℕ} {bytes : List ℕ} {a b : Tokenization} → IsTokenization place bytes a → IsTokenization place bytes b → a ≡ b
one_cut at_end at_end = refl
one_cut at_end (at_token h e r) = absurd (no_token_is_longest none_at_end h)
one_cut at_end (at_fault h e) = absurd (no_token_is_longest none_at_end h)
one_cut (at_blank g q) (at_blank h r) = one_cut q r
one_cut (at_blank g q) (at_token h e r) = absurd (no_token_is_longest (blank_begins_none _ _ g) h)
one_cut (at_blank g q) (at_fault h e) = absurd (no_token_is_longest (blank_begins_none _ _ g) h)
one_cut (at_blank g q) (at_bad_byte h n) = absurd cc
one_cut (at_token g d q) at_end = absurd (no_token_is_longest none_at_end g)
one_cut (at_token g d q) (at_blank h r) = absurd (no_token_is_longest (blank_begins_none _ _ h) g)
one_cut {place = place} {bytes = bytes} (at_token {cut = a} g d q) (at_token {cut = b} h e r) =
    let s = one_longest g h in
    let t : a ≡ b = one_cut q (subst (λ i. IsTokenization (place + i) (drop i bytes) b) (sym s.1) r) in
    cc
one_cut (at_token g d q) (at_fault h e) = let s = one_longest g h in absurd cc
one_cut (at_token g d q) (at_bad_byte h n) = absurd (no_token_is_longest n g)
one_cut (at_fault g d) at_end = absurd (no_token_is_longest none_at_end g)
one_cut (at_fault g d) (at_blank h r) = absurd (no_token_is_longest (blank_begins_none _ _ h) g)
one_cut (at_fault g d) (at_token h e r) = let s = one_longest g h in absurd cc
one_cut (at_fault g d) (at_fault h e) = let s = one_longest g h in cc
one_cut (at_fault g d) (at_bad_byte h n) = absurd (no_token_is_longest n g)
one_cut (at_bad_byte g m) (at_blank h r) = absurd cc
one_cut (at_bad_byte g m) (at_token h e r) = absurd (no_token_is_longest m h)
one_cut (at_bad_byte g m) (at_fault h e) = absurd (no_token_is_longest m h)
one_cut (at_bad_byte g m) (at_bad_byte h n) = refl

pub one_by_rules : TokenizationIsUnique
one_by_rules text a b g h = one_cut g h

-- what is cut is what is reported by the rules
pub cut_by_rules : (text : List ℕ) (cut : Tokenization) → tokens_of text ≡ cut → IsTokenization 0 text cut
cut_by_rules text cut e = subst (IsTokenization 0 text) e (each_by_rules text)

-- what is reported by the rules is what is cut
pub rules_cut : (text : List ℕ) (cut : Tokenization) → IsTokenization 0 text cut → tokens_of text ≡ cut
rules_cut text cut h = one_by_rules text (tokens_of text) cut (each_by_rules text) h
