-- A text that is cut has no byte over 127.
use Rattle.std.proofs.Common.{◌≡◌, ℕ, zero, suc, ◌+◌, ◌-◌, ◌<◌, ◌≤◌, List, [], ◌∷◌, length, take, length-take, refl, sym, subst, arith, Bool, true, false, cond, Result, Ok, Err, Option, Some, None, nat_eq, ◌&&◌}
use Rattle.std.specs.Prelude.{⊤}
use Rattle.std.specs.Str.{IsAscii}
use Rattle.std.specs.List.{take_while, prefix_len}
use Rattle.std.proofs.lemmas.Bool.{eqb-true}
use Rattle.std.proofs.lemmas.Bool.Decides.{nat_tests}
use Rattle.stm_parse.specs.declared.token.Mark.TheVariants as mark
use Rattle.stm_parse.specs.declared.tokenizer.TokenClass.{TokenClass}
use Rattle.stm_parse.specs.declared.tokenizer.TokenClass.TheVariants as kind
use Rattle.stm_parse.specs.declared.tokenizer.Token.{Token}
use Rattle.stm_parse.specs.Front.{Front}
use Rattle.stm_parse.specs.Front as front
use Rattle.stm_parse.specs.declared.fault.ParseFault.{ParseFault}
use Rattle.stm_terms.specs.Names.{is_digit, is_word_byte}
use Rattle.stm_parse.specs.declared.token.Mark.{Mark}
use Rattle.stm_parse.specs.Bytes.{is_letter, is_blank, pair_mark, single_mark, word_len, number_len, number_of_digits}
use Rattle.stm_parse.specs.Tokenizer.{front_of, front_by, one_symbol, two_symbol, word_front, number_front, symbol_front, with_front, next, cut}

blank_low : (b : ℕ) → is_blank b ≡ true → b < 128
blank_low b e = grind (arith, nat_tests)

letter_low : (b : ℕ) → is_letter b ≡ true → b < 128
letter_low b e = grind (arith, nat_tests)

digit_low : (b : ℕ) → is_digit b ≡ true → b < 128
digit_low b e = grind (arith, nat_tests)

word_low : (b : ℕ) → is_word_byte b ≡ true → b < 128
word_low b e = grind (arith, nat_tests)

pair_low : (a b : ℕ) (m : Mark) → pair_mark a b ≡ Some m → (a < 128) × (b < 128)
unfolding pair_mark
pair_low a b m e =
    by (nat_eq a 60 && nat_eq b 45) (nat_eq a 60 && nat_eq b 61) (nat_eq a 61 && nat_eq b 61) (nat_eq a 38 && nat_eq b 38) (nat_eq a 124 && nat_eq b 124) refl refl refl refl refl e
  where
    two : (k l : ℕ) → k < 128 → l < 128 → nat_eq a k && nat_eq b l ≡ true → (a < 128) × (b < 128)
    two k l p q e = (grind (arith, nat_tests), grind (arith, nat_tests))

    by : (t u v w x : Bool) → nat_eq a 60 && nat_eq b 45 ≡ t → nat_eq a 60 && nat_eq b 61 ≡ u → nat_eq a 61 && nat_eq b 61 ≡ v → nat_eq a 38 && nat_eq b 38 ≡ w → nat_eq a 124 && nat_eq b 124 ≡ x → cond t (Some mark.Arrow) (cond u (Some mark.Le) (cond v (Some mark.EqEq) (cond w (Some mark.AndAnd) (cond x (Some mark.OrOr) None)))) ≡ Some m → (a < 128) × (b < 128)
    by true u v w x p q r s t e = two 60 45 (omega arith) (omega arith) p
    by false true v w x p q r s t e = two 60 61 (omega arith) (omega arith) q
    by false false true w x p q r s t e = two 61 61 (omega arith) (omega arith) r
    by false false false true x p q r s t e = two 38 38 (omega arith) (omega arith) s
    by false false false false true p q r s t e = two 124 124 (omega arith) (omega arith) t
    by false false false false false p q r s t e = absurd cc

single_step : (a k : ℕ) (n m : Mark) (rest : Option Mark) → k < 128 → (rest ≡ Some m → a < 128) → cond (nat_eq a k) (Some n) rest ≡ Some m → a < 128
single_step a k n m rest l h e = by (nat_eq a k) refl e
  where
    by : (t : Bool) → nat_eq a k ≡ t → cond t (Some n) rest ≡ Some m → a < 128
    by true p e = let q = eqb-true a k p in omega arith
    by false p e = h e

single_low : (a : ℕ) (m : Mark) → single_mark a ≡ Some m → a < 128
unfolding single_mark
single_low a m =
    single_step a 123 _ m _ (omega arith) (single_step a 125 _ m _ (omega arith) (single_step a 40 _ m _ (omega arith) (single_step a 41 _ m _ (omega arith) (single_step a 59 _ m _ (omega arith) (single_step a 58 _ m _ (omega arith)
    (single_step a 60 _ m _ (omega arith) (single_step a 61 _ m _ (omega arith) (single_step a 43 _ m _ (omega arith) (single_step a 45 _ m _ (omega arith) (single_step a 42 _ m None (omega arith) (λ e. absurd cc)))))))))))

-- the first bytes are below 128
abbrev pub Low : ℕ → List ℕ → Type 0
Low zero bytes = ⊤
Low (suc k) [] = ⊤
Low (suc k) (b ∷ bytes) = (b < 128) × Low k bytes

abbrev pub AllLow : List ℕ → Type 0
AllLow [] = ⊤
AllLow (b ∷ bytes) = (b < 128) × AllLow bytes

low_less : (m n : ℕ) (bytes : List ℕ) → m ≤ n → Low n bytes → Low m bytes
low_less zero n bytes h l = tt
low_less (suc m) zero bytes h l = absurd (omega arith)
low_less (suc m) (suc n) [] h l = tt
low_less (suc m) (suc n) (b ∷ bytes) h l = (l.0, low_less m n bytes (omega arith) l.1)

low_prefix : (p : ℕ → Bool) → ((b : ℕ) → p b ≡ true → b < 128) → (bytes : List ℕ) → Low (prefix_len p bytes) bytes
low_prefix p h [] = tt
low_prefix p h (b ∷ bytes) = by (p b) refl (low_prefix p h bytes)
  where
    by : (t : Bool) → p b ≡ t → Low (prefix_len p bytes) bytes → Low (prefix_len p (b ∷ bytes)) (b ∷ bytes)
    by true e l = let q : 1 + prefix_len p bytes ≡ suc (prefix_len p bytes) = omega arith in subst (λ t. Low (cond t (1 + prefix_len p bytes) 0) (b ∷ bytes)) (sym e) (subst (λ n. Low n (b ∷ bytes)) (sym q) (h b e, l))
    by false e l = subst (λ t. Low (cond t (1 + prefix_len p bytes) 0) (b ∷ bytes)) (sym e) tt

low_while : (p : ℕ → Bool) → ((b : ℕ) → p b ≡ true → b < 128) → (bytes : List ℕ) → Low (length (take_while p bytes)) bytes
low_while p h bytes = low_less _ (prefix_len p bytes) bytes (omega (arith, length-take (prefix_len p bytes) bytes)) (low_prefix p h bytes)

-- what a token covers
FrontLow : Front → List ℕ → Type 0
FrontLow front.Blank bytes = Low 1 bytes
FrontLow (front.Found kind n) bytes = Low 1 bytes × Low n bytes
FrontLow front.BadByte bytes = ⊤
FrontLow front.LongName bytes = ⊤
FrontLow front.BadNumber bytes = ⊤

one_low : (a : ℕ) (rest : List ℕ) (o : Option Mark) → single_mark a ≡ o → FrontLow (one_symbol o) (a ∷ rest)
unfolding FrontLow
one_low a rest None e = tt
one_low a rest (Some m) e = let l = single_low a m e in ((l, tt), (l, tt))

two_low : (a b : ℕ) (rest : List ℕ) (o : Option Mark) → pair_mark a b ≡ o → FrontLow (two_symbol o a) (a ∷ b ∷ rest)
unfolding FrontLow
two_low a b rest None e = one_low a (b ∷ rest) (single_mark a) refl
two_low a b rest (Some m) e = let l = pair_low a b m e in ((l.0, tt), (l.0, (l.1, tt)))

symbol_low : (bytes : List ℕ) → FrontLow (symbol_front bytes) bytes
unfolding FrontLow
symbol_low [] = tt
symbol_low (a ∷ []) = one_low a [] (single_mark a) refl
symbol_low (a ∷ b ∷ rest) = two_low a b rest (pair_mark a b) refl

number_low : (n : ℕ) (o : Option ℕ) (bytes : List ℕ) → Low 1 bytes → Low n bytes → FrontLow (number_front n o) bytes
unfolding FrontLow
number_low n None bytes h l = tt
number_low n (Some v) bytes h l = (h, l)

long_low : (t : Bool) (bad : Front) (kind : TokenClass) (n : ℕ) (bytes : List ℕ) → FrontLow bad bytes → Low 1 bytes → Low n bytes → FrontLow (cond t bad (front.Found kind n)) bytes
unfolding FrontLow
long_low true bad kind n bytes b h l = b
long_low false bad kind n bytes b h l = (h, l)

front_low : (b : ℕ) (rest : List ℕ) → FrontLow (front_by b (b ∷ rest)) (b ∷ rest)
unfolding FrontLow
front_low b rest = by (is_blank b) (is_letter b) (is_digit b) refl refl refl
  where
    ws : Front
    ws = word_front (word_len (b ∷ rest))

    ns : Front
    ns = number_front (number_len (b ∷ rest)) (number_of_digits (take (number_len (b ∷ rest)) (b ∷ rest)))

    ss : Front
    ss = symbol_front (b ∷ rest)

    by : (t u v : Bool) → is_blank b ≡ t → is_letter b ≡ u → is_digit b ≡ v → FrontLow (cond (is_blank b) front.Blank (cond (is_letter b) ws (cond (is_digit b) ns ss))) (b ∷ rest)
    by true u v e f g = subst (λ t. FrontLow (cond t front.Blank (cond (is_letter b) ws (cond (is_digit b) ns ss))) (b ∷ rest)) (sym e) (blank_low b e, tt)
    by false true v e f g = subst (λ t. FrontLow (cond t front.Blank (cond (is_letter b) ws (cond (is_digit b) ns ss))) (b ∷ rest)) (sym e) (subst (λ t. FrontLow (cond t ws (cond (is_digit b) ns ss)) (b ∷ rest)) (sym f) (long_low _ front.LongName kind.Word (word_len (b ∷ rest)) (b ∷ rest) tt (letter_low b f, tt) (low_while is_word_byte word_low (b ∷ rest))))
    by false false true e f g = subst (λ t. FrontLow (cond t front.Blank (cond (is_letter b) ws (cond (is_digit b) ns ss))) (b ∷ rest)) (sym e) (subst (λ t. FrontLow (cond t ws (cond (is_digit b) ns ss)) (b ∷ rest)) (sym f) (subst (λ t. FrontLow (cond t ns ss) (b ∷ rest)) (sym g) (number_low (number_len (b ∷ rest)) (number_of_digits (take (number_len (b ∷ rest)) (b ∷ rest))) (b ∷ rest) (digit_low b g, tt) (low_while is_digit digit_low (b ∷ rest)))))
    by false false false e f g = subst (λ t. FrontLow (cond t front.Blank (cond (is_letter b) ws (cond (is_digit b) ns ss))) (b ∷ rest)) (sym e) (subst (λ t. FrontLow (cond t ws (cond (is_digit b) ns ss)) (b ∷ rest)) (sym f) (subst (λ t. FrontLow (cond t ns ss) (b ∷ rest)) (sym g) (symbol_low (b ∷ rest))))

-- what is cut is below 128 throughout
cut_low : (k place : ℕ) (bytes : List ℕ) (ts : List Token) → Low k bytes → cut k place bytes ≡ Ok ts → AllLow bytes
unfolding cut front_of FrontLow
cut_low k place [] ts l e = tt
cut_low (suc k) place (b ∷ bytes) ts l e = (l.0, cut_low k (place + 1) bytes ts l.1 e)
cut_low zero place (b ∷ bytes) ts l e = of (λ k ts l e. cut_low k (place + 1) bytes ts l e) (front_by b (b ∷ bytes)) (front_low b bytes) e
  where
    of : ((k : ℕ) (ts : List Token) → Low k bytes → cut k (place + 1) bytes ≡ Ok ts → AllLow bytes) → (f : Front) → FrontLow f (b ∷ bytes) → next f place (λ k. cut k (place + 1) bytes) ≡ Ok ts → AllLow (b ∷ bytes)
    of rec front.Blank l e = (l.0, rec 0 ts tt e)
    of rec (front.Found kind n) l e = (l.0.0, found (n - 1) (less n l.1) (cut (n - 1) (place + 1) bytes) refl e)
      where
        less : (n : ℕ) → Low n (b ∷ bytes) → Low (n - 1) bytes
        less zero l = tt
        less (suc n) l = let q : n ≡ suc n - 1 = omega arith in subst (λ n. Low n bytes) q l.1

        found : (m : ℕ) → Low m bytes → (r : Result (List Token) ParseFault) → cut m (place + 1) bytes ≡ r → with_front (record { kind = kind; start = place; end = place + n } ∷ []) r ≡ Ok ts → AllLow bytes
        found m l (Ok us) q e = rec m us l q
        found m l (Err x) q e = absurd cc
    of rec front.BadByte l e = absurd cc
    of rec front.LongName l e = absurd cc
    of rec front.BadNumber l e = absurd cc

ascii_from_low : (bytes : List ℕ) → AllLow bytes → IsAscii bytes
ascii_from_low [] l i = omega arith
ascii_from_low (b ∷ bytes) l zero = l.0
ascii_from_low (b ∷ bytes) l (suc i) = ascii_from_low bytes l.1 i

pub cut_ascii : (bytes : List ℕ) (ts : List Token) → cut 0 0 bytes ≡ Ok ts → IsAscii bytes
cut_ascii bytes ts e = ascii_from_low bytes (cut_low 0 0 bytes ts tt e)
