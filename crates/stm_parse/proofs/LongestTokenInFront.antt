-- What is found at the front of some bytes is a blank, the longest token, its fault, or no token.
use Rattle.std.proofs.Common.{◌≡◌, ℕ, zero, suc, ◌+◌, ◌<◌, ◌≤◌, ◌⊎◌, inl, inr, List, [], ◌∷◌, length, take, refl, sym, ap, ap₂, ◌∙◌, subst}
use Rattle.std.proofs.Common.{arith, length-take, Bool, true, false, ◌&&◌, ◌||◌, nat_lt, cond, is_some, Option, Some, None}
use Rattle.std.specs.List.{list_all, take_while, prefix_len}
use Rattle.std.proofs.lemmas.Bool.{and_left, or_left, or_right}
use Rattle.std.proofs.lemmas.Bool.Decides.{nat_tests}
use Rattle.std.proofs.lemmas.List.Folds.{length-prefix_len}
use Rattle.stm_terms.specs.Names.{is_digit, is_word_byte}
use Rattle.stm_parse.specs.declared.token.Mark.{Mark}
use Rattle.stm_parse.specs.declared.tokenizer.TokenClass.{TokenClass}
use Rattle.stm_parse.specs.declared.tokenizer.TokenClass.TheVariants as kind
use Rattle.stm_parse.specs.Front.{Front}
use Rattle.stm_parse.specs.Front as front
use Rattle.stm_parse.specs.declared.fault.ParseFault.TheVariants as fault
use Rattle.stm_parse.specs.declared.fault.ParseFault.{ParseFault}
use Rattle.stm_parse.specs.Bytes.{is_letter, is_blank, pair_mark, single_mark, word_len, number_len, number_read, number_of_digits}
use Rattle.stm_parse.specs.Tokenizer.{one_symbol, two_symbol, symbol_front, word_front, number_front, front_of}
use Rattle.stm_parse.specs.MaximalMunch.{is_symbol, is_token, IsLongest, BeginsNoToken, token_fault}
use Rattle.stm_parse.proofs.SymbolTexts.{symbol_has_mark, no_symbol}

-- the test holds up to the length of the prefix
pub all_prefix : (p : ℕ → Bool) (xs : List ℕ) → list_all p (take (prefix_len p xs) xs) ≡ true
all_prefix p [] = refl
all_prefix p (x ∷ xs) = by (all_prefix p xs) (p x) refl
  where
    by : list_all p (take (prefix_len p xs) xs) ≡ true → (b : Bool) → p x ≡ b
        → list_all p (take (cond b (1 + prefix_len p xs) 0) (x ∷ xs)) ≡ true
    by h true e =
        let q : 1 + prefix_len p xs ≡ suc (prefix_len p xs) = omega arith in
        ap (λ n. list_all p (take n (x ∷ xs))) q ∙ ap (λ b. b && list_all p (take (prefix_len p xs) xs)) e ∙ h
    by h false e = refl

-- and no further
not_beyond : (p : ℕ → Bool) (xs : List ℕ) (m : ℕ) → prefix_len p xs < m → m ≤ length xs → list_all p (take m xs) ≡ false
not_beyond p [] m h l = absurd (omega arith)
not_beyond p (x ∷ xs) zero h l = absurd (omega arith)
not_beyond p (x ∷ xs) (suc m) h l = by (λ a. not_beyond p xs m a (omega arith)) (p x) refl h
  where
    by : (prefix_len p xs < m → list_all p (take m xs) ≡ false) → (b : Bool) → p x ≡ b
        → cond b (1 + prefix_len p xs) 0 < suc m → (p x && list_all p (take m xs)) ≡ false
    by g true e h = ap (λ b. b && list_all p (take m xs)) e ∙ g (omega arith)
    by g false e h = and_left _ _ e

prefix_within : (p : ℕ → Bool) (xs : List ℕ) → prefix_len p xs ≤ length xs
prefix_within p xs = omega (arith, length-prefix_len p xs, length-take (prefix_len p xs) xs)

pub letter_word : (b : ℕ) → is_letter b ≡ true → is_word_byte b ≡ true
letter_word b e = grind (arith, nat_tests)

pub letter_digit : (b : ℕ) → is_letter b ≡ true → is_digit b ≡ false
letter_digit b e = grind (arith, nat_tests)

digit_letter : (b : ℕ) → is_digit b ≡ true → is_letter b ≡ false
digit_letter b e = grind (arith, nat_tests)

blank_letter : (b : ℕ) → is_blank b ≡ true → is_letter b ≡ false
blank_letter b e = grind (arith, nat_tests)

blank_digit : (b : ℕ) → is_blank b ≡ true → is_digit b ≡ false
blank_digit b e = grind (arith, nat_tests)

pub letter_symbol : (b : ℕ) (rest : List ℕ) → is_letter b ≡ true → is_symbol (b ∷ rest) ≡ false
letter_symbol b rest e = no_symbol b rest (or_left _ _ (or_left _ _ e))

pub digit_symbol : (b : ℕ) (rest : List ℕ) → is_digit b ≡ true → is_symbol (b ∷ rest) ≡ false
digit_symbol b rest e = no_symbol b rest (or_left _ _ (or_right _ _ e))

blank_symbol : (b : ℕ) (rest : List ℕ) → is_blank b ≡ true → is_symbol (b ∷ rest) ≡ false
blank_symbol b rest e = no_symbol b rest (or_right _ _ e)

pub nothing_is_no_token : (k : TokenClass) → is_token k [] ≡ false
unfolding is_symbol
nothing_is_no_token kind.Word = refl
nothing_is_no_token kind.Number = refl
nothing_is_no_token kind.Symbol = refl

-- bytes that begin with neither a letter nor a digit are a token only if they are a symbol
module _ (b : ℕ) (rest : List ℕ) (e : is_letter b ≡ false) (f : is_digit b ≡ false) where
  none_if : (m : ℕ) → ((n : ℕ) → m ≡ suc n → is_symbol (b ∷ take n rest) ≡ false) → (k : TokenClass)
      → is_token k (take m (b ∷ rest)) ≡ false
  none_if zero g k = nothing_is_no_token k
  none_if (suc m) g kind.Word = and_left _ _ e
  none_if (suc m) g kind.Number = and_left _ _ f
  none_if (suc m) g kind.Symbol = g m refl

pub blank_begins_none : (b : ℕ) (rest : List ℕ) → is_blank b ≡ true → BeginsNoToken (b ∷ rest)
blank_begins_none b rest e k n =
    none_if b rest (blank_letter b e) (blank_digit b e) n (λ m q. blank_symbol b (take m rest) e) k

-- words and numbers go as far as their bytes do
module _ (b : ℕ) (rest : List ℕ) where
  run : (p : ℕ → Bool) (k : TokenClass) → p b ≡ true → ((m : ℕ) → is_token k (b ∷ take m rest) ≡ list_all p (take m rest))
      → ((j : TokenClass) (m : ℕ) → (j ≡ k) ⊎ (is_token j (b ∷ take m rest) ≡ false))
      → IsLongest (b ∷ rest) k (length (take_while p (b ∷ rest)))
  run p k first same other =
      subst (IsLongest (b ∷ rest) k) (sym counted)
      (record { within = omega (arith, prefix_within p rest); token = same _ ∙ all_prefix p rest; no_longer = none })
    where
      counted : length (take_while p (b ∷ rest)) ≡ suc (prefix_len p rest)
      counted =
          let q : 1 + prefix_len p rest ≡ suc (prefix_len p rest) = omega arith in
          length-prefix_len p (b ∷ rest) ∙ ap (λ t. cond t (1 + prefix_len p rest) 0) first ∙ q

      none : (j : TokenClass) (m : ℕ) → suc (prefix_len p rest) < m → m ≤ length (b ∷ rest) → is_token j (take m (b ∷ rest)) ≡ false
      none j zero l h = absurd (omega arith)
      none j (suc m) l h = by (other j m)
        where
          by : (j ≡ k) ⊎ (is_token j (b ∷ take m rest) ≡ false) → is_token j (b ∷ take m rest) ≡ false
          by (inl e) = ap (λ i. is_token i (b ∷ take m rest)) e ∙ same m ∙ not_beyond p rest m (omega arith) (omega arith)
          by (inr e) = e

  longest_word : is_letter b ≡ true → IsLongest (b ∷ rest) kind.Word (word_len (b ∷ rest))
  longest_word e =
      run is_word_byte kind.Word (letter_word b e) (λ m. ap (λ t. t && list_all is_word_byte (take m rest)) e) other
    where
      other : (j : TokenClass) (m : ℕ) → (j ≡ kind.Word) ⊎ (is_token j (b ∷ take m rest) ≡ false)
      other kind.Word m = inl refl
      other kind.Number m = inr (and_left _ _ (letter_digit b e))
      other kind.Symbol m = inr (letter_symbol b (take m rest) e)

  longest_number : is_digit b ≡ true → IsLongest (b ∷ rest) kind.Number (number_len (b ∷ rest))
  longest_number e = run is_digit kind.Number e (λ m. ap (λ t. t && list_all is_digit (take m rest)) e) other
    where
      other : (j : TokenClass) (m : ℕ) → (j ≡ kind.Number) ⊎ (is_token j (b ∷ take m rest) ≡ false)
      other kind.Word m = inr (and_left _ _ (digit_letter b e))
      other kind.Number m = inl refl
      other kind.Symbol m = inr (digit_symbol b (take m rest) e)

-- the longest token at the front of b ∷ rest is of kind k, and this is what is reported of it
abbrev pub HasFault : ℕ → List ℕ → TokenClass → ℕ → (ℕ → Option ParseFault) → Type 0
HasFault b rest k n e = IsLongest (b ∷ rest) k n × ((place : ℕ) → token_fault place k (take n (b ∷ rest)) ≡ e place)

-- what is found at the front of b ∷ rest stands there by the rules
unfoldable pub IsRightFront : ℕ → List ℕ → Front → Type 0
IsRightFront b rest front.Blank = is_blank b ≡ true
IsRightFront b rest (front.Found k n) = HasFault b rest k n (λ place. None)
IsRightFront b rest front.BadByte = (is_blank b ≡ false) × BeginsNoToken (b ∷ rest)
IsRightFront b rest front.LongName = (n : ℕ) × HasFault b rest kind.Word n (λ place. Some (fault.NameTooLong place))
IsRightFront b rest front.BadNumber = (n : ℕ) × HasFault b rest kind.Number n (λ place. Some (fault.BadNumber place))

right_word : (b : ℕ) (rest : List ℕ) (n : ℕ) → IsLongest (b ∷ rest) kind.Word n → IsRightFront b rest (word_front n)
unfolding IsRightFront
right_word b rest n h = by (nat_lt 32 n) refl
  where
    size : length (take n (b ∷ rest)) ≡ n
    size = let l = h.within in omega (arith, length-take n (b ∷ rest))

    by : (t : Bool) → nat_lt 32 n ≡ t → IsRightFront b rest (cond t front.LongName (front.Found kind.Word n))
    by true e = (n, (h, λ place. ap (λ t. cond t (Some (fault.NameTooLong place)) None) (ap (nat_lt 32) size ∙ e)))
    by false e = (h, λ place. ap (λ t. cond t (Some (fault.NameTooLong place)) None) (ap (nat_lt 32) size ∙ e))

right_number : (b : ℕ) (rest : List ℕ) (n : ℕ) → IsLongest (b ∷ rest) kind.Number n
    → IsRightFront b rest (number_front n (number_of_digits (take n (b ∷ rest))))
unfolding IsRightFront number_of_digits
right_number b rest n h = by long great refl refl
  where
    long : Bool
    long = nat_lt 19 (length (take n (b ∷ rest)))

    great : Bool
    great = nat_lt 9223372036854775808 (number_read 0 (take n (b ∷ rest)))

    fault_by : (s t : Bool) → long ≡ s → great ≡ t → (place : ℕ)
        → token_fault place kind.Number (take n (b ∷ rest)) ≡ cond (s || t) (Some (fault.BadNumber place)) None
    fault_by s t e f place = ap₂ (λ s t. cond (s || t) (Some (fault.BadNumber place)) None) e f

    by : (s t : Bool) → long ≡ s → great ≡ t
        → IsRightFront b rest (number_front n (cond s None (cond t None (Some (number_read 0 (take n (b ∷ rest)))))))
    by true t e f = (n, (h, fault_by true t e f))
    by false true e f = (n, (h, fault_by false true e f))
    by false false e f = (h, fault_by false false e f)

-- no symbol of more than n bytes stands at the front
abbrev pub NoLongerSymbol : ℕ → List ℕ → Type 0
NoLongerSymbol n bytes = (m : ℕ) → n < m → m ≤ length bytes → is_symbol (take m bytes) ≡ false

at_most_two : (b c : ℕ) (rest : List ℕ) → NoLongerSymbol 2 (b ∷ c ∷ rest)
at_most_two b c rest zero l k = absurd (omega arith)
at_most_two b c rest (suc zero) l k = absurd (omega arith)
at_most_two b c rest (suc (suc zero)) l k = absurd (omega arith)
at_most_two b c [] (suc (suc (suc m))) l k = absurd (omega arith)
at_most_two b c (d ∷ rest) (suc (suc (suc m))) l k = symbol_has_mark (b ∷ c ∷ d ∷ take m rest)

unpaired : (b c : ℕ) (rest : List ℕ) → pair_mark b c ≡ None → NoLongerSymbol 1 (b ∷ c ∷ rest)
unpaired b c rest e zero l k = absurd (omega arith)
unpaired b c rest e (suc zero) l k = absurd (omega arith)
unpaired b c rest e (suc (suc zero)) l k = symbol_has_mark (b ∷ c ∷ []) ∙ ap is_some e
unpaired b c rest e (suc (suc (suc m))) l k = at_most_two b c rest (suc (suc (suc m))) (omega arith) k

-- no symbol begins with b, before these bytes
abbrev pub NoSymbol : ℕ → List ℕ → Type 0
NoSymbol b rest = (m : ℕ) → is_symbol (b ∷ take m rest) ≡ false

unmarked_end : (b : ℕ) → single_mark b ≡ None → NoSymbol b []
unmarked_end b e zero = symbol_has_mark (b ∷ []) ∙ ap is_some e
unmarked_end b e (suc m) = symbol_has_mark (b ∷ []) ∙ ap is_some e

unmarked : (b c : ℕ) (rest : List ℕ) → single_mark b ≡ None → pair_mark b c ≡ None → NoSymbol b (c ∷ rest)
unmarked b c rest e f zero = symbol_has_mark (b ∷ []) ∙ ap is_some e
unmarked b c rest e f (suc zero) = symbol_has_mark (b ∷ c ∷ []) ∙ ap is_some f
unmarked b c [] e f (suc (suc m)) = symbol_has_mark (b ∷ c ∷ []) ∙ ap is_some f
unmarked b c (d ∷ rest) e f (suc (suc m)) = symbol_has_mark (b ∷ c ∷ d ∷ take m rest)

-- a byte that is no blank, no letter and no digit
module _ (b : ℕ) (g : is_blank b ≡ false) (e : is_letter b ≡ false) (f : is_digit b ≡ false) where
  right_symbol : (rest : List ℕ) (n : ℕ) → n ≤ length (b ∷ rest) → is_symbol (take n (b ∷ rest)) ≡ true
      → NoLongerSymbol n (b ∷ rest) → IsRightFront b rest (front.Found kind.Symbol n)
  unfolding IsRightFront
  right_symbol rest n w h none = (record { within = w; token = h; no_longer = no_longer }, λ place. refl)
    where
      no_longer : (j : TokenClass) (m : ℕ) → n < m → m ≤ length (b ∷ rest) → is_token j (take m (b ∷ rest)) ≡ false
      no_longer j m l k = none_if b rest e f m (λ i q. subst (λ i. is_symbol (take i (b ∷ rest)) ≡ false) q (none m l k)) j

  right_bad : (rest : List ℕ) → NoSymbol b rest → IsRightFront b rest front.BadByte
  unfolding IsRightFront
  right_bad rest none = (g, λ k n. none_if b rest e f n (λ m q. none m) k)

  right_one : (rest : List ℕ) → NoLongerSymbol 1 (b ∷ rest) → (single_mark b ≡ None → NoSymbol b rest)
      → (o : Option Mark) → single_mark b ≡ o → IsRightFront b rest (one_symbol o)
  right_one rest longer none None q = right_bad rest (none q)
  right_one rest longer none (Some m) q = right_symbol rest 1 (omega arith) (symbol_has_mark (b ∷ []) ∙ ap is_some q) longer

  right_two : (c : ℕ) (rest : List ℕ) (o : Option Mark) → pair_mark b c ≡ o → IsRightFront b (c ∷ rest) (two_symbol o b)
  right_two c rest None q = right_one (c ∷ rest) (unpaired b c rest q) (λ h. unmarked b c rest h q) (single_mark b) refl
  right_two c rest (Some m) q =
      right_symbol (c ∷ rest) 2 (omega arith) (symbol_has_mark (b ∷ c ∷ []) ∙ ap is_some q) (at_most_two b c rest)

  right_marked : (rest : List ℕ) → IsRightFront b rest (symbol_front (b ∷ rest))
  right_marked [] = right_one [] (λ m l k. absurd (omega arith)) (unmarked_end b) (single_mark b) refl
  right_marked (c ∷ rest) = right_two c rest (pair_mark b c) refl

pub right_front : (b : ℕ) (rest : List ℕ) → IsRightFront b rest (front_of (b ∷ rest))
unfolding front_of IsRightFront
right_front b rest = by (is_blank b) (is_letter b) (is_digit b) refl refl refl
  where
    word : Front
    word = word_front (word_len (b ∷ rest))

    number : Front
    number = number_front (number_len (b ∷ rest)) (number_of_digits (take (number_len (b ∷ rest)) (b ∷ rest)))

    by : (t u v : Bool) → is_blank b ≡ t → is_letter b ≡ u → is_digit b ≡ v
        → IsRightFront b rest (cond t front.Blank (cond u word (cond v number (symbol_front (b ∷ rest)))))
    by true u v g e f = g
    by false true v g e f = right_word b rest (word_len (b ∷ rest)) (longest_word b rest e)
    by false false true g e f = right_number b rest (number_len (b ∷ rest)) (longest_number b rest f)
    by false false false g e f = right_marked b g e f rest
