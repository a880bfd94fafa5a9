-- The symbols, by their texts, are the bytes that have a mark.
use Rattle.std.proofs.Common.{◌≡◌, ℕ, List, [], ◌∷◌, refl, ap, Bool, true, false, ◌&&◌, ◌||◌, nat_eq, cond, is_some, Option, Some}
use Rattle.std.specs.Str.{bytes_eq}
use Rattle.std.proofs.lemmas.Bool.{eqb-true, or_from}
use Rattle.stm_terms.specs.Names.{is_digit}
use Rattle.stm_parse.specs.declared.token.Mark.{Mark}
use Rattle.stm_parse.specs.Bytes.{is_letter, is_blank, pair_mark, single_mark, symbol_mark}
use Rattle.stm_parse.specs.MaximalMunch.{is_symbol}

and_true : (b : Bool) → (b && true) ≡ b
and_true true = refl
and_true false = refl

and_false : (b : Bool) → (b && false) ≡ false
and_false true = refl
and_false false = refl

or_false : (b : Bool) → (b || false) ≡ b
or_false true = refl
or_false false = refl

some_cond : (b : Bool) (m : Mark) (o : Option Mark) → is_some (cond b (Some m) o) ≡ (b || is_some o)
some_cond true m o = refl
some_cond false m o = refl

pub symbol_has_mark : (bytes : List ℕ) → is_symbol bytes ≡ is_some (symbol_mark bytes)
unfolding is_symbol pair_mark single_mark
symbol_has_mark [] = refl
symbol_has_mark (a ∷ []) = simp (and_true, and_false, or_false, some_cond)
symbol_has_mark (a ∷ b ∷ []) = simp (and_true, and_false, or_false, some_cond)
symbol_has_mark (a ∷ b ∷ c ∷ rest) = simp (and_false, or_false)

-- the bytes that begin other tokens, and the blanks
abbrev pub begins_no_symbol : ℕ → Bool
begins_no_symbol b = is_letter b || is_digit b || is_blank b

module _ (a : ℕ) (rest : List ℕ) (h : begins_no_symbol a ≡ true) where
  nor : (k : ℕ) (t : List ℕ) {q : Bool} → begins_no_symbol k ≡ false → q ≡ false → (bytes_eq (a ∷ rest) (k ∷ t) || q) ≡ false
  nor k t e f = or_from _ _ (by (nat_eq a k) refl) f
    where
      by : (b : Bool) → nat_eq a k ≡ b → (b && bytes_eq rest t) ≡ false
      by true p = let q = ap begins_no_symbol (eqb-true a k p) in absurd cc
      by false p = refl

  pub no_symbol : is_symbol (a ∷ rest) ≡ false
  unfolding is_symbol
  no_symbol =
      nor 123 [] refl (nor 125 [] refl (nor 40 [] refl (nor 41 [] refl (nor 59 [] refl (nor 58 [] refl
      (nor 60 (45 ∷ []) refl (nor 60 (61 ∷ []) refl (nor 60 [] refl (nor 61 (61 ∷ []) refl (nor 61 [] refl
      (nor 43 [] refl (nor 45 [] refl (nor 42 [] refl (nor 38 (38 ∷ []) refl (nor 124 (124 ∷ []) refl refl)))))))))))))))
