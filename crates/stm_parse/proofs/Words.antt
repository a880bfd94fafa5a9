-- Words: the bytes that are one, and when one is a name.
use Rattle.std.proofs.Common.{◌≡◌, ℕ, suc, ◌+◌, ◌≤◌, List, [], ◌∷◌, length, take, refl, sym, ap, ◌∙◌, arith, codes, Bool, true, false, cond, not, ◌&&◌, ◌||◌, nat_le, Option, Some, None}
use Rattle.std.specs.List.{list_all, prefix_len}
use Rattle.std.specs.Str.{bytes_eq}
use Rattle.std.proofs.lemmas.Bool.Decides.{nat_tests}
use Rattle.std.proofs.lemmas.List.Folds.{length-prefix_len}
use Rattle.stm_terms.specs.Names.{is_word_byte, is_control_word, is_action_word, is_value_word, is_reserved, starts_lower, is_name_text}
use Rattle.stm_parse.specs.declared.token.Mark.{Mark}
use Rattle.stm_parse.specs.declared.token.Mark.TheVariants as mark
use Rattle.stm_parse.specs.Bytes.{is_letter, is_blank, word_len}
use Rattle.stm_parse.specs.Lexing.{control_mark, action_mark, choice_mark, value_mark, or_mark, word_mark}

pub letter_not_blank : (b : ℕ) → is_letter b ≡ true → is_blank b ≡ false
letter_not_blank b e = grind (arith, nat_tests)

letter_is_of_word : (b : ℕ) → is_letter b ≡ true → is_word_byte b ≡ true
letter_is_of_word b e = grind (arith, nat_tests)

-- the test holds up to the length of the prefix
all_before : (p : ℕ → Bool) (xs : List ℕ) → list_all p (take (prefix_len p xs) xs) ≡ true
all_before p [] = refl
all_before p (x ∷ xs) = by (all_before p xs) (p x) refl
  where
    by : list_all p (take (prefix_len p xs) xs) ≡ true → (t : Bool) → p x ≡ t → list_all p (take (cond t (1 + prefix_len p xs) 0) (x ∷ xs)) ≡ true
    by h true e = let q : 1 + prefix_len p xs ≡ suc (prefix_len p xs) = omega arith in ap (λ n. list_all p (take n (x ∷ xs))) q ∙ ap (λ t. t && list_all p (take (prefix_len p xs) xs)) e ∙ h
    by h false e = refl

pub word_bytes : (bytes : List ℕ) → list_all is_word_byte (take (word_len bytes) bytes) ≡ true
word_bytes bytes = ap (λ n. list_all is_word_byte (take n bytes)) (length-prefix_len is_word_byte bytes) ∙ all_before is_word_byte bytes

-- a word goes on after its first letter
pub word_len_more : (b : ℕ) (rest : List ℕ) → is_letter b ≡ true → word_len (b ∷ rest) ≡ 1 + word_len rest
word_len_more b rest e =
    length-prefix_len is_word_byte (b ∷ rest) ∙ ap (λ t. cond t (1 + prefix_len is_word_byte rest) 0) (letter_is_of_word b e) ∙ ap (λ n. 1 + n) (sym (length-prefix_len is_word_byte rest))

-- reserved words with their marks
abbrev Table : Type 0
Table = List (List ℕ × Mark)

abbrev mark_in : List ℕ → Table → Option Mark
mark_in w [] = None
mark_in w (x ∷ xs) = cond (bytes_eq w x.0) (Some x.1) (mark_in w xs)

abbrev is_in : Bool → List ℕ → Table → Bool
is_in b w [] = b
is_in b w (x ∷ xs) = is_in (b || bytes_eq w x.0) w xs

none_in : (w : List ℕ) (xs : Table) → mark_in w xs ≡ None → is_in false w xs ≡ false
none_in w [] e = refl
none_in w (x ∷ xs) e = by (λ q. none_in w xs q) (bytes_eq w x.0) e
  where
    by : (mark_in w xs ≡ None → is_in false w xs ≡ false) → (t : Bool) → cond t (Some x.1) (mark_in w xs) ≡ None → is_in (false || t) w xs ≡ false
    by rec true e = absurd cc
    by rec false e = rec e

control : Table
control = (codes "do", mark.Do) ∷ (codes "let", mark.Let) ∷ (codes "if", mark.If) ∷ (codes "then", mark.Then) ∷ (codes "else", mark.Else) ∷ []

no_control : (w : List ℕ) → control_mark w ≡ None → is_control_word w ≡ false
unfolding control_mark is_control_word control
no_control w e = none_in w control e

action : Table
action = (codes "return", mark.Return) ∷ (codes "readTVar", mark.ReadTVar) ∷ (codes "writeTVar", mark.WriteTVar) ∷ (codes "newTVar", mark.NewTVar) ∷ []

choice : Table
choice = (codes "retry", mark.Retry) ∷ (codes "orElse", mark.OrElse) ∷ (codes "throw", mark.Throw) ∷ (codes "catch", mark.Catch) ∷ []

none_in_after : (b : Bool) → b ≡ false → (w : List ℕ) (xs : Table) → mark_in w xs ≡ None → is_in b w xs ≡ false
none_in_after b f w xs e = ap (λ t. is_in t w xs) f ∙ none_in w xs e

no_action : (w : List ℕ) → action_mark w ≡ None → choice_mark w ≡ None → is_action_word w ≡ false
unfolding action_mark choice_mark is_action_word action choice
no_action w e f = none_in_after _ (none_in w action e) w choice f

value : Table
value = (codes "True", mark.True) ∷ (codes "False", mark.False) ∷ (codes "Int", mark.Int) ∷ (codes "Bool", mark.Bool) ∷ (codes "TVar", mark.TVar) ∷ []

no_value : (w : List ℕ) → value_mark w ≡ None → is_value_word w ≡ false
unfolding value_mark is_value_word value
no_value w e = none_in w value e

or_none : (a b : Option Mark) → or_mark a b ≡ None → (a ≡ None) × (b ≡ None)
or_none None b e = (refl, e)
or_none (Some k) b e = absurd cc

none_of : (a b c : Bool) → a ≡ false → b ≡ false → c ≡ false → (a || b || c) ≡ false
none_of a b c p q r = ap (λ x. x || b || c) p ∙ ap (λ x. x || c) q ∙ r

-- a word without a mark is not reserved
not_reserved : (w : List ℕ) → word_mark w ≡ None → is_reserved w ≡ false
not_reserved w e =
    let p : (control_mark w ≡ None) × (or_mark (action_mark w) (or_mark (choice_mark w) (value_mark w)) ≡ None) = or_none (control_mark w) _ e in
    let q : (action_mark w ≡ None) × (or_mark (choice_mark w) (value_mark w) ≡ None) = or_none (action_mark w) _ p.1 in
    let r : (choice_mark w ≡ None) × (value_mark w ≡ None) = or_none (choice_mark w) (value_mark w) q.1 in
    none_of _ _ _ (no_control w p.0) (no_action w q.0 r.0) (no_value w r.1)

few : (n : ℕ) → n ≤ 32 → nat_le n 32 ≡ true
few n l = grind (arith, nat_tests)

first_of : (s a r l : Bool) → a ≡ true → r ≡ false → l ≡ true → (s && a && not r && l) ≡ s
first_of true a r l p q t = ap (λ x. x && not r && l) p ∙ ap (λ x. not x && l) q ∙ t
first_of false a r l p q t = refl

pub is_name_by_first : (w : List ℕ) → word_mark w ≡ None → list_all is_word_byte w ≡ true → length w ≤ 32 → is_name_text w ≡ starts_lower w
unfolding is_name_text
is_name_by_first w e h l = first_of (starts_lower w) _ _ _ h (not_reserved w e) (few (length w) l)
