-- The text of a value is ASCII and has no control character, so lines can be cut at line feeds and are UTF-8.
use Rattle.std.proofs.Common.{◌≡◌, ℕ, zero, suc, ◌+◌, ◌^◌, ◌/◌, ◌%◌, ◌<◌, ◌≤◌, ◌==◌, pos, negsuc, Bool, true, false, cond, List, [], ◌∷◌, ◌++◌, length, get_or, refl, arith, decimal, codes}
use Rattle.std.specs.Prelude.{◌||◌, ◌&&◌, nat_lt, ⊤}
use Rattle.std.specs.Str.{IsAscii}
use Rattle.std.specs.Char.{digit_char}
use Rattle.std.proofs.lemmas.Fmt.{decimal_is_IsNumeral}
use Rattle.std.proofs.lemmas.Str.Parse.{digit_at}
use Rattle.std.proofs.lemmas.Bool.Decides.{nat_tests}
use Rattle.std.proofs.lemmas.Bool.{and_parts, or_parts}
use Rattle.json.specs.Print.{escape_letter, escape_byte, escape, quoted}
use Rattle.serde_json.specs.Data.{unsigned, negative, float, Data, null, boolean, number, string, array, object, Items, no_items, item, Members, no_members, member}
use Rattle.serde_json.specs.Written.{compact_text, items_text, members_text, comma_if}
use Rattle.stm_event_lines.specs.Fits.{IsOneLine}

pub one_append : (xs ys : List ℕ) → IsOneLine xs → IsOneLine ys → IsOneLine (xs ++ ys)
one_append [] ys h k = k
one_append (x ∷ xs) ys h k = (h.0, h.1, one_append xs ys h.2 k)

by_index : (xs : List ℕ) → ((i : ℕ) → i < length xs → (32 ≤ get_or xs i 0) × (get_or xs i 0 < 128)) → IsOneLine xs
by_index [] h = tt
by_index (x ∷ xs) h = let f = h 0 (omega arith) in (f.0, f.1, by_index xs (λ i l. h (suc i) (omega arith)))

digits : (n : ℕ) → n < 2 ^ 64 → IsOneLine (decimal n)
digits n h = by_index (decimal n) (λ i l. let d = digit_at _ i (decimal_is_IsNumeral n h).0.1 l in (omega arith, omega arith))

-- a byte that a line may have
abbrev pub IsPlain : ℕ → Type 0
IsPlain x = (32 ≤ x) × (x < 128)

-- or 0
abbrev pub IsPlainOrNone : ℕ → Type 0
IsPlainOrNone x = (0 < x → 32 ≤ x) × (x < 128)

either : (P : ℕ → Type 0) (b : Bool) (m n : ℕ) → (b ≡ true → P m) → (b ≡ false → P n) → P (cond b m n)
either P true m n h k = h refl
either P false m n h k = k refl

glyph : (d : ℕ) → d < 16 → IsPlain (digit_char d)
glyph d l = either IsPlain (nat_lt d 10) (48 + d) (87 + d) (λ h. (omega arith, grind (arith, nat_tests))) (λ _. (omega arith, omega arith))

known : (m : ℕ) → m < 128 → (0 < m → 32 ≤ m) → IsPlainOrNone m
known m h k = (k, h)

or_else : (b : Bool) (m n : ℕ) → m < 128 → 32 ≤ m → IsPlainOrNone n → IsPlainOrNone (cond b m n)
or_else b m n h k p = either IsPlainOrNone b m n (λ _. known m h (λ _. k)) (λ _. p)

letter_cases : (x : ℕ) (b : Bool) → (b ≡ true → IsPlainOrNone x) → IsPlainOrNone (cond b x (cond (x == 8) 98 (cond (x == 12) 102 (cond (x == 10) 110 (cond (x == 13) 114 (cond (x == 9) 116 0))))))
letter_cases x b h = either IsPlainOrNone b x _ h (λ _.
    or_else (x == 8) 98 _ (omega arith) (omega arith) (or_else (x == 12) 102 _ (omega arith) (omega arith) (or_else (x == 10) 110 _ (omega arith) (omega arith)
    (or_else (x == 13) 114 _ (omega arith) (omega arith) (or_else (x == 9) 116 0 (omega arith) (omega arith) (known 0 (omega arith) (λ e. omega arith)))))))

-- a quote or a backslash
quoted_high : (x : ℕ) (a b : Bool) → (a ≡ true → 32 ≤ x) → (b ≡ true → 32 ≤ x) → a || b ≡ true → 32 ≤ x
quoted_high x true b h k e = h refl
quoted_high x false b h k e = k e

letter : (x : ℕ) → x < 128 → IsPlainOrNone (escape_letter x)
letter x l = letter_cases x ((x == 34) || (x == 92)) (λ h. (λ _. quoted_high x (x == 34) (x == 92) (λ e. grind (arith, nat_tests)) (λ e. grind (arith, nat_tests)) h, l))

byte_cases : (x : ℕ) (b c : Bool) → x < 128 → (b ≡ true → 0 < escape_letter x) → (c ≡ false → 32 ≤ x)
    → IsOneLine (cond b (92 ∷ escape_letter x ∷ []) (cond c (92 ∷ 117 ∷ 48 ∷ 48 ∷ digit_char (x / 16) ∷ digit_char (x % 16) ∷ []) (x ∷ [])))
byte_cases x true c l some h = let k = letter x l in (omega arith, omega arith, (k.0 (some refl), k.1, tt))
byte_cases x false true l some h =
    let high = glyph (x / 16) (omega (arith, l)) in let low = glyph (x % 16) (omega arith) in
    (omega arith, omega arith, (omega arith, omega arith, (omega arith, omega arith, (omega arith, omega arith, (high.0, high.1, (low.0, low.1, tt))))))
byte_cases x false false l some h = (h refl, l, tt)

byte : (x : ℕ) → x < 128 → IsOneLine (escape_byte x)
unfolding escape_byte
byte x l = byte_cases x (nat_lt 0 (escape_letter x)) (nat_lt x 32) l (λ h. grind (arith, nat_tests)) (λ h. grind (arith, nat_tests))

-- each byte of a string is ASCII: a test, so that literals compute
abbrev pub is_ascii_text : List ℕ → Bool
is_ascii_text [] = true
is_ascii_text (x ∷ xs) = nat_lt x 128 && is_ascii_text xs

escaped : (s : List ℕ) → is_ascii_text s ≡ true → IsOneLine (escape s)
escaped [] l = tt
escaped (x ∷ s) l = let p = and_parts (nat_lt x 128) (is_ascii_text s) l in one_append (escape_byte x) (escape s) (byte x (let q = p.0 in grind (arith, nat_tests))) (escaped s p.1)

in_quotes : (s : List ℕ) → is_ascii_text s ≡ true → IsOneLine (quoted s)
in_quotes s l = (omega arith, omega arith, one_append (escape s) (34 ∷ []) (escaped s l) (omega arith, omega arith, tt))

-- the numbers are integers of 64 bits, the strings ASCII
abbrev mutual
  pub IsInRange : Data → Type 0
  IsInRange null = ⊤
  IsInRange (boolean b) = ⊤
  IsInRange (number (unsigned n)) = n < 2 ^ 64
  IsInRange (number (negative (pos n))) = n < 2 ^ 64
  IsInRange (number (negative (negsuc n))) = n + 1 < 2 ^ 64
  IsInRange (number (float x)) = ⊥
  IsInRange (string s) = is_ascii_text s ≡ true
  IsInRange (array ds) = ItemsInRange ds
  IsInRange (object ms) = MembersInRange ms

  pub ItemsInRange : Items → Type 0
  ItemsInRange no_items = ⊤
  ItemsInRange (item d ds) = IsInRange d × ItemsInRange ds

  pub MembersInRange : Members → Type 0
  MembersInRange no_members = ⊤
  MembersInRange (member k d ms) = (is_ascii_text k ≡ true) × IsInRange d × MembersInRange ms

comma : (b : Bool) → IsOneLine (comma_if b)
comma true = (omega arith, omega arith, tt)
comma false = tt

abbrev has_control : List ℕ → Bool
has_control [] = false
has_control (x ∷ xs) = nat_lt x 32 || has_control xs

word : (xs : List ℕ) → is_ascii_text xs ≡ true → has_control xs ≡ false → IsOneLine xs
word [] l f = tt
word (x ∷ xs) l f =
    let p = and_parts (nat_lt x 128) (is_ascii_text xs) l in
    let q = or_parts (nat_lt x 32) (has_control xs) f in
    let low : x < 128 = (let t = p.0 in grind (arith, nat_tests)) in
    let high : 32 ≤ x = (let t = q.0 in grind (arith, nat_tests)) in
    (high, low, word xs p.1 q.1)

mutual
  pub one_line : (d : Data) → IsInRange d → IsOneLine (compact_text d)
  one_line null h = word (codes "null") refl refl
  one_line (boolean true) h = word (codes "true") refl refl
  one_line (boolean false) h = word (codes "false") refl refl
  one_line (number (unsigned n)) h = digits n h
  one_line (number (negative (pos n))) h = digits n h
  one_line (number (negative (negsuc n))) h = (omega arith, omega arith, digits (suc n) (omega arith))
  one_line (number (float x)) h = absurd h
  one_line (string s) h = in_quotes s h
  one_line (array ds) h = (omega arith, omega arith, one_items false ds h)
  one_line (object ms) h = (omega arith, omega arith, one_members false ms h)

  pub one_items : (later : Bool) (ds : Items) → ItemsInRange ds → IsOneLine (items_text later ds)
  one_items later no_items h = (omega arith, omega arith, tt)
  one_items later (item d ds) h = one_append (comma_if later) _ (comma later) (one_append (compact_text d) _ (one_line d h.0) (one_items true ds h.1))

  pub one_members : (later : Bool) (ms : Members) → MembersInRange ms → IsOneLine (members_text later ms)
  one_members later no_members h = (omega arith, omega arith, tt)
  one_members later (member k d ms) h =
      one_append (comma_if later) _ (comma later) (one_append (quoted k) _ (in_quotes k h.0) (omega arith, omega arith, one_append (compact_text d) _ (one_line d h.1) (one_members true ms h.2)))

pub is_ascii : (xs : List ℕ) → IsOneLine xs → IsAscii xs
is_ascii [] h i = omega arith
is_ascii (x ∷ xs) h zero = h.1
is_ascii (x ∷ xs) h (suc i) = is_ascii xs h.2 i
