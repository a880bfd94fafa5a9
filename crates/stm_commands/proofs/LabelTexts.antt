-- A label is text.
use Rattle.std.proofs.Common.{◌≡◌, ℕ, ◌<◌, Bool, true, false, List, [], ◌∷◌, cond, arith, refl}
use Rattle.std.specs.Prelude.{◌&&◌, Some, None}
use Rattle.std.specs.List.{list_all}
use Rattle.std.specs.Str.{IsAscii, IsUtf8}
use Rattle.std.proofs.lemmas.Bool.Decides.{nat_tests}
use Rattle.std.proofs.lemmas.Str.{IsUtf8-from_ascii}
use Rattle.std.proofs.lemmas.Str.Ascii.{IsAscii-nil, IsAscii-cons}
use Rattle.stm_events.specs.Labels.{is_label, is_label_byte}
use Rattle.stm_event_lines.specs.CheckpointFields.{label_in}

low : (b : ℕ) → is_label_byte b ≡ true → b < 128
low b e = grind (arith, nat_tests)

all_ascii : (text : List ℕ) → list_all is_label_byte text ≡ true → IsAscii text
all_ascii [] e = IsAscii-nil
all_ascii (b ∷ text) e = by (is_label_byte b) refl e (all_ascii text)
  where
    by : (t : Bool) → is_label_byte b ≡ t → (t && list_all is_label_byte text) ≡ true → (list_all is_label_byte text ≡ true → IsAscii text) → IsAscii (b ∷ text)
    by true p q rest = IsAscii-cons b text (low b p) (rest q)
    by false p q rest = absurd (cc)

first_of : (a b : Bool) → (a && b) ≡ true → a ≡ true
first_of true b e = refl
first_of false b e = absurd (cc)

label_utf8 : (text : List ℕ) → is_label text ≡ true → IsUtf8 text
unfolding is_label
label_utf8 text e = IsUtf8-from_ascii text (all_ascii text (first_of _ _ (first_of _ _ e)))

-- what isn't text is no label
pub no_label : (text : List ℕ) → (IsUtf8 text → ⊥) → None ≡ label_in text
no_label text not_text = by (is_label text) refl
  where
    by : (t : Bool) → is_label text ≡ t → None ≡ cond t (Some text) None
    by true e = absurd (not_text (label_utf8 text e))
    by false e = refl
