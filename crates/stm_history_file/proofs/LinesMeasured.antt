-- Lines are measured piece by piece, and tell whether a text has only short lines.
use Rattle.std.proofs.Common.{◌≡◌, IsTrue, Result, Ok, Err, OnOk, is_some, ℕ, ◌+◌, ◌≤◌, Bool, true, false, List, [], ◌∷◌, ◌++◌, take, Option, None, Some, refl, sym, ◌∙◌, ap, arith}
use Rattle.std.specs.Prelude.{◌&&◌, nat_eq, nat_le, nat_lt, if◌then◌else◌}
use Rattle.std.proofs.lemmas.Bool.Decides.{nat_tests}
use Rattle.std.specs.Io.KnownBytes.{Appends}
use Rattle.stm_history.specs.Judgement.{AreShortLines, are_short_after, max_line}
use Rattle.stm_journal.specs.NewFile.{bytes_so_far}
use Rattle.stm_journal.specs.declared.error.JournalError.{JournalError}
use Rattle.stm_journal.proofs.NewText.{written_exactly}
use Rattle.stm_history_file.specs.LineLengths.{last_line_after, line_with}

last_line-append : (n : Option ℕ) (xs ys : List ℕ) → last_line_after n (xs ++ ys) ≡ last_line_after (last_line_after n xs) ys
last_line-append None xs ys = refl
last_line-append (Some n) [] ys = refl
last_line-append (Some n) (x ∷ xs) ys = last_line-append (line_with n x) xs ys

-- these bytes were written after what the file had
pub measured_on : (honest : Bool) (file file' pending pending' : List ℕ) (len len' : ℕ) (line line' : Option ℕ) (bytes : List ℕ)
    → ((text : List ℕ) → bytes_so_far honest file len pending ≡ Some text → line ≡ last_line_after (Some 0) text)
    → Appends (bytes_so_far honest file len pending) (bytes_so_far honest file' len' pending') bytes
    → line' ≡ last_line_after line bytes
    → (text : List ℕ) → bytes_so_far honest file' len' pending' ≡ Some text → line' ≡ last_line_after (Some 0) text
measured_on false file file' pending pending' len len' line line' bytes before writes is text all = absurd (cc all)
measured_on true file file' pending pending' len len' line line' bytes before writes is text all =
    let old = take len file ++ pending in
    let whole : text ≡ old ++ bytes = sym (cc all) ∙ writes in
    is ∙ ap (λ (l : Option ℕ). last_line_after l bytes) (before old refl) ∙ sym (last_line-append (Some 0) old bytes)
    ∙ ap (last_line_after (Some 0)) (sym whole)

pub still_too_long : (line : Option ℕ) (bytes : List ℕ) → line ≡ None → line ≡ last_line_after line bytes
still_too_long line bytes is = is ∙ sym (ap (λ (l : Option ℕ). last_line_after l bytes) is)

-- a text was written to an empty file, and nothing else
pub start_measured : (honest : Bool) (file : List ℕ) (len : ℕ) (pending : List ℕ) (line : Option ℕ) (old : Option (List ℕ)) (text : List ℕ) → IsTrue honest → old ≡ Some []
    → Appends old (bytes_so_far honest file len pending) text
    → ((t : List ℕ) → bytes_so_far honest file len pending ≡ Some t → line ≡ last_line_after (Some 0) t)
    → line ≡ last_line_after (Some 0) text
start_measured false file len pending line old text holds empty writes measured = absurd (cc holds)
start_measured true file len pending line old text holds empty writes measured =
    measured text (ap (λ (t : List ℕ). Some t) (written_exactly old (Some (take len file ++ pending)) text (take len file ++ pending) empty writes refl))

-- ---- what is measured is whether all lines are short
-- a line that is too long stays so
long_with : (b c : Bool) (n : ℕ) (xs : List ℕ) → c ≡ false → are_short_after (n + 1) xs ≡ false
    → (if b then c && are_short_after 0 xs else are_short_after (n + 1) xs) ≡ false
long_with true true n xs more rest = absurd (cc more)
long_with true false n xs more rest = refl
long_with false c n xs more rest = rest

long_stays : (n : ℕ) (xs : List ℕ) → max_line + 1 ≤ n → are_short_after n xs ≡ false
long_stays n [] more = grind (arith, nat_tests)
long_stays n (x ∷ xs) more =
    long_with (nat_eq x 10) (nat_le n max_line) n xs (grind (arith, nat_tests)) (long_stays (n + 1) xs (omega (arith, more)))

-- the measure of the line with one byte more
measured_with : (b c d : Bool) (n : ℕ) (xs : List ℕ) → d ≡ true → is_some (last_line_after (Some 0) xs) ≡ are_short_after 0 xs
    → (c ≡ true → is_some (last_line_after (Some (n + 1)) xs) ≡ are_short_after (n + 1) xs)
    → (c ≡ false → are_short_after (n + 1) xs ≡ false)
    → is_some (last_line_after (if b then Some 0 else if c then Some (n + 1) else None) xs)
    ≡ (if b then d && are_short_after 0 xs else are_short_after (n + 1) xs)
measured_with true c true n xs fits next longer long = next
measured_with true c false n xs fits next longer long = absurd (cc fits)
measured_with false true d n xs fits next longer long = longer refl
measured_with false false d n xs fits next longer long = sym (long refl)

pub short_is : (n : ℕ) (xs : List ℕ) → n ≤ max_line → is_some (last_line_after (Some n) xs) ≡ are_short_after n xs
short_is n [] few = grind (arith, nat_tests)
short_is n (x ∷ xs) few =
    measured_with (nat_eq x 10) (nat_lt n max_line) (nat_le n max_line) n xs (grind (arith, nat_tests)) (short_is 0 xs (omega arith))
    (λ less. short_is (n + 1) xs (grind (arith, nat_tests)))
    (λ more. long_stays (n + 1) xs (grind (arith, nat_tests)))

-- no line was too long
pub short_if_ok : {T : Type 0} (r : Result T JournalError) (line : Option ℕ) (text : List ℕ) → line ≡ last_line_after (Some 0) text → is_some line ≡ true
    → OnOk r (AreShortLines text)
short_if_ok (Err e) line text is some = tt
short_if_ok (Ok x) line text is some = sym (short_is 0 text (omega arith)) ∙ sym (ap is_some is) ∙ some

-- a line was too long
pub long_if : (line : Option ℕ) (text : List ℕ) → line ≡ last_line_after (Some 0) text → is_some line ≡ false → AreShortLines text → ⊥
long_if line text is none short = cc (none, ap is_some is, short_is 0 text (omega arith), short)
