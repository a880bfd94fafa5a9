-- A front of the lines of events that is whole lines is the lines of the first events.
use Rattle.std.proofs.Common.{◌≡◌, ℕ, zero, suc, ◌+◌, ◌≤◌, List, [], ◌∷◌, ◌++◌, length, take, refl, sym, ◌∙◌, ap, subst, arith, ◌⊎◌, inl, inr, length-append}
use Rattle.std.proofs.lemmas.List.{take-append-le}
use Rattle.stm_events.specs.declared.event.Event.{Event}
use Rattle.stm_events.specs.SlowDesk.{Slow, after}
use Rattle.stm_event_lines.specs.Fits.{IsOneLine}
use Rattle.stm_history_text.specs.HistoryText.{event_lines}
use Rattle.stm_event_lines.specs.Lines.{event_line}
use Rattle.stm_history.proofs.Braces.{event_brace}
use Rattle.stm_event_lines.proofs.ReadsBack.{event_one_line}
use Rattle.stm_journal.specs.Text.{whole_count, IsWhole}
use Rattle.stm_journal.proofs.Wholes.{whole_open, whole_shut, whole_on}
use Rattle.stm_history_file.specs.Durable.{AreFit}
use Rattle.stm_history_file.proofs.Texts.{count_line}
use Rattle.std.proofs.lemmas.Bool.{cases_eq}

-- bytes without a line feed are no whole line
none_ends : (n : ℕ) (xs : List ℕ) → IsOneLine xs → whole_count (suc n) xs ≡ 0
none_ends n [] plain = refl
none_ends n (x ∷ xs) plain =
    whole_on n x xs (λ e. omega (arith, e, plain.0)) (λ e. omega (arith, e, plain.0)) ∙ none_ends (suc n) xs plain.2

none_whole : (xs : List ℕ) → IsOneLine xs → whole_count 0 xs ≡ 0
none_whole [] plain = refl
none_whole (x ∷ xs) plain = elim (cases_eq x 123) [
  | inl is ↦ whole_open x xs is ∙ none_ends 0 xs plain.2
  | inr not ↦ whole_shut x xs not
]

front_plain : (n : ℕ) (xs : List ℕ) → IsOneLine xs → IsOneLine (take n xs)
front_plain zero xs plain = tt
front_plain (suc n) [] plain = tt
front_plain (suc n) (x ∷ xs) plain = (plain.0, plain.1, front_plain n xs plain.2)

no_length : (xs : List ℕ) → length xs ≡ 0 → xs ≡ []
no_length [] e = refl
no_length (x ∷ xs) e = absurd (omega (arith, e))

-- some first events, whose lines these bytes are
pub record AreFirst (events : List Event) (bytes : List ℕ) : Type 0 where
  pub count : ℕ
  pub lines : bytes ≡ event_lines (take count events)

one_more : (e : Event) (es : List Event) (bytes : List ℕ) → AreFirst es bytes → AreFirst (e ∷ es) (event_line e ++ 10 ∷ bytes)
one_more e es bytes a = record { count = suc a.count; lines = ap (λ (l : List ℕ). event_line e ++ 10 ∷ l) a.lines }

-- the cut is in the first line, or after it
within_or_after : (n k : ℕ) → (n ≤ k) ⊎ ((m : ℕ) × (n ≡ k + 1 + m))
within_or_after zero k = inl (omega arith)
within_or_after (suc n) zero = inr (n, omega arith)
within_or_after (suc n) (suc k) = elim (within_or_after n k) [
  | inl le ↦ inl (omega (arith, le))
  | inr more ↦ inr (more.0, omega (arith, more.1))
]

pub first_of : (format : ℕ) (s : Slow) (events : List Event) (n : ℕ) → AreFit format s events → IsWhole (take n (event_lines events)) → AreFirst events (take n (event_lines events))
first_of format s [] zero fit is = record { count = 0; lines = refl }
first_of format s [] (suc n) fit is = record { count = 0; lines = refl }
first_of format s (e ∷ es) n fit is =
    let line = event_line e in
    let plain = event_one_line s.names e fit.0 in
    elim (within_or_after n (length line)) [
      | inl le ↦
          let front : take n (line ++ 10 ∷ event_lines es) ≡ take n line = take-append-le n line (10 ∷ event_lines es) le in
          let none : length (take n line) ≡ 0 = sym (subst IsWhole front is) ∙ none_whole (take n line) (front_plain n line plain) in
          record { count = 0; lines = front ∙ no_length (take n line) none }
      | inr more ↦
          let m = more.0 in
          let front : take n (line ++ 10 ∷ event_lines es) ≡ line ++ 10 ∷ take m (event_lines es) = after_line line (event_lines es) n m more.1 in
          let count = count_line line (take m (event_lines es)) (event_brace e) plain in
          let whole : IsWhole (line ++ 10 ∷ take m (event_lines es)) = subst IsWhole front is in
          let rest : IsWhole (take m (event_lines es)) = omega (arith, count, whole, length-append line (10 ∷ take m (event_lines es))) in
          subst (AreFirst (e ∷ es)) (sym front) (one_more e es (take m (event_lines es)) (first_of format (after s e.what) es m fit.2 rest))
    ]
  where
    after_line : (line more : List ℕ) (n m : ℕ) → n ≡ length line + 1 + m → take n (line ++ 10 ∷ more) ≡ line ++ 10 ∷ take m more
    after_line [] more n m e = let same : n ≡ suc m = omega (arith, e) in ap (λ (k : ℕ). take k (10 ∷ more)) same
    after_line (x ∷ line) more zero m e = absurd (omega (arith, e))
    after_line (x ∷ line) more (suc n) m e = ap (λ (l : List ℕ). x ∷ l) (after_line line more n m (omega (arith, e)))
