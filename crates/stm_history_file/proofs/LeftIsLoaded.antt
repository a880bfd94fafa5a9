-- What a crash leaves is the text of a history that is loaded.
use Rattle.std.proofs.Common.{◌≡◌, ◌⊎◌, inl, inr, ℕ, zero, suc, List, [], ◌∷◌, ◌++◌, length, take, drop, Bool, true, false, refl, sym, ◌∙◌, ap, subst, arith, length-append}
use Rattle.std.proofs.lemmas.List.{append-nil, append_assoc, take-append-drop}
use Rattle.stm_events.specs.declared.event.Event.{Event}
use Rattle.stm_events.specs.SlowDesk.{Slow, LegalFrom, after, state_from}
use Rattle.stm_events.specs.States.{IsLegalFrom}
use Rattle.stm_history_text.specs.HistoryText.{history_text, start_text}
use Rattle.stm_history.specs.Judgement.{AreEvents}
use Rattle.stm_history.specs.Loading.{IsWholeHistory}
use Rattle.stm_history_text.specs.Starts.{Start, first_state, read_back, state_after_start}
use Rattle.stm_history.proofs.KeptIsTaken.{what_is_kept_is_taken}
use Rattle.stm_journal.specs.Text.{IsWhole, recovered}
use Rattle.stm_journal.proofs.Wholes.{recovered_whole}
use Rattle.stm_history_file.specs.Durable.{file_text, MayGoOn, AllOrNoneIsResumed, FirstAreResumed, StartIsResumed}
use Rattle.stm_history_file.proofs.Texts.{IsWhole-start}

take_all : (xs : List Event) → take (length xs) xs ≡ xs
take_all [] = refl
take_all (x ∷ xs) = ap (λ (l : List Event). x ∷ l) (take_all xs)

AreEvents-append : (format : ℕ) (s : Slow) (xs ys : List Event) → AreEvents format s xs → AreEvents format (state_from s xs) ys → AreEvents format s (xs ++ ys)
AreEvents-append format s [] ys h k = k
AreEvents-append format s (x ∷ xs) ys h k = (h.0, h.1, h.2, AreEvents-append format (after s x.what) xs ys h.3 k)

AreEvents-take : (format : ℕ) (s : Slow) (n : ℕ) (xs : List Event) → AreEvents format s xs → AreEvents format s (take n xs)
AreEvents-take format s zero xs h = tt
AreEvents-take format s (suc n) [] h = tt
AreEvents-take format s (suc n) (x ∷ xs) h = (h.0, h.1, h.2, AreEvents-take format (after s x.what) n xs h.3)

-- a front of a legal history is legal
legal_front : (s : Slow) (xs ys : List Event) → LegalFrom s (xs ++ ys) → LegalFrom s xs
legal_front s [] ys l = tt
legal_front s (x ∷ xs) ys l = (l.0, legal_front (after s x.what) xs ys l.1)

front_is_legal : (s : Slow) (xs ys : List Event) → IsLegalFrom s (xs ++ ys) → IsLegalFrom s xs
front_is_legal s xs ys l = record { each = legal_front s xs ys l.each; few = omega (arith, l.few, length-append xs ys) }

is_history : (start : Start) (history events : List Event) (n : ℕ) (text : List ℕ) → text ≡ history_text start (history ++ take n events) → MayGoOn start history events
    → IsWholeHistory (read_back start) text (history ++ take n events)
is_history start history events n text is may =
    let begins = may.begins in
    let some = history ++ take n events in
    let parts : some ++ drop n events ≡ history ++ events =
    append_assoc history (take n events) (drop n events) ∙ ap (λ (l : List Event). history ++ l) (take-append-drop n events) in
    subst (λ (t : List ℕ). IsWholeHistory (read_back start) t some) (sym is)
    (what_is_kept_is_taken start some begins.format_fits begins.fits begins.short
    (AreEvents-append start.format (first_state start) history (take n events) may.old (AreEvents-take start.format (state_after_start start history) n events may.new))
    (front_is_legal (first_state start) some (drop n events) (subst (IsLegalFrom (first_state start)) (sym parts) may.legal)))

pub all_or_none_is_resumed : AllOrNoneIsResumed
all_or_none_is_resumed begun start history events file left may = by begun left.lines
  where
    none_taken : history ++ take 0 events ≡ history
    none_taken = append-nil history

    all_taken : take (length events) events ≡ events
    all_taken = take_all events

    before : recovered file ≡ history_text start history → IsWholeHistory (read_back start) (recovered file) history
    before is =
        subst (IsWholeHistory (read_back start) (recovered file)) none_taken
        (is_history start history events 0 (recovered file) (is ∙ ap (history_text start) (sym none_taken)) may)

    after_all : recovered file ≡ history_text start (history ++ events) → IsWholeHistory (read_back start) (recovered file) (history ++ events)
    after_all is =
        subst (λ (l : List Event). IsWholeHistory (read_back start) (recovered file) (history ++ l)) all_taken
        (is_history start history events (length events) (recovered file) (is ∙ ap (λ (l : List Event). history_text start (history ++ l)) (sym all_taken)) may)

    by : (b : Bool) → (recovered file ≡ file_text b start history) ⊎ (recovered file ≡ history_text start (history ++ events))
        → (IsWholeHistory (read_back start) (recovered file) history ⊎ IsWholeHistory (read_back start) (recovered file) (history ++ events))
        ⊎ ((b ≡ false) × (recovered file ≡ []))
    by true (inl is) = inl (inl (before is))
    by false (inl is) = inr (refl, is)
    by b (inr is) = inl (inr (after_all is))

pub first_are_resumed : FirstAreResumed
first_are_resumed start history events file left may = (left.count, is_history start history events left.count (recovered file) left.lines may)

pub start_is_resumed : StartIsResumed
start_is_resumed start file begins is =
    let none : start_text start ≡ history_text start [] = sym (append-nil (start_text start)) in
    let whole : IsWhole file = subst IsWhole (sym is) (IsWhole-start start.format start.table start.checkpoint begins.format_fits begins.fits) in
    let all = recovered_whole file whole in (
      subst (λ (t : List ℕ). IsWholeHistory (read_back start) t []) (sym (all ∙ is ∙ none))
          (what_is_kept_is_taken start [] begins.format_fits begins.fits begins.short tt (record { each = tt; few = omega arith })),
      omega (arith, whole),
    )
