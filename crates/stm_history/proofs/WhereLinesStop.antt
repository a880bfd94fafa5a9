-- What is reported where lines stop being accepted.
use Rattle.std.proofs.Common.{◌≡◌, ◌≢◌, ℕ, ◌++◌, ◌∷◌, List, take, drop, refl, sym, ap, ◌∙◌, subst, append-nil, ◌⊎◌, inl, inr}
use Rattle.std.proofs.lemmas.List.{take-append-drop}
use Rattle.stm_history.specs.declared.explanation.Explanation.{Explanation}
use Rattle.stm_history.specs.declared.fault.HistoryFault.{HistoryFault}
use Rattle.stm_history.specs.declared.fault.HistoryFault.TheVariants.{NoMemory, ReadFault}
use Rattle.stm_history.specs.Checking.{ForbidsNext, IsFaultAt, StopsAt}
use Rattle.stm_history.specs.Progress.{CheckerState, at_header, at_variables, at_cells, at_blocks, at_events, Forbids, NoFeed, NoNext, strange}
use Rattle.stm_history.specs.Explanation.{IsAfterLine, ReportsWhy}
use Rattle.stm_event_lines.specs.Lines.{event_line}
use Rattle.stm_history_text.specs.Starts.{names_after}
use Rattle.stm_history.specs.Stopping.{IsReportedAfter}
use Rattle.stm_history.proofs.CutsAtLineFeeds.{cut_unique, no_feed_at_end}
use Rattle.stm_history.proofs.OneProgress.{one_progress}
use Rattle.stm_history.proofs.RefusedLines.{event_no_feed}

-- ---- after whole lines

-- ---- one line
pub same_line : (xs a ys b : List ℕ) → NoFeed xs → NoFeed ys → IsAfterLine a → IsAfterLine b → xs ++ a ≡ ys ++ b → xs ≡ ys
same_line xs a ys b h k (inl e) (inl f) s = sym (append-nil xs) ∙ ap (λ (x : List ℕ). xs ++ x) (sym e) ∙ s ∙ ap (λ (x : List ℕ). ys ++ x) f ∙ append-nil ys
same_line xs a ys b h k (inl e) (inr f) s = absurd (no_feed_at_end xs ys f.0 h (sym (append-nil xs) ∙ ap (λ (x : List ℕ). xs ++ x) (sym e) ∙ s ∙ ap (λ (x : List ℕ). ys ++ x) f.1))
same_line xs a ys b h k (inr e) (inl f) s = absurd (no_feed_at_end ys xs e.0 k (sym (append-nil ys) ∙ ap (λ (x : List ℕ). ys ++ x) (sym f) ∙ sym s ∙ ap (λ (x : List ℕ). xs ++ x) e.1))
same_line xs a ys b h k (inr e) (inr f) s = (cut_unique xs e.0 ys f.0 h k (ap (λ (x : List ℕ). xs ++ x) (sym e.1) ∙ s ∙ ap (λ (x : List ℕ). ys ++ x) f.1)).line

-- the fault is that of the line
forbids_line : (p : CheckerState) (line after : List ℕ) (f : HistoryFault) → NoFeed line → IsAfterLine after → ForbidsNext p (line ++ after) f → Forbids p line f
forbids_line at_header line after f n a h = absurd h
forbids_line (at_variables format m table) line after f n a h = absurd h
forbids_line (at_cells format next vars waiting names cells) line after f n a h = absurd h
forbids_line (at_blocks format waiting c) line after f n a h = absurd h
forbids_line (at_events start history) line after f n a h =
    let feed = event_no_feed (names_after start history) h.0 h.3 in
    let same : line ≡ event_line h.0 = same_line line after (event_line h.0) (10 ∷ h.1) n feed a (inr (h.1, refl)) h.2 in
    (h.0, sym same, h.3, h.4, h.6, h.7)

fault_of_line : (p : CheckerState) (line after : List ℕ) (f : HistoryFault) → f ≢ ReadFault → f ≢ NoMemory → NoFeed line → IsAfterLine after → IsFaultAt p (line ++ after) f → ((f ≡ strange p) × NoNext p (line ++ after)) ⊎ Forbids p line f
fault_of_line p line after f r m n a (inl e) = absurd (r e)
fault_of_line p line after f r m n a (inr (inl e)) = absurd (m e)
fault_of_line p line after f r m n a (inr (inr (inl e))) = inl e
fault_of_line p line after f r m n a (inr (inr (inr e))) = inr (forbids_line p line after f n a e)

pub why_at : (bytes line after : List ℕ) (f : HistoryFault) (whole number : ℕ) (x : Explanation) → StopsAt f whole bytes → f ≢ ReadFault → f ≢ NoMemory
    → drop whole bytes ≡ line ++ after → NoFeed line → IsAfterLine after → IsReportedAfter (take whole bytes) line number x → ReportsWhy bytes f number x
why_at bytes line after f whole number x s r m text one_line ends reported =
    let front = take whole bytes in
    let progress : s.progress ≡ reported.progress = one_progress s.progress reported.progress front s.lines reported.lines in
    let fault = fault_of_line s.progress line after f r m one_line ends (subst (λ (z : List ℕ). IsFaultAt s.progress z f) text s.fault) in
    record {
      progress = reported.progress;
      accepted = front;
      line = line;
      rest = after;
      text = sym (take-append-drop whole bytes) ∙ ap (λ (z : List ℕ). front ++ z) text;
      lines = reported.lines;
      one_line = one_line;
      ends = ends;
      fault = subst (λ (p : CheckerState). ((f ≡ strange p) × NoNext p (line ++ after)) ⊎ Forbids p line f) progress fault;
      counted = reported.counted;
      why = reported.why;
    }
