-- Batches of events, one after another.
use Rattle.std.proofs.Common.{◌≡◌, ℕ, Result, Ok, Err, OnOk, List, [], ◌∷◌, ◌++◌, Bool, true, sym, ap, ◌∙◌, subst, append_assoc, append-nil}
use Rattle.stm_events.specs.declared.event.Event.{Event}
use Rattle.stm_events.specs.SlowDesk.{Slow, after, state_from}
use Rattle.stm_history_text.specs.Starts.{Start}
use Rattle.stm_journal.specs.declared.sync_mode.SyncMode.{SyncMode}
use Rattle.stm_journal.specs.Disk.{Disk, LeavesOnly}
use Rattle.stm_journal.proofs.Moments.{joined, weaker}
use Rattle.stm_history_file.specs.Durable.{AreFit, FitLines, HistoryKept, LeavesHistory}
use Rattle.stm_history_file.specs.declared.recording.HistoryFile.{HistoryFile}
use Rattle.stm_history_file.proofs.Crashes.{stays}
use Rattle.stm_journaled_run.specs.Committing.{LeavesBatches}

-- ---- the events of a part can be in lines
front_fits : (format : ℕ) (s : Slow) (xs ys : List Event) → AreFit format s (xs ++ ys) → AreFit format s xs
front_fits format s [] ys f = tt
front_fits format s (x ∷ xs) ys f = (f.0, f.1, front_fits format (after s x.what) xs ys f.2)

back_fits : (format : ℕ) (s : Slow) (xs ys : List Event) → AreFit format s (xs ++ ys) → AreFit format (state_from s xs) ys
back_fits format s [] ys f = f
back_fits format s (x ∷ xs) ys f = back_fits format (after s x.what) xs ys f.2

pub fit_front : (start : Start) (s : Slow) (es xs ys : List Event) → es ≡ xs ++ ys → FitLines start s es → FitLines start s xs
fit_front start s es xs ys e f = record {
  format_fits = f.format_fits;
  start_fits = f.start_fits;
  fit = front_fits start.format s xs ys (subst (AreFit start.format s) e f.fit);
}

pub fit_back : (start : Start) (s : Slow) (es xs ys : List Event) → es ≡ xs ++ ys → FitLines start s es → FitLines start (state_from s xs) ys
fit_back start s es xs ys e f = record {
  format_fits = f.format_fits;
  start_fits = f.start_fits;
  fit = back_fits start.format s xs ys (subst (AreFit start.format s) e f.fit);
}

-- ---- what a crash leaves
module _ (sync : SyncMode) (zeros : Bool) (start : Start) (history : List Event) where
  one_batch : (begun : Bool) (es : List Event) (c : List ℕ) → begun ≡ true → LeavesHistory sync zeros begun start history es c → LeavesBatches sync zeros start history es c
  one_batch begun es c b h = record {
    recorded = [];
    batch = es;
    unrecorded = [];
    parts = sym (append-nil es);
    left = subst (λ (hs : List Event). LeavesHistory sync zeros true start hs es c) (sym (append-nil history))
        (subst (λ (b : Bool). LeavesHistory sync zeros b start history es c) b h);
  }

  in_first : (es first rest : List Event) (c : List ℕ) → es ≡ first ++ rest → LeavesBatches sync zeros start history first c → LeavesBatches sync zeros start history es c
  in_first es first rest c e h = record {
    recorded = h.recorded;
    batch = h.batch;
    unrecorded = h.unrecorded ++ rest;
    parts = e ∙ ap (λ (xs : List Event). xs ++ rest) h.parts ∙ append_assoc h.recorded (h.batch ++ h.unrecorded) rest
        ∙ ap (λ (xs : List Event). h.recorded ++ xs) (append_assoc h.batch h.unrecorded rest);
    left = h.left;
  }

  in_rest : (es first rest : List Event) (c : List ℕ) → es ≡ first ++ rest → LeavesBatches sync zeros start (history ++ first) rest c → LeavesBatches sync zeros start history es c
  in_rest es first rest c e h = record {
    recorded = first ++ h.recorded;
    batch = h.batch;
    unrecorded = h.unrecorded;
    parts = e ∙ ap (λ (xs : List Event). first ++ xs) h.parts ∙ sym (append_assoc first h.recorded (h.batch ++ h.unrecorded));
    left = subst (λ (hs : List Event). LeavesHistory sync zeros true start hs h.batch c) (append_assoc history first h.recorded) h.left;
  }

module _ {D : Type 0} (disk : Disk D) (sync : SyncMode) (zeros : Bool) (start : Start) (history : List Event) where
  abbrev Run : D → D → (List ℕ → Type 0) → Type 0
  Run = LeavesOnly disk

  abbrev Batches : List Event → List ℕ → Type 0
  Batches = LeavesBatches sync zeros start history

  -- one batch
  pub batch_run : (begun : Bool) (es : List Event) (old new : D) → begun ≡ true → Run old new (LeavesHistory sync zeros begun start history es) → Run old new (Batches es)
  batch_run begun es old new b run =
      weaker disk old new (LeavesHistory sync zeros begun start history es) (Batches es) run (λ c h. one_batch sync zeros start history begun es c b h)

  -- the first half, after a batch that was refused
  pub first_run : (es first rest : List Event) (old one two : D) (same : SyncMode) → same ≡ sync → es ≡ first ++ rest → Run old one (Batches es)
      → Run one two (LeavesBatches same zeros start history first) → Run old two (Batches es)
  first_run es first rest old one two same s e before run =
      joined disk old one two (Batches es) (LeavesBatches same zeros start history first) (Batches es) before run (λ c h. h)
      (λ c h. in_first sync zeros start history es first rest c e (subst (λ (m : SyncMode). LeavesBatches m zeros start history first c) s h))

  -- the second half
  pub rest_run : (es first rest : List Event) (old one two : D) (same : SyncMode) → same ≡ sync → es ≡ first ++ rest → Run old one (Batches es)
      → Run one two (LeavesBatches same zeros start (history ++ first) rest) → Run old two (Batches es)
  rest_run es first rest old one two same s e before run =
      joined disk old one two (Batches es) (LeavesBatches same zeros start (history ++ first) rest) (Batches es) before run (λ c h. h)
      (λ c h. in_rest sync zeros start history es first rest c e (subst (λ (m : SyncMode). LeavesBatches m zeros start (history ++ first) rest c) s h))

-- ---- what is kept
-- nothing is recorded
pub nothing_run : {D : Type 0} (disk : Disk D) (f : HistoryFile D) (start : Start) (history es : List Event) → f.begun ≡ true → HistoryKept disk f start history
    → ((c : List ℕ) → disk.left_since f.journal.device (disk.moment f.journal.device) c → disk.may_leave f.journal.device c)
    → LeavesOnly disk f.journal.device f.journal.device (LeavesBatches f.journal.sync disk.fills_with_zeros start history es)
nothing_run disk f start history es b keeps now =
    batch_run disk f.journal.sync disk.fills_with_zeros start history f.begun es f.journal.device f.journal.device b (stays disk f start history es keeps now)

pub halves : (H es first rest : List Event) → es ≡ first ++ rest → (H ++ first) ++ rest ≡ H ++ es
halves H es first rest e = append_assoc H first rest ∙ ap (λ (xs : List Event). H ++ xs) (sym e)

pub on_recorded : {E P Q : Type 0} (r : Result Unit E) → OnOk r P → (P → Q) → OnOk r Q
on_recorded (Ok x) p f = f p
on_recorded (Err x) p f = tt
