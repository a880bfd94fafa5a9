-- The events of a console that were not recorded are recorded; or a new file has them all, or begins from its checkpoint.
use Rattle.std.proofs.Common.{◌≡◌, ◌≢◌, ⊎_elim, inl, inr, ℕ, zero, suc, List, [], ◌∷◌, ◌++◌, length, take, drop, Bool, true, false, IsTrue, Option, Some, Result, Ok, Err, OnOk, refl, sym, ap, ap₂, ◌∙◌, subst, arith, append_assoc, append-nil, length-append}
use Rattle.std.specs.Prelude.{◌⊎◌, ◌||◌, if◌then◌else◌, is_some}
use Rattle.std.specs.List.{list_any}
use Rattle.std.proofs.Math.Seq.{take-append_seam}
use Rattle.stm_store.specs.Naming.{AreKnown}
use Rattle.stm_store.specs.Tables.{Declared}
use Rattle.stm_events.specs.declared.event.Event.{Event}
use Rattle.stm_events.specs.SlowDesk.{Slow, state_from}
use Rattle.stm_events.specs.States.{IsLegalFrom}
use Rattle.stm_machine.specs.Checkpoints.{CheckpointView, MayStart}
use Rattle.stm_event_lines.specs.Lines.{declaring_format}
use Rattle.stm_history_text.specs.HistoryText.{history_text, start_text}
use Rattle.stm_history.specs.Judgement.{FitsBefore}
use Rattle.stm_history_text.specs.Starts.{Start, declares, format_for, format_of_start, is_declaration, is_labelling, labels_blocks, written_start}
use Rattle.stm_journal.specs.declared.replace.ReplaceError.{ReplaceError}
use Rattle.stm_journal.specs.declared.replace.ReplaceError.TheVariants.{Refused, Unfinished}
use Rattle.stm_journal.specs.declared.sync_mode.SyncMode.{SyncMode}
use Rattle.stm_journal.specs.declared.sync_mode.SyncMode.TheVariants.{Full, Sector, Append, Never}
use Rattle.stm_journal.specs.Disk.{Disk, LeavesOnly}
use Rattle.stm_journal.specs.Text.{IsWhole}
use Rattle.stm_journal.proofs.Moments.{weaker}
use Rattle.stm_history_file.specs.Durable.{BeginsAs, file_text, FitLines, HistoryKept, IsFormatFor, KeepsHistory, LeavesHistory}
use Rattle.stm_history_file.specs.declared.recording.HistoryFile.{HistoryFile}
use Rattle.stm_history_file.proofs.Crashes.{left_alone, stays, stays_left}
use Rattle.stm_history_file.proofs.Texts.{IsWhole-history}
use Rattle.stm_commands.specs.OpenDesk.{OpenDesk}
use Rattle.stm_run.specs.declared.console.Console.{Console}
use Rattle.stm_run.specs.declared.console.Console.TheVariants.{Declaring, Open}
use Rattle.stm_run.specs.ConsoleState.{table_of, checkpoint_of_console, start_of_console, events_of, with_checkpoint}
use Rattle.stm_run.specs.Growing.{Grows}
use Rattle.stm_run.proofs.EventsOfConsole.{grows_not}
use Rattle.stm_journaled_run.specs.DurableRun.{ConsoleKept, HasFormat, KeepsConsole, LeavesBetween, start_in}
use Rattle.stm_journaled_run.specs.Committing.{LeavesBatches, MayCommit, MayBeginAnew}
use Rattle.stm_journaled_run.specs.NewEvents.{MayBeginRun, LastEventsFit, CheckpointsFit, first_state_of, needs_declaring_format}
use Rattle.stm_journaled_run.specs.Ranges.{AreEventsInRange, AreCellsInRange, AreBlocksInRange}
use Rattle.stm_journaled_run.proofs.NewEvents.{added_are, format_fits, grown_begins, neither, none_of}

-- ---- what is still to be recorded
take-drop : (n : ℕ) (es : List Event) → es ≡ take n es ++ drop n es
take-drop zero es = refl
take-drop (suc n) [] = refl
take-drop (suc n) (e ∷ es) = ap (λ (l : List Event). e ∷ l) (take-drop n es)

recorded_are : (s t : Console) (g : Grows s t) (n : ℕ) → n ≡ length (events_of s) → take n (events_of t) ≡ events_of s
recorded_are s t g n e = ap (λ (m : ℕ). take m (events_of t)) e ∙ ap (λ (es : List Event). take (length (events_of s)) es) g.events ∙ take-append_seam (events_of s) g.added

others_are : (s t : Console) (g : Grows s t) (n : ℕ) → n ≡ length (events_of s) → drop n (events_of t) ≡ g.added
others_are s t g n e = ap (λ (m : ℕ). drop m (events_of t)) e ∙ added_are s t g

-- what may begin as the console that it had still may
pub still_begins : (K : Console → Type 0) (t : Console) (n : ℕ) → MayCommit K t n → MayBeginRun t
still_begins K t n c = grown_begins c.committed t c.may_begin c.grows c.variables

pub new_fit : LastEventsFit → (K : Console → Type 0) (t : Console) (n : ℕ) → MayCommit K t n → MayStart (table_of t) (checkpoint_of_console t)
    → IsLegalFrom (first_state_of t) (events_of t) → AreEventsInRange (drop n (events_of t)) → (format : ℕ) → IsFormatFor format (checkpoint_of_console t) (events_of t)
    → (s : Slow) × FitLines (start_in format t) s (drop n (events_of t))
new_fit law K t n c start legal range format is =
    (state_from (first_state_of t) (take n (events_of t)), law t format (take n (events_of t)) (drop n (events_of t)) (still_begins K t n c) start legal is (take-drop n (events_of t)) range)

pub all_fit_anew : LastEventsFit → (t : Console) → MayBeginRun t → MayStart (table_of t) (checkpoint_of_console t)
    → IsLegalFrom (first_state_of t) (events_of t) → AreEventsInRange (events_of t) → (s : Slow) × FitLines (start_in declaring_format t) s (events_of t)
all_fit_anew law t m start legal range = (first_state_of t, law t declaring_format [] (events_of t) m start legal (inr refl) refl range)

-- ---- the format of what is recorded
fewer_have : (p : Event → Bool) (xs ys : List Event) → list_any p (xs ++ ys) ≡ false → list_any p xs ≡ false
fewer_have p [] ys e = refl
fewer_have p (x ∷ xs) ys e = let both = none_of (p x) (list_any p (xs ++ ys)) e in neither both.0 (fewer_have p xs ys both.1)

more_have : (p : Event → Bool) (xs ys : List Event) → list_any p ys ≡ false → list_any p (xs ++ ys) ≡ list_any p xs
more_have p [] ys e = e
more_have p (x ∷ xs) ys e = ap (λ (b : Bool). p x || b) (more_have p xs ys e)

fewer_need : (xs ys : List Event) → needs_declaring_format (xs ++ ys) ≡ false → needs_declaring_format xs ≡ false
fewer_need xs ys e =
    let both = none_of (declares (xs ++ ys)) (labels_blocks (xs ++ ys)) e in
    neither (fewer_have (λ e. is_declaration e.what) xs ys both.0) (fewer_have (λ e. is_labelling e.what) xs ys both.1)

more_need : (xs ys : List Event) → needs_declaring_format ys ≡ false → needs_declaring_format (xs ++ ys) ≡ needs_declaring_format xs
more_need xs ys e =
    let both = none_of (declares ys) (labels_blocks ys) e in
    ap₂ (λ (a b : Bool). a || b) (more_have (λ e. is_declaration e.what) xs ys both.0) (more_have (λ e. is_labelling e.what) xs ys both.1)

-- the format for more events is one for fewer
pub front_format : (format : ℕ) (o : Option CheckpointView) (xs ys : List Event) → IsFormatFor format o (xs ++ ys) → IsFormatFor format o xs
front_format format o xs ys (inr is) = inr is
front_format format o xs ys (inl is) = by (needs_declaring_format (xs ++ ys)) refl is
  where
    by : (b : Bool) → needs_declaring_format (xs ++ ys) ≡ b → format ≡ (if b then declaring_format else format_of_start o) → IsFormatFor format o xs
    by true e is = inr is
    by false e is = inl (is ∙ sym (ap (λ (b : Bool). if b then declaring_format else format_of_start o) (fewer_need xs ys e)))

-- and one for more if it is that of late declarations and labels, or none of these needs that one
longer_format : (format : ℕ) (o : Option CheckpointView) (xs ys : List Event) → IsFormatFor format o xs → (format ≡ declaring_format) ⊎ (needs_declaring_format ys ≡ false) → IsFormatFor format o (xs ++ ys)
longer_format format o xs ys is (inl five) = inr five
longer_format format o xs ys (inr five) (inr none) = inr five
longer_format format o xs ys (inl is) (inr none) = inl (is ∙ sym (ap (λ (b : Bool). if b then declaring_format else format_of_start o) (more_need xs ys none)))

-- the format of the file is one for the later console
pub kept_format : {D : Type 0} (f : HistoryFile D) (s t : Console) (n : ℕ) → Grows s t → n ≡ length (events_of s) → HasFormat f s → (f.format ≡ declaring_format) ⊎ (needs_declaring_format (drop n (events_of t)) ≡ false) → HasFormat f t
kept_format f s t n g e is more =
    subst (λ (es : List Event). IsFormatFor f.format (checkpoint_of_console t) es) (sym g.events)
    (longer_format f.format (checkpoint_of_console t) (events_of s) g.added (subst (λ (o : Option CheckpointView). IsFormatFor f.format o (events_of s)) (sym g.same_start) is)
    (subst (λ (es : List Event). (f.format ≡ declaring_format) ⊎ (needs_declaring_format es ≡ false)) (others_are s t g n e) more))

-- ---- what a crash leaves of them
module _ {D : Type 0} (disk : Disk D) (f : HistoryFile D) where
  abbrev Keeps : Console → Type 0
  Keeps = ConsoleKept disk f

  pub other_start : (s t : Start) (history : List Event) → f.begun ≡ false → HistoryKept disk f s history → HistoryKept disk f t history
  other_start s t history e k = record {
    at_rest = k.at_rest;
    text = k.text ∙ ap (λ (b : Bool). file_text b s history) e ∙ sym (ap (λ (b : Bool). file_text b t history) e);
    none = k.none;
    format_is = λ b. absurd (cc (b, e));
  }

  -- it keeps the history over the later table, too: before the desk is open it has nothing
  pub kept_as : (s t : Console) → Grows s t → Keeps s → HistoryKept disk f (start_in f.format t) (events_of s)
  kept_as (Open d) t g k =
      subst (λ (o : Option CheckpointView). HistoryKept disk f (record { format = f.format; table = table_of t; checkpoint = o }) d.desk.history) (sym g.same_start)
      (subst (λ (x : List Declared). HistoryKept disk f (record { format = f.format; table = x; checkpoint = d.desk.checkpoint }) d.desk.history) (sym (g.opened refl).1) k.history)
  kept_as (Declaring table limit) t g k = other_start (start_in f.format (Declaring table limit)) (start_in f.format t) [] k.begun_if_open k.history

  pub kept_declaring : (s : Console) (table : List Declared) (limit : ℕ) → Grows s (Declaring table limit) → Keeps s → Keeps (Declaring table limit)
  kept_declaring (Open d) table limit g k = let no : false ≡ true = (g.opened refl).0 in absurd cc
  kept_declaring (Declaring before old) table limit g k =
      record { history = kept_as (Declaring before old) (Declaring table limit) g k; format = k.format; begun_if_open = k.begun_if_open }

  module _ (s t : Console) (g : Grows s t) (k : Keeps s) where
    -- no batch was begun, or the first one
    between_head : (format : ℕ) → IsFormatFor format (checkpoint_of_console t) (events_of s) → (c : List ℕ)
        → LeavesHistory f.journal.sync disk.fills_with_zeros f.begun (start_in format t) (events_of s) [] c → LeavesBetween f.journal.sync disk.fills_with_zeros s t c
    between_head format is c h = inl (record {
      format = format;
      begun = f.begun;
      recorded = [];
      batch = [];
      unrecorded = g.added;
      parts = g.events ∙ ap (λ (es : List Event). es ++ g.added) (sym (append-nil (events_of s)));
      same_start = g.same_start;
      same_table = λ e. (g.opened e).1;
      begun_if_open = λ e. k.begun_if_open ∙ e;
      none = λ e. append-nil (events_of s) ∙ k.history.none e;
      written = subst (IsFormatFor format (checkpoint_of_console t)) (sym (append-nil (events_of s ++ []) ∙ append-nil (events_of s))) is;
      left = subst (λ (es : List Event). LeavesHistory f.journal.sync disk.fills_with_zeros f.begun (start_in format t) es [] c) (sym (append-nil (events_of s))) h;
    })

    between_batches : (format : ℕ) → IsFormatFor format (checkpoint_of_console t) (events_of t) → (c : List ℕ)
        → LeavesBatches f.journal.sync disk.fills_with_zeros (start_in format t) (events_of s) g.added c → LeavesBetween f.journal.sync disk.fills_with_zeros s t c
    between_batches format is c h =
        let parts : events_of t ≡ (events_of s ++ h.recorded) ++ (h.batch ++ h.unrecorded) =
        g.events ∙ ap (λ (es : List Event). events_of s ++ es) h.parts ∙ sym (append_assoc (events_of s) h.recorded (h.batch ++ h.unrecorded)) in
        inl (record {
          format = format;
          begun = true;
          recorded = h.recorded;
          batch = h.batch;
          unrecorded = h.unrecorded;
          parts = parts;
          same_start = g.same_start;
          same_table = λ e. (g.opened e).1;
          begun_if_open = λ e. refl;
          none = λ e. absurd (cc e);
          written = front_format format (checkpoint_of_console t) ((events_of s ++ h.recorded) ++ h.batch) h.unrecorded
              (subst (IsFormatFor format (checkpoint_of_console t)) (parts ∙ sym (append_assoc (events_of s ++ h.recorded) h.batch h.unrecorded)) is);
          left = h.left;
        })

    -- the whole history was written again
    pub between_anew : (c : List ℕ) → IsWhole c → c ≡ history_text (start_in declaring_format t) (events_of t) → LeavesBetween f.journal.sync disk.fills_with_zeros s t c
    between_anew c whole is = inl (record {
      format = declaring_format;
      begun = true;
      recorded = g.added;
      batch = [];
      unrecorded = [];
      parts = g.events ∙ sym (append-nil (events_of s ++ g.added));
      same_start = g.same_start;
      same_table = λ e. (g.opened e).1;
      begun_if_open = λ e. refl;
      none = λ e. absurd (cc e);
      written = inr refl;
      left = left_alone f.journal.sync disk.fills_with_zeros true (start_in declaring_format t) (events_of s ++ g.added) [] c whole
          (is ∙ ap (history_text (start_in declaring_format t)) g.events);
    })

    front_of : (format : ℕ) → IsFormatFor format (checkpoint_of_console t) (events_of t) → IsFormatFor format (checkpoint_of_console t) (events_of s)
    front_of format is = front_format format (checkpoint_of_console t) (events_of s) g.added (subst (IsFormatFor format (checkpoint_of_console t)) g.events is)

    pub between : (format n : ℕ) → IsFormatFor format (checkpoint_of_console t) (events_of t) → n ≡ length (events_of s) → (c : List ℕ)
        → LeavesHistory f.journal.sync disk.fills_with_zeros f.begun (start_in format t) (take n (events_of t)) [] c ⊎ LeavesBatches f.journal.sync disk.fills_with_zeros (start_in format t) (take n (events_of t)) (drop n (events_of t)) c
        → LeavesBetween f.journal.sync disk.fills_with_zeros s t c
    between format n is e c h =
        ⊎_elim (λ x. between_head format (front_of format is) c (subst (λ (es : List Event). LeavesHistory f.journal.sync disk.fills_with_zeros f.begun (start_in format t) es [] c) (recorded_are s t g n e) x))
        (λ x. between_batches format is c (subst (λ (es : List Event). LeavesBatches f.journal.sync disk.fills_with_zeros (start_in format t) (events_of s) es c) (others_are s t g n e)
        (subst (λ (es : List Event). LeavesBatches f.journal.sync disk.fills_with_zeros (start_in format t) es (drop n (events_of t)) c) (recorded_are s t g n e) x))) h

    if_synced : (m : SyncMode) → f.journal.sync ≡ m → (c : List ℕ) → (f.journal.sync ≢ Never → LeavesHistory f.journal.sync disk.fills_with_zeros f.begun (start_in f.format t) (events_of s) [] c) → LeavesHistory f.journal.sync disk.fills_with_zeros f.begun (start_in f.format t) (events_of s) [] c
    if_synced Full e c h = h (λ n. let no : Full ≡ Never = sym e ∙ n in cc)
    if_synced Sector e c h = h (λ n. let no : Sector ≡ Never = sym e ∙ n in cc)
    if_synced Append e c h = h (λ n. let no : Append ≡ Never = sym e ∙ n in cc)
    if_synced Never e c h = subst (λ (m : SyncMode). LeavesHistory m disk.fills_with_zeros f.begun (start_in f.format t) (events_of s) [] c) (sym e) tt

    kept_in : IsFormatFor f.format (checkpoint_of_console t) (events_of s)
    kept_in = subst (λ (o : Option CheckpointView). IsFormatFor f.format o (events_of s)) (sym g.same_start) k.format

    -- what a crash leaves of a file at rest
    pub between_none : (c : List ℕ) → disk.may_leave f.journal.device c → LeavesBetween f.journal.sync disk.fills_with_zeros s t c
    between_none c left =
        between_head f.format kept_in c (if_synced f.journal.sync refl c (λ some.
        subst (LeavesHistory f.journal.sync disk.fills_with_zeros f.begun (start_in f.format t) (events_of s) []) (sym (k.history.at_rest.durable some c left))
        (stays_left disk f (start_in f.format t) (events_of s) [] (kept_as s t g k))))

    -- while nothing is recorded
    pub between_rest : ((c : List ℕ) → disk.left_since f.journal.device (disk.moment f.journal.device) c → disk.may_leave f.journal.device c)
        → LeavesOnly disk f.journal.device f.journal.device (LeavesBetween f.journal.sync disk.fills_with_zeros s t)
    between_rest now =
        weaker disk f.journal.device f.journal.device (LeavesHistory f.journal.sync disk.fills_with_zeros f.begun (start_in f.format t) (events_of s) []) (LeavesBetween f.journal.sync disk.fills_with_zeros s t)
        (stays disk f (start_in f.format t) (events_of s) [] (kept_as s t g k) now)
        (between_head f.format kept_in)

-- while nothing is recorded
pub between_still : {D : Type 0} (disk : Disk D) (f : HistoryFile D)
    (s t : Console) → Grows s t → ConsoleKept disk f s → ((c : List ℕ) → disk.left_since f.journal.device (disk.moment f.journal.device) c → disk.may_leave f.journal.device c)
    → LeavesOnly disk f.journal.device f.journal.device (LeavesBetween f.journal.sync disk.fills_with_zeros s t)
between_still disk f s t g k now = between_rest disk f s t g k now

-- while the whole history is written again
pub anew_run : {D : Type 0} (disk : Disk D) (f : HistoryFile D) (new : D) (s t : Console) (state : Slow) → FitLines (start_in declaring_format t) state (events_of t) → Grows s t → ConsoleKept disk f s
    → LeavesOnly disk f.journal.device new (λ x. disk.may_leave f.journal.device x ⊎ (x ≡ history_text (start_in declaring_format t) (events_of t)))
    → LeavesOnly disk f.journal.device new (LeavesBetween f.journal.sync disk.fills_with_zeros s t)
anew_run disk f new s t state fit g k run =
    let text = history_text (start_in declaring_format t) (events_of t) in
    let whole : IsWhole text = IsWhole-history (start_in declaring_format t) state (events_of t) fit in
    weaker disk f.journal.device new (λ x. disk.may_leave f.journal.device x ⊎ (x ≡ text)) (LeavesBetween f.journal.sync disk.fills_with_zeros s t) run
    (λ x h. ⊎_elim (λ y. between_none disk f s t g k x y) (λ y. between_anew disk f s t g k x (subst IsWhole (sym y) whole) y) h)

-- ---- a desk that is open
-- the format in which its events are recorded is one for them all
pub open_format : {D : Type 0} (f : HistoryFile D) (s t : Console) (n format : ℕ) → Grows s t → n ≡ length (events_of s) → HasFormat f s → (b : Bool) → f.begun ≡ b
    → (f.begun ≡ true → format ≡ f.format) → (f.begun ≡ false → format ≡ format_for (checkpoint_of_console t) (events_of t))
    → (b ≡ true → (f.format ≡ declaring_format) ⊎ (needs_declaring_format (drop n (events_of t)) ≡ false)) → IsFormatFor format (checkpoint_of_console t) (events_of t)
open_format f s t n format g e is true begun same none more =
    subst (λ (x : ℕ). IsFormatFor x (checkpoint_of_console t) (events_of t)) (sym (same begun)) (kept_format f s t n g e is (more refl))
open_format f s t n format g e is false begun same none more = inl (none begun)

-- what it has then
kept_open : {D : Type 0} (disk : Disk D) (new : HistoryFile D) (d : OpenDesk) (format : ℕ) → IsFormatFor format d.desk.checkpoint d.desk.history → new.format ≡ format → (IsTrue disk.is_honest → new.begun ≡ true)
    → KeepsHistory disk new (start_in format (Open d)) d.desk.history → KeepsConsole disk new (Open d)
kept_open disk new d format is same begun kept =
    let has : HasFormat new (Open d) = subst (λ (n : ℕ). IsFormatFor n d.desk.checkpoint d.desk.history) (sym same) is in (
      has,
      λ honest. record {
        history = subst (λ (n : ℕ). HistoryKept disk new (start_in n (Open d)) d.desk.history) (sym same) (kept honest);
        format = has;
        begun_if_open = begun honest;
      },
    )

pub open_kept : {D T E : Type 0} (disk : Disk D) (new : HistoryFile D) (d : OpenDesk) (format : ℕ) (r : Result T E) → IsFormatFor format d.desk.checkpoint d.desk.history → OnOk r (new.format ≡ format)
    → OnOk r (IsTrue disk.is_honest → new.begun ≡ true) → OnOk r (KeepsHistory disk new (start_in format (Open d)) d.desk.history) → OnOk r (KeepsConsole disk new (Open d))
open_kept disk new d format (Ok x) is same begun kept = kept_open disk new d format is same begun kept
open_kept disk new d format (Err x) is same begun kept = tt

-- ---- a console that declares
pub declaring_count : (K : Console → Type 0) (t : Console) (table : List Declared) (limit n : ℕ) → t ≡ Declaring table limit → MayCommit K t n → n ≡ length (events_of t)
declaring_count K t table limit n is m =
    let g = m.grows in
    let none : length (events_of t) ≡ 0 = ap (λ (x : Console). length (events_of x)) is in
    omega (arith, m.count, none, ap length g.events, length-append (events_of m.committed) g.added)

format_declaring : {D : Type 0} (f : HistoryFile D) (s : Console) (table : List Declared) (limit : ℕ) → Grows s (Declaring table limit) → HasFormat f s → HasFormat f (Declaring table limit)
format_declaring f (Open d) table limit g is = let no : false ≡ true = (g.opened refl).0 in absurd cc
format_declaring f (Declaring before old) table limit g is = is

pub declaring_kept : {D : Type 0} (disk : Disk D) (f : HistoryFile D) (s t : Console) (table : List Declared) (limit : ℕ)
    → t ≡ Declaring table limit → Grows s t → KeepsConsole disk f s → KeepsConsole disk f t
declaring_kept disk f s t table limit is g k =
    let grows = subst (Grows s) is g in
    subst (KeepsConsole disk f) (sym is) (format_declaring f s table limit grows k.0, λ honest. kept_declaring disk f s table limit grows (k.1 honest))

-- ---- a console that has made a checkpoint
module _ (K : Console → Type 0) (d : OpenDesk) (m : MayBeginAnew K (Open d)) where
  pub anew_none : d.desk.history ≡ []
  anew_none = ap events_of m.made

  pub anew_begins : CheckpointsFit → (c : CheckpointView) → Some c ≡ d.desk.checkpoint → MayStart d.desk.table d.desk.checkpoint → AreKnown c.names → AreCellsInRange c.store → AreBlocksInRange c.blocks → MayBeginRun (Open d)
  anew_begins law c is start known cells blocks =
      let from : checkpoint_of_console (with_checkpoint m.before) ≡ Some c = ap checkpoint_of_console (sym m.made) ∙ sym is in
      let may : MayStart (table_of m.before) (Some c) = subst (λ (t : List Declared). MayStart t (Some c)) (ap table_of m.made) (subst (MayStart d.desk.table) (sym is) start) in
      subst MayBeginRun (sym m.made) (law m.committed m.before c m.may_begin m.grows m.variables from may known cells blocks)

pub anew_fits : (d : OpenDesk) (c : CheckpointView) → Some c ≡ d.desk.checkpoint → MayBeginRun (Open d) → (s : Slow) × FitLines (record { format = format_for (Some c) []; table = d.desk.table; checkpoint = Some c }) s []
anew_fits d c is m = (
  first_state_of (Open d),
  record {
    format_fits = format_fits d.desk.table (Some c) (format_for (Some c) []) [] (inl refl);
    start_fits = subst (FitsBefore d.desk.table) (sym is) m.start;
    fit = tt;
  },
)

-- what the file has then
anew_kept : {D : Type 0} (disk : Disk D) (f : HistoryFile D) (d : OpenDesk) (c : CheckpointView) → Some c ≡ d.desk.checkpoint → d.desk.history ≡ [] → f.format ≡ format_for (Some c) [] → f.begun ≡ true
    → (IsTrue disk.is_honest → HistoryKept disk f (record { format = format_for (Some c) []; table = d.desk.table; checkpoint = Some c }) []) → KeepsConsole disk f (Open d)
anew_kept disk f d c is none format begun kept =
    let has : HasFormat f (Open d) = inl (format ∙ ap₂ format_for is (sym none)) in (
      has,
      λ honest. record {
        history = subst (HistoryKept disk f (start_in f.format (Open d))) (sym none)
            (subst (λ (o : Option CheckpointView). HistoryKept disk f (record { format = f.format; table = d.desk.table; checkpoint = o }) []) is
            (subst (λ (n : ℕ). HistoryKept disk f (record { format = n; table = d.desk.table; checkpoint = Some c }) []) (sym format) (kept honest)));
        format = has;
        begun_if_open = begun;
      },
    )

pub anew_kept_if : {D : Type 0} (disk : Disk D) (old f : HistoryFile D) (d : OpenDesk) (c : CheckpointView) (r : Result Unit ReplaceError) → Some c ≡ d.desk.checkpoint → d.desk.history ≡ []
    → BeginsAs disk old f (record { format = format_for (Some c) []; table = d.desk.table; checkpoint = Some c }) [] r → OnOk r (KeepsConsole disk f (Open d))
anew_kept_if disk old f d c (Ok x) is none begins = anew_kept disk f d c is none begins.format begins.begun begins.kept
anew_kept_if disk old f d c (Err (Refused e)) is none begins = tt
anew_kept_if disk old f d c (Err (Unfinished e)) is none begins = tt

checkpoint_start : (d : OpenDesk) (c : CheckpointView) → Some c ≡ d.desk.checkpoint → d.desk.history ≡ [] → written_start d.desk.table (Some c) [] ≡ start_of_console (Open d)
checkpoint_start d c is none = ap₂ (λ (o : Option CheckpointView) (es : List Event). written_start d.desk.table o es) is (sym none)

pub checkpoint_left : (sync : SyncMode) (zeros : Bool) (s : Console) (d : OpenDesk) (c : CheckpointView) (file : List ℕ) → Some c ≡ d.desk.checkpoint → d.desk.history ≡ [] → file ≡ history_text (written_start d.desk.table (Some c) []) []
    → LeavesBetween sync zeros s (Open d) file
checkpoint_left sync zeros s d c file is none text =
    inr (record { begun = sym (ap is_some is); none = none; text = text ∙ append-nil (start_text (written_start d.desk.table (Some c) [])) ∙ ap start_text (checkpoint_start d c is none) })

-- while a new file takes the place of the old one
pub begun_run : {D : Type 0} (disk : Disk D) (f : HistoryFile D) (new : D) (s : Console) (d : OpenDesk) (c : CheckpointView) → Some c ≡ d.desk.checkpoint → d.desk.history ≡ [] → ConsoleKept disk f s
    → LeavesOnly disk f.journal.device new (λ x. disk.may_leave f.journal.device x ⊎ (x ≡ history_text (written_start d.desk.table (Some c) []) []))
    → LeavesOnly disk f.journal.device new (λ x. LeavesBetween f.journal.sync disk.fills_with_zeros s s x ⊎ LeavesBetween f.journal.sync disk.fills_with_zeros s (Open d) x)
begun_run disk f new s d c is none k run =
    weaker disk f.journal.device new (λ x. disk.may_leave f.journal.device x ⊎ (x ≡ history_text (written_start d.desk.table (Some c) []) []))
    (λ x. LeavesBetween f.journal.sync disk.fills_with_zeros s s x ⊎ LeavesBetween f.journal.sync disk.fills_with_zeros s (Open d) x) run
    (λ x h. ⊎_elim (λ y. inl (between_none disk f s s (grows_not s) k x y)) (λ y. inr (checkpoint_left f.journal.sync disk.fills_with_zeros s d c x is none y)) h)
