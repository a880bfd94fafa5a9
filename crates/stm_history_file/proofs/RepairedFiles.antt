-- A file that was repaired has what was loaded of it.
use Rattle.std.proofs.Common.{◌≡◌, inl, inr, ⊎_elim, ℕ, List, Bool, true, false, Option, Some, None, is_some, IfSome, [], ◌∷◌, refl, sym, ap, ap₂, ◌∙◌, subst, ◌<◌, Ok, Err}
use Rattle.std.specs.Prelude.{◌⊎◌, ◌&&◌, ◌||◌, if◌then◌else◌, IsErrOf}
use Rattle.std.proofs.lemmas.List.{append-nil}
use Rattle.stm_store.specs.Naming.{is_gapless}
use Rattle.stm_store.specs.Tables.{Declared}
use Rattle.stm_events.specs.declared.event.Event.{Event}
use Rattle.stm_events.specs.declared.event.What.{What}
use Rattle.stm_events.specs.declared.event.What.TheVariants as what
use Rattle.stm_events.specs.SlowDesk.{Slow, after}
use Rattle.stm_machine.specs.Checkpoints.{CheckpointView}
use Rattle.stm_event_lines.specs.CheckpointLines.{checkpoint_format}
use Rattle.stm_event_lines.specs.Fits.{WhatFitsFormat}
use Rattle.stm_event_lines.specs.Lines.{declaring_format, table_format}
use Rattle.stm_history.specs.Judgement.{AreEvents}
use Rattle.stm_history.specs.Loading.{HasText, loaded_start}
use Rattle.stm_history_text.specs.Starts.{GoesByPresentRule, are_plain_blocks, declares, format_for, format_of_start, is_declaration, is_labelling, labels_blocks}
use Rattle.stm_history.specs.declared.loading.Loaded.{Loaded}
use Rattle.stm_journal.specs.declared.error.JournalError.{JournalError}
use Rattle.stm_journal.specs.declared.error.JournalError.TheVariants.{Failed, NoSpace, Full as FullFile, TooLong, TornTooLong}
use Rattle.stm_journal.specs.Device.{HasCause}
use Rattle.stm_journal.specs.Disk.{Disk}
use Rattle.stm_journal.specs.Journal.{AtRest, most_batch}
use Rattle.stm_journal.specs.Text.{dropped_count}
use Rattle.stm_history_file.specs.Durable.{LoadedKept, LoadsFront, file_text, HasOpenCause, IsForeign, IsFormatFor, IsFormatOf, IsNeverOpened}
use Rattle.stm_history_file.specs.declared.resuming.OpenFault.TheVariants.{Journal}
use Rattle.stm_history_file.specs.declared.recording.HistoryFile.{HistoryFile}

pub has_loaded : {D : Type 0} (disk : Disk D) (new : HistoryFile D) (front : List ℕ) (loaded : Option Loaded) → new.begun ≡ is_some loaded → ((h : Loaded) → loaded ≡ Some h → new.format ≡ h.format) → LoadsFront front loaded
    → disk.seen new.journal.device ≡ front → AtRest disk new.journal.device new.journal.sync new.journal.len → LoadedKept disk new loaded
has_loaded disk new front None b f l is rest =
    (b, λ start. record { at_rest = rest; text = is ∙ l ∙ ap (λ (b : Bool). file_text b start []) (sym b); none = λ e. refl; format_is = λ e. absurd (cc (e, b)) })
has_loaded disk new front (Some h) b f l is rest = (
  b,
  record {
    at_rest = rest;
    text = is ∙ l.text ∙ append-nil _ ∙ ap (λ (b : Bool). file_text b (loaded_start h) h.events.items) (sym b);
    none = λ e. absurd (cc (e, b));
    format_is = λ e. f h refl;
  },
)

-- ---- formats
-- what may stand in another format than that of late declarations and labels declares no variable, and labels no block
other_what : (format : ℕ) (w : What) → (format ≡ declaring_format → ⊥) → WhatFitsFormat format w → (is_declaration w ≡ false) × (is_labelling w ≡ false)
other_what format (what.Submitted t block) other fit = (refl, refl)
other_what format (what.Installed t v) other fit = (refl, refl)
other_what format (what.Finished t v n stale) other fit = (refl, refl)
other_what format (what.Cancelled t) other fit = (refl, refl)
other_what format (what.Declared name kind value) other fit = absurd (other fit)
other_what format (what.Labelled t label) other fit = absurd (other fit)

other_events : (format : ℕ) (s : Slow) (es : List Event) → (format ≡ declaring_format → ⊥) → AreEvents format s es → (declares es ≡ false) × (labels_blocks es ≡ false)
other_events format s [] other are = (refl, refl)
other_events format s (e ∷ es) other are =
    let first = other_what format e.what other are.1 in
    let rest = other_events format (after s e.what) es other are.3 in
    (ap₂ (λ (a b : Bool). a || b) first.0 rest.0, ap₂ (λ (a b : Bool). a || b) first.1 rest.1)

start_format_is : (checkpoint : Option CheckpointView) (es : List Event) → (declares es ≡ false) × (labels_blocks es ≡ false) → format_for checkpoint es ≡ format_of_start checkpoint
start_format_is checkpoint es other = ap₂ (λ (a b : Bool). if a || b then declaring_format else format_of_start checkpoint) other.0 other.1

checkpoint_start_is : (c : CheckpointView) → is_gapless c.names ≡ true → are_plain_blocks c.blocks ≡ true → format_of_start (Some c) ≡ checkpoint_format
checkpoint_start_is c gapless plain = ap₂ (λ (a b : Bool). if a && b then checkpoint_format else declaring_format) gapless plain

-- a history that was loaded is in one of its formats
pub loaded_format_is : (format : ℕ) (table : List Declared) (checkpoint : Option CheckpointView) (es : List Event) → GoesByPresentRule format checkpoint
    → HasText (record { format = format; table = table; checkpoint = checkpoint }) es → IsFormatFor format checkpoint es
loaded_format_is format table None es (inr is) text = inr is
loaded_format_is format table None es (inl is) text =
    inl (is ∙ sym (start_format_is None es (other_events format _ es (λ e. cc (e, is)) text.1.events)))
loaded_format_is format table (Some c) es latest text =
    let start = text.1.start.1 in
    ⊎_elim
    (λ four. inl (four ∙ sym (start_format_is (Some c) es (other_events format _ es (λ e. cc (e, four)) text.1.events)
    ∙ checkpoint_start_is c (start.format_fits.1 four) (start.format_fits.2 four))))
    inr start.format_fits.0

-- so the format of the file is one for what was loaded
pub format_of_loaded : (format : ℕ) (loaded : Option Loaded) → (loaded ≡ None → format ≡ table_format) → ((h : Loaded) → loaded ≡ Some h → format ≡ h.format)
    → IfSome loaded (λ h. IsFormatFor h.format h.checkpoint h.events.items) → IsFormatOf format loaded
format_of_loaded format None none some is = inl (none refl)
format_of_loaded format (Some h) none some is = (some h refl, is)

-- ---- what may be opened
-- a file that was repaired is no other file, and no more was dropped than a batch can have
pub is_repaired : (file : List ℕ) (dropped : ℕ) (same : Type 0) (x : Unit {0}) → (IsForeign file → ⊥) → dropped ≡ dropped_count file
    → (most_batch < dropped → IsErrOf {E = JournalError} (Ok x) TornTooLong × same) → IsNeverOpened file → ⊥
is_repaired file dropped same x own is refused (inl foreign) = own foreign
is_repaired file dropped same x own is refused (inr more) = cc ((refused (subst (λ (n : ℕ). most_batch < n) (sym is) more)).0)

-- one that wasn't is as it was, if more would have been dropped
pub is_unrepaired : (file : List ℕ) (dropped : ℕ) (same refusal : Type 0) → (IsForeign file → ⊥) → dropped ≡ dropped_count file
    → (most_batch < dropped → refusal × same) → IsNeverOpened file → same
is_unrepaired file dropped same refusal own is refused (inl foreign) = absurd (own foreign)
is_unrepaired file dropped same refusal own is refused (inr more) = (refused (subst (λ (n : ℕ). most_batch < n) (sym is) more)).1

-- why it wasn't
pub repair_cause : (reads fault full : Type 0) (file : List ℕ) (dropped : ℕ) (e : JournalError) → dropped ≡ dropped_count file
    → HasCause {T = Unit {0}} fault (record { full = ⊥; too_long = ⊥; torn_too_long = most_batch < dropped }) (Err e)
    → HasOpenCause (reads ⊎ fault) fault (record { full = full; too_long = ⊥; torn_too_long = most_batch < dropped_count file }) (Journal e)
repair_cause reads fault full file dropped e is cause = record {
  failed = λ j. inr (cause.failed (passed e Failed j));
  no_space = λ j. cause.no_space (passed e NoSpace j);
  full = λ j. absurd (cause.full (passed e FullFile j));
  too_long = λ j. cause.too_long (passed e TooLong j);
  torn_too_long = λ j. subst (λ (n : ℕ). most_batch < n) is (cause.torn_too_long (passed e TornTooLong j));
}
  where
    passed : (e f : JournalError) → Journal e ≡ Journal f → IsErrOf {T = Unit {0}} (Err e) f
    passed e f j = let same : e ≡ f = cc j in ap (λ (x : JournalError). Err x) same
