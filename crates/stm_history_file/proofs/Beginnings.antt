-- A history that begins in a new file.
use Rattle.std.proofs.Common.{◌≡◌, ◌≢◌, ◌⊎◌, inl, inr, ⊎_elim, ℕ, ◌≤◌, List, [], ◌++◌, drop, Bool, true, false, Err, sym, ◌∙◌, ap, subst, arith}
use Rattle.stm_events.specs.declared.event.Event.{Event}
use Rattle.stm_history_text.specs.HistoryText.{history_text}
use Rattle.stm_history_text.specs.Starts.{Start}
use Rattle.stm_journal.specs.declared.journal.Journal.{Journal}
use Rattle.stm_journal.specs.declared.replace.ReplaceError.{ReplaceError}
use Rattle.stm_journal.specs.declared.replace.ReplaceError.TheVariants.{Refused, Unfinished}
use Rattle.stm_journal.specs.declared.sync_mode.SyncMode.{SyncMode}
use Rattle.stm_journal.specs.declared.sync_mode.SyncMode.TheVariants.{Full, Sector, Append, Never}
use Rattle.stm_journal.specs.Disk.{CrashLeaves, Disk, FailsOnlyByDisk, LeavesOnly, Shows}
use Rattle.stm_journal.specs.FirstBatch.{IsBegun}
use Rattle.stm_journal.specs.Journal.{IsAtRest}
use Rattle.stm_journal.specs.Replacing.{ReplacesAs, error_within}
use Rattle.stm_journal.specs.Text.{IsWhole}
use Rattle.stm_journal.proofs.Moments.{joined, weaker}
use Rattle.stm_journal.proofs.Wholes.{recovered_whole}
use Rattle.stm_history_file.specs.Durable.{BeginsAs, HistoryKept, HasAllEventsOrNone, IsOwn, KeepsHistories, LeavesHistory, MayBecome, file_text, history_front}
use Rattle.stm_history_file.specs.declared.recording.HistoryFile.{HistoryFile}
use Rattle.stm_history_file.proofs.Crashes.{stays_left, if_synced, nothing_dropped}

-- a file that has the bytes that it had, and is at rest, keeps its histories
still_kept : {D : Type 0} (disk : Disk D) (old new : HistoryFile D) → new.begun ≡ old.begun → new.format ≡ old.format
    → Shows disk new.journal.device (disk.seen old.journal.device) → IsAtRest disk new.journal → KeepsHistories disk old new
still_kept disk old new begun format seen rest honest start history k = record {
  at_rest = rest honest;
  text = seen honest ∙ k.text ∙ ap (λ (b : Bool). file_text b start history) (sym begun);
  none = λ e. k.none (sym begun ∙ e);
  format_is = λ e. format ∙ k.format_is (sym begun ∙ e);
}

-- a crash at any moment of two calls leaves what it might have left before the first
left_before : {D : Type 0} (disk : Disk D) (old mid new : D) → ((t : ℕ) (c : List ℕ) → t ≤ disk.moment mid → disk.may_leave mid c → disk.left_since mid t c)
    → LeavesOnly disk old mid (disk.may_leave old) → LeavesOnly disk mid new (disk.may_leave mid) → LeavesOnly disk old new (disk.may_leave old)
left_before disk old mid new counts first second =
    joined disk old mid new (disk.may_leave old) (disk.may_leave mid) (disk.may_leave old) first second (λ c left. left)
    (λ c left. first.each c (counts (disk.moment old) c first.later left))

-- no new file has taken the place of the old one, or it isn't known whether it has
pub not_replaced : {D : Type 0} (disk : Disk D) (old new : HistoryFile D) (start : Start) (events : List Event) (mid : Journal D) (other : D) (e : ReplaceError)
    → new.begun ≡ old.begun → new.format ≡ old.format
    → ((t : ℕ) (c : List ℕ) → t ≤ disk.moment mid.device → disk.may_leave mid.device c → disk.left_since mid.device t c)
    → Shows disk mid.device (disk.seen old.journal.device) → IsAtRest disk mid
    → CrashLeaves disk old.journal.device mid.device (disk.may_leave old.journal.device)
    → Shows disk other (history_text start events) → ReplacesAs disk mid other new.journal (Err e)
    → FailsOnlyByDisk {T = Unit {0}} disk mid.device new.journal.device (Err (error_within e)) → BeginsAs disk old new start events (Err e)
not_replaced disk old new start events mid other (Refused e) begun format counts same rest first text is fault =
    let same_bytes : Shows disk new.journal.device (disk.seen old.journal.device) = λ honest. is.seen honest ∙ same honest in
    record {
      seen = same_bytes;
      kept = still_kept disk old new begun format same_bytes (is.at_rest rest);
      begun = begun;
      format = format;
      any_moment = λ honest. left_before disk old.journal.device mid.device new.journal.device counts (first honest) (is.any_moment honest);
    }
not_replaced disk old new start events mid other (Unfinished e) begun format counts same rest first text is fault =
    record {
      seen = λ honest. ⊎_elim (λ seen. inl (seen ∙ same honest)) (λ seen. inr (seen ∙ text honest)) (is honest);
      error = λ honest. (λ is. (fault honest).cause.too_long (ap Err is), λ is. (fault honest).cause.full (ap Err is));
      begun = begun;
      format = format;
    }

-- ---- since the lines before the events are too long for a batch
-- the text of a history with no events
pub text_alone : (start : Start) (history : List Event) → history ≡ [] → history_text start (history ++ []) ≡ history_text start []
text_alone start history none = ap (λ (es : List Event). history_text start (es ++ [])) none

all_lines : (begun : Bool) (start : Start) (history : List Event) (c : List ℕ) → history ≡ [] → IsWhole c → c ≡ history_text start [] → HasAllEventsOrNone begun start history [] c
all_lines begun start history c none is text =
    record { lines = inr (recovered_whole c is ∙ text ∙ sym (text_alone start history none)); dropped = nothing_dropped c is }

text_left : (s : SyncMode) (zeros begun : Bool) (start : Start) (history : List Event) (c : List ℕ) → begun ≡ false → history ≡ [] → IsWhole c → c ≡ history_text start []
    → LeavesHistory s zeros begun start history [] c
text_left Full zeros begun start history c first none is text = all_lines begun start history c none is text
text_left Sector zeros false start history c first none is text = all_lines false start history c none is text
text_left Sector zeros true start history c first none is text = absurd (cc first)
text_left Append zeros false start history c first none is text = all_lines false start history c none is text
text_left Append zeros true start history c first none is text = absurd (cc first)
text_left Never zeros begun start history c first none is text = tt

module _ {D : Type 0} (disk : Disk D) (f : HistoryFile D) (start : Start) (history : List Event) (first : f.begun ≡ false) (keeps : HistoryKept disk f start history)
    (whole : IsWhole (history_text start [])) where
  all_left : (c : List ℕ) → c ≡ history_text start [] → MayBecome disk f start history [] c
  all_left c text =
      text_left f.journal.sync disk.fills_with_zeros f.begun start history c first (keeps.none first) (subst IsWhole (sym text) whole) text

  old_left : (c : List ℕ) → disk.may_leave f.journal.device c → MayBecome disk f start history [] c
  old_left c left =
      if_synced f.journal.sync disk.fills_with_zeros f.begun start history [] c
      (λ some. subst (MayBecome disk f start history []) (sym (keeps.at_rest.durable some c left)) (stays_left disk f start history [] keeps))

  -- while a new file takes the place of the old one
  pub begun_run : (new : D) → LeavesOnly disk f.journal.device new (λ c. disk.may_leave f.journal.device c ⊎ (c ≡ history_text start []))
      → LeavesOnly disk f.journal.device new (MayBecome disk f start history [])
  begun_run new run =
      weaker disk f.journal.device new (λ c. disk.may_leave f.journal.device c ⊎ (c ≡ history_text start [])) (MayBecome disk f start history []) run
      (λ c h. ⊎_elim (old_left c) (all_left c) h)

  -- and after it, or after an error
  pub begun_left : (c : List ℕ) → (c ≡ disk.seen f.journal.device) ⊎ (c ≡ history_text start []) → MayBecome disk f start history [] c
  begun_left c h =
      ⊎_elim (λ same. subst (MayBecome disk f start history []) (sym same) (stays_left disk f start history [] keeps)) (all_left c) h

  -- the file had nothing
  had_nothing : disk.seen f.journal.device ≡ []
  had_nothing = keeps.text ∙ ap (λ (b : Bool). file_text b start history) first

  -- a file with nothing is one in which a first batch may be begun
  nothing_own : (c : List ℕ) → c ≡ [] → IsOwn f.begun start [] c
  nothing_own c none other = let empty : IsBegun history_front [] = inl (omega arith) in absurd (other.other (subst (IsBegun history_front) (sym none) empty))

  all_own : (c : List ℕ) → c ≡ history_text start [] → IsOwn f.begun start [] c
  all_own c text other = (first, ap (λ (l : List ℕ). drop 1 l) text)

  old_own : f.journal.sync ≢ Never → (c : List ℕ) → disk.may_leave f.journal.device c → IsOwn f.begun start [] c
  old_own some c left = nothing_own c (keeps.at_rest.durable some c left ∙ had_nothing)

  -- while a new file takes the place of the old one, what is left isn't some other file
  pub own_begun_run : f.journal.sync ≢ Never → (new : D) → LeavesOnly disk f.journal.device new (λ c. disk.may_leave f.journal.device c ⊎ (c ≡ history_text start []))
      → LeavesOnly disk f.journal.device new (IsOwn f.begun start [])
  own_begun_run some new run =
      weaker disk f.journal.device new (λ c. disk.may_leave f.journal.device c ⊎ (c ≡ history_text start [])) (IsOwn f.begun start []) run
      (λ c h. ⊎_elim (old_own some c) (all_own c) h)

  -- nor is it after it, or after an error
  pub own_begun_left : (c : List ℕ) → (c ≡ disk.seen f.journal.device) ⊎ (c ≡ history_text start []) → IsOwn f.begun start [] c
  own_begun_left c h = ⊎_elim (λ same. nothing_own c (same ∙ had_nothing)) (all_own c) h
