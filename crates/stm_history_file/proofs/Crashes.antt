-- What a batch of events leaves.
use Rattle.std.proofs.Common.{◌≡◌, ◌≢◌, ◌⊎◌, inl, inr, ⊎_elim, ℕ, ◌≤◌, List, [], ◌++◌, length, take, drop, Bool, true, false, refl, sym, ◌∙◌, ap, subst, arith}
use Rattle.std.proofs.lemmas.List.{append-nil}
use Rattle.std.proofs.lemmas.Bool.{cases_Bool}
use Rattle.stm_events.specs.declared.event.Event.{Event}
use Rattle.stm_events.specs.SlowDesk.{Slow}
use Rattle.stm_history_text.specs.HistoryText.{history_text, event_lines}
use Rattle.stm_history_text.specs.Starts.{Start}
use Rattle.stm_journal.specs.declared.sync_mode.SyncMode.{SyncMode}
use Rattle.stm_journal.specs.declared.sync_mode.SyncMode.TheVariants.{Full, Sector, Append, Never}
use Rattle.stm_journal.specs.Disk.{Disk, LeavesOnly}
use Rattle.stm_journal.specs.Journal.{AtRest, MayLeave, most_batch}
use Rattle.stm_journal.specs.Journal as journal
use Rattle.stm_journal.specs.Text.{recovered, dropped_count, IsWhole}
use Rattle.stm_journal.proofs.Moments.{started, weaker}
use Rattle.stm_journal.proofs.Wholes.{recovered_whole}
use Rattle.stm_history_file.specs.Durable.{IsForeign, IsBegunOrWhole, IsOwn, file_text, batch_text, batch_sync, AreFit, HistoryKept, HasAllEventsOrNone, LeavesHistory, MayBecome}
use Rattle.stm_history_file.specs.declared.recording.HistoryFile.{HistoryFile}
use Rattle.stm_history_file.proofs.FirstEvents.{first_of}
use Rattle.stm_history_file.proofs.Texts.{file_text-batch, longer_text, not_empty}

-- ---- what a batch leaves

all_or_none : (begun : Bool) (start : Start) (history events : List Event) (text batch c : List ℕ) → text ≡ file_text begun start history
    → text ++ batch ≡ history_text start (history ++ events) → length batch ≤ most_batch → journal.HasAllOrNone text batch c → HasAllEventsOrNone begun start history events c
all_or_none begun start history events text batch c is longer small h = record {
  lines = ⊎_elim (λ before. inl (before ∙ is)) (λ after. inr (after ∙ longer)) h.lines;
  dropped = omega (arith, h.dropped, small);
}

leaves_batch : (sync : SyncMode) (zeros begun : Bool) (start : Start) (history events : List Event) (text batch c : List ℕ) → text ≡ file_text begun start history
    → text ++ batch ≡ history_text start (history ++ events) → batch ≡ batch_text begun start events → (s : Slow) → AreFit start.format s events → length batch ≤ most_batch
    → MayLeave (batch_sync sync begun) zeros text batch c → LeavesHistory sync zeros begun start history events c
leaves_batch Full zeros begun start history events text batch c is longer parts s fit small h = all_or_none begun start history events text batch c is longer small h
leaves_batch Sector zeros false start history events text batch c is longer parts s fit small h = all_or_none false start history events text batch c is longer small h
leaves_batch Sector zeros true start history events text batch c is longer parts s fit small h = all_or_none true start history events text batch c is longer small h
leaves_batch Append zeros false start history events text batch c is longer parts s fit small h = all_or_none false start history events text batch c is longer small h
leaves_batch Append true true start history events text batch c is longer parts s fit small h =
    let first = first_of start.format s events h.count fit (subst (λ (l : List ℕ). IsWhole (take h.count l)) parts h.front) in
    record {
      count = first.count;
      lines = h.lines ∙ ap (λ (l : List ℕ). text ++ take h.count l) parts ∙ ap (λ (l : List ℕ). text ++ l) first.lines
          ∙ ap (λ (l : List ℕ). l ++ event_lines (take first.count events)) is ∙ longer_text start history (take first.count events);
      dropped = omega (arith, h.dropped, small);
    }
leaves_batch Append false true start history events text batch c is longer parts s fit small h =
    record { more = h.more; lines = h.lines ∙ ap (λ (l : List ℕ). l ++ h.more) is; dropped = omega (arith, h.dropped, small) }
leaves_batch Never zeros begun start history events text batch c is longer parts s fit small h = tt

-- ---- what is left if nothing was written

pub nothing_dropped : (c : List ℕ) → IsWhole c → dropped_count c ≤ most_batch
nothing_dropped c is = omega (arith, is)

-- a file that has just this text
pub left_alone : (s : SyncMode) (zeros begun : Bool) (start : Start) (history events : List Event) (c : List ℕ) → IsWhole c → c ≡ file_text begun start history
    → LeavesHistory s zeros begun start history events c
left_alone Full zeros begun start history events c is text = record { lines = inl (recovered_whole c is ∙ text); dropped = nothing_dropped c is }
left_alone Sector zeros false start history events c is text = record { lines = inl (recovered_whole c is ∙ text); dropped = nothing_dropped c is }
left_alone Sector zeros true start history events c is text = record { lines = inl (recovered_whole c is ∙ text); dropped = nothing_dropped c is }
left_alone Append zeros false start history events c is text = record { lines = inl (recovered_whole c is ∙ text); dropped = nothing_dropped c is }
left_alone Append true true start history events c is text =
    record { count = 0; lines = recovered_whole c is ∙ text ∙ ap (history_text start) (sym (append-nil history)); dropped = nothing_dropped c is }
left_alone Append false true start history events c is text =
    record { more = []; lines = recovered_whole c is ∙ text ∙ sym (append-nil (history_text start history)); dropped = nothing_dropped c is }
left_alone Never zeros begun start history events c is text = tt

pub if_synced : (s : SyncMode) (zeros begun : Bool) (start : Start) (history events : List Event) (c : List ℕ) → (s ≢ Never → LeavesHistory s zeros begun start history events c)
    → LeavesHistory s zeros begun start history events c
if_synced Full zeros begun start history events c h = h (λ e. cc)
if_synced Sector zeros begun start history events c h = h (λ e. cc)
if_synced Append zeros begun start history events c h = h (λ e. cc)
if_synced Never zeros begun start history events c h = tt

some_lines : (start : Start) (history : List Event) (c : List ℕ) → recovered c ≡ history_text start history → IsForeign c → ⊥
some_lines start history c is other = not_empty start history [] (append-nil (history_text start history) ∙ sym is ∙ other.nothing)

-- after the first batch: it has lines
own_lines : (s : SyncMode) (zeros : Bool) (start : Start) (history events : List Event) (c : List ℕ) → s ≢ Never → LeavesHistory s zeros true start history events c → IsForeign c → ⊥
own_lines Full zeros start history events c some h other =
    ⊎_elim (λ is. some_lines start history c is other) (λ is. some_lines start (history ++ events) c is other) h.lines
own_lines Sector zeros start history events c some h other =
    ⊎_elim (λ is. some_lines start history c is other) (λ is. some_lines start (history ++ events) c is other) h.lines
own_lines Append true start history events c some h other = some_lines start (history ++ take h.count events) c h.lines other
own_lines Append false start history events c some h other = not_empty start history h.more (sym h.lines ∙ other.nothing)
own_lines Never zeros start history events c some h other = some refl

own_after : (begun : Bool) (start : Start) (events : List Event) (c : List ℕ) → begun ≡ true → (IsForeign c → ⊥) → IsOwn begun start events c
own_after begun start events c is none other = absurd (none other)

own_first : (begun : Bool) (start : Start) (events : List Event) (batch c : List ℕ) → begun ≡ false → batch ≡ batch_text begun start events → IsBegunOrWhole batch c → IsOwn begun start events c
own_first false start events batch c first is (inl begun) other = absurd (other.other begun)
own_first false start events batch c first is (inr same) other = (refl, same ∙ ap (λ (l : List ℕ). drop 1 l) is)
own_first true start events batch c first is h other = absurd (cc first)

module _ {D : Type 0} (disk : Disk D) (f : HistoryFile D) (start : Start) (history events : List Event) (some : f.journal.sync ≢ Never) (keeps : HistoryKept disk f start history) where
  own_if_left : f.begun ≡ true → (c : List ℕ) → MayBecome disk f start history events c → IsOwn f.begun start events c
  own_if_left is c h =
      own_after f.begun start events c is
      (own_lines f.journal.sync disk.fills_with_zeros start history events c some
      (subst (λ (b : Bool). LeavesHistory f.journal.sync disk.fills_with_zeros b start history events c) is h))

  -- the first batch, or a later one
  module _ (new : D) (batch : List ℕ) (is : batch ≡ batch_text f.begun start events) (run : LeavesOnly disk f.journal.device new (MayBecome disk f start history events))
      (first : f.begun ≡ false → LeavesOnly disk f.journal.device new (IsBegunOrWhole batch)) where
    pub own_run : LeavesOnly disk f.journal.device new (IsOwn f.begun start events)
    own_run = elim (cases_Bool f.begun) [
      | inl begun ↦ weaker disk f.journal.device new (MayBecome disk f start history events) (IsOwn f.begun start events) run (own_if_left begun)
      | inr none ↦
          weaker disk f.journal.device new (IsBegunOrWhole batch) (IsOwn f.begun start events) (first none)
          (λ c h. own_first f.begun start events batch c none is h)
    ]

  module _ (batch c : List ℕ) (is : batch ≡ batch_text f.begun start events) (h : MayBecome disk f start history events c) (first : f.begun ≡ false → IsBegunOrWhole batch c) where
    pub own_left : IsOwn f.begun start events c
    own_left = elim (cases_Bool f.begun) [
      | inl begun ↦ own_if_left begun c h
      | inr none ↦ own_first f.begun start events batch c none is (first none)
    ]

module _ {D : Type 0} (disk : Disk D) (f : HistoryFile D) (start : Start) (history events : List Event) (keeps : HistoryKept disk f start history) where
  pub stays_left : MayBecome disk f start history events (disk.seen f.journal.device)
  stays_left =
      let rest = keeps.at_rest in
      left_alone f.journal.sync disk.fills_with_zeros f.begun start history events (disk.seen f.journal.device) rest.whole keeps.text

  pub stays : ((c : List ℕ) → disk.left_since f.journal.device (disk.moment f.journal.device) c → disk.may_leave f.journal.device c)
      → LeavesOnly disk f.journal.device f.journal.device (MayBecome disk f start history events)
  stays now =
      let rest = keeps.at_rest in
      started disk f.journal.device (MayBecome disk f start history events)
      (λ c left. if_synced f.journal.sync disk.fills_with_zeros f.begun start history events c (λ some.
      subst (MayBecome disk f start history events) (sym (rest.durable some c (now c left))) stays_left))

  module _ (batch : List ℕ) (is : batch ≡ batch_text f.begun start events) where
    longer : disk.seen f.journal.device ++ batch ≡ history_text start (history ++ events)
    longer =
        ap (λ (l : List ℕ). l ++ batch) keeps.text ∙ ap (λ (l : List ℕ). file_text f.begun start history ++ l) is
        ∙ file_text-batch f.begun start history events keeps.none

    pub recorded : (new : HistoryFile D) → new.begun ≡ true → new.format ≡ start.format → AtRest disk new.journal.device new.journal.sync new.journal.len
        → disk.seen new.journal.device ≡ disk.seen f.journal.device ++ batch → HistoryKept disk new start (history ++ events)
    recorded new begun format at_rest text = record {
      at_rest = at_rest;
      text = text ∙ longer ∙ ap (λ (b : Bool). file_text b start (history ++ events)) (sym begun);
      none = λ e. absurd (cc (e, begun));
      format_is = λ e. format;
    }

    module _ (s : Slow) (fit : AreFit start.format s events) (small : length batch ≤ most_batch) where
      pub left : (c : List ℕ) → MayLeave (batch_sync f.journal.sync f.begun) disk.fills_with_zeros (disk.seen f.journal.device) batch c
          → MayBecome disk f start history events c
      left c h =
          leaves_batch f.journal.sync disk.fills_with_zeros f.begun start history events (disk.seen f.journal.device) batch c keeps.text longer is s fit small h

      pub leaves : (new : D) → LeavesOnly disk f.journal.device new (MayLeave (batch_sync f.journal.sync f.begun) disk.fills_with_zeros (disk.seen f.journal.device) batch)
          → LeavesOnly disk f.journal.device new (MayBecome disk f start history events)
      leaves new run =
          weaker disk f.journal.device new (MayLeave (batch_sync f.journal.sync f.begun) disk.fills_with_zeros (disk.seen f.journal.device) batch)
          (MayBecome disk f start history events) run left
