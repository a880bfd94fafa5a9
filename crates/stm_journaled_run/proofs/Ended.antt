-- What a run has written and left when it ends.
use Rattle.std.proofs.Common.{◌≡◌, inl, inr, ℕ, ◌∷◌, Result, Ok, Err, IfErr, OnOk, OnErr, List, [], ◌++◌, Bool, true, false, IsTrue, Option, Some, None, IfSome, refl, sym, ap, ◌∙◌, subst, arith, append_assoc, append-nil}
use Rattle.std.specs.Io.KnownBytes.{Appends}
use Rattle.std.proofs.KnownBytes.{Appends-nil}
use Rattle.stm_terms.specs.Texts.{IsPrefixOf}
use Rattle.stm_history.specs.Loading.{HasText, loaded_start, IsResumable}
use Rattle.stm_history.specs.Judgement.{AreEvents, FitsBefore, IsBefore}
use Rattle.stm_history_text.specs.Starts.{first_state, format_of_start}
use Rattle.stm_machine.specs.Checkpoints.{CheckpointView, start_of, started_by}
use Rattle.stm_history.specs.declared.loading.Loaded.{Loaded}
use Rattle.stm_journal.specs.declared.sync_mode.SyncMode.{SyncMode}
use Rattle.stm_journal.specs.Disk.{Disk, LeavesOnly}
use Rattle.stm_journal.proofs.Moments.{weaker}
use Rattle.stm_history_file.specs.Durable.{HasLoaded, HistoryKept, IsFormatFor, IsFormatOf, LoadedKept}
use Rattle.stm_history_file.specs.declared.recording.HistoryFile.{HistoryFile}
use Rattle.stm_event_lines.specs.Fits.{WhatFitsNames}
use Rattle.stm_event_lines.specs.Lines.{declaring_format, rule_of}
use Rattle.stm_events.specs.declared.event.Event.{Event}
use Rattle.stm_events.specs.declared.event.What.{What}
use Rattle.stm_events.specs.declared.event.What.TheVariants as what
use Rattle.stm_events.specs.SlowDesk.{Slow, after}
use Rattle.stm_store.specs.Naming.{Named}
use Rattle.stm_store.specs.Tables.{Declared}
use Rattle.std.specs.Prelude.{◌⊎◌, if◌then◌else◌, IsErrOf}
use Rattle.stm_lines.specs.Lines.{lines_of}
use Rattle.stm_lines.specs.declared.run_fault.RunFault.TheVariants.{Read}
use Rattle.stm_run.specs.declared.console.Console.{Console}
use Rattle.stm_run.specs.Console.{initial_console}
use Rattle.stm_run.specs.Fitting.{VariablesFit}
use Rattle.stm_run.specs.LineCheckpoints.{Turn, states_after, answers_by, ForTurns}
use Rattle.stm_run.proofs.EventsOfConsole.{grows_not}
use Rattle.stm_journaled_run.specs.declared.fault.DurableFault.{DurableFault}
use Rattle.stm_journaled_run.specs.declared.fault.DurableFault.TheVariants.{Run, Journal}
use Rattle.stm_journaled_run.specs.DurableRun.{resumed_console, HasFormat, KeepsConsole, ConsoleKept, IsNoJournalFault, HasCommitted, LeavesBetween, CoversAnswers, RunsUnlessDisk}
use Rattle.stm_journaled_run.specs.WholeRun.{RunView, AnswersAllLines, AnswersInPart, AnswersWholeLines, RunFails, WritesRunOn}
use Rattle.stm_journaled_run.specs.NewEvents.{AreTexts, IsOfItsText, MayBeginRun, needs_declaring_format}
use Rattle.stm_journaled_run.specs.Committing.{HasFinished, HasFailed, LeavesRun}
use Rattle.stm_journaled_run.proofs.Committing.{answers_append}
use Rattle.stm_journaled_run.proofs.Turns.{plains, lines_of_plains}
use Rattle.stm_journaled_run.proofs.RecordedEvents.{between_none, between_still}

-- ---- the beginning
loaded_format : {D : Type 0} (f : HistoryFile D) (limit : ℕ) (loaded : Option Loaded) → IsFormatOf f.format loaded → HasFormat f (resumed_console limit loaded)
unfolding initial_console
loaded_format f limit None is = is
loaded_format f limit (Some l) is = subst (λ (n : ℕ). IsFormatFor n l.checkpoint l.events.items) (sym is.0) is.1

kept_by : {D : Type 0} (disk : Disk D) (f : HistoryFile D) (limit : ℕ) (loaded : Option Loaded) → HasFormat f (resumed_console limit loaded)
    → LoadedKept disk f loaded → ConsoleKept disk f (resumed_console limit loaded)
unfolding initial_console
kept_by disk f limit None is h = record { history = h.1 (record { format = f.format; table = []; checkpoint = None }); format = is; begun_if_open = h.0 }
kept_by disk f limit (Some l) is h = record {
  history = subst (λ (n : ℕ). HistoryKept disk f (record { format = n; table = l.table; checkpoint = l.checkpoint }) l.events.items) (sym (h.1.format_is h.0)) h.1;
  format = is;
  begun_if_open = h.0;
}

pub loaded_kept : {D : Type 0} (disk : Disk D) (f : HistoryFile D) (limit : ℕ) (loaded : Option Loaded)
    → IsFormatOf f.format loaded → HasLoaded disk f loaded → KeepsConsole disk f (resumed_console limit loaded)
loaded_kept disk f limit loaded is h =
    let has = loaded_format f limit loaded is in (has, λ honest. kept_by disk f limit loaded has (h honest))

-- what can be read can be written
read_fits : (format : ℕ) (table : List Declared) (o : Option CheckpointView) → IsBefore format table o → FitsBefore table o
read_fits format table None k = k.2
read_fits format table (Some c) k = k.1.fits

few_variables : (format : ℕ) (table : List Declared) (o : Option CheckpointView) → IsBefore format table o → VariablesFit table
few_variables format table None k = (k.1, k.2)
few_variables format table (Some c) k = subst VariablesFit (sym k.0) (omega arith, tt)

-- the events fit the names that are known where they stand, and so are of their texts
of_text : (known : List Named) (what : What) → WhatFitsNames known what → IsOfItsText known what
of_text known (what.Submitted t block) k = k.1
of_text known (what.Installed t v) k = tt
of_text known (what.Finished t v n stale) k = tt
of_text known (what.Cancelled t) k = tt
of_text known (what.Declared name kind value) k = tt
of_text known (what.Labelled t label) k = tt

events_texts : (format : ℕ) (s : Slow) (es : List Event) → AreEvents format s es → AreTexts s es
events_texts format s [] a = tt
events_texts format s (e ∷ es) a = (of_text s.names e.what a.0.1, events_texts format (after s e.what) es a.3)

-- a history that goes by the present rule begins where the desk does
same_beginning : (format : ℕ) (table : List Declared) (o : Option CheckpointView) → IsFormatFor format o [] ⊎ (format ≡ declaring_format) → started_by (rule_of format) table o ≡ start_of table o
same_beginning format table (Some c) is = refl
same_beginning format table None (inl (inl is)) = ap (λ (n : ℕ). started_by (rule_of n) table None) is
same_beginning format table None (inl (inr is)) = ap (λ (n : ℕ). started_by (rule_of n) table None) is
same_beginning format table None (inr is) = ap (λ (n : ℕ). started_by (rule_of n) table None) is

begins_by : (format : ℕ) (o : Option CheckpointView) (es : List Event) → IsFormatFor format o es → IsFormatFor format o [] ⊎ (format ≡ declaring_format)
begins_by format o es (inr is) = inr is
begins_by format o es (inl is) = by (needs_declaring_format es) is
  where
    by : (b : Bool) → format ≡ (if b then declaring_format else format_of_start o) → IsFormatFor format o [] ⊎ (format ≡ declaring_format)
    by true is = inr is
    by false is = inl (inl is)

-- what can be gone on from has a text
pub has_text : (loaded : Option Loaded) → IfSome loaded IsResumable → IfSome loaded (λ h. HasText (loaded_start h) h.events.items)
has_text None is = tt
has_text (Some h) is = is.text

pub may_begin : (format limit : ℕ) (loaded : Option Loaded) → IfSome loaded (λ h. HasText (loaded_start h) h.events.items) → IsFormatOf format loaded → MayBeginRun (resumed_console limit loaded)
unfolding initial_console
may_begin format limit None text is = record { start = tt; variables = (omega arith, tt); texts = tt }
may_begin format limit (Some l) text is = record {
  start = read_fits l.format l.table l.checkpoint text.1.start;
  variables = few_variables l.format l.table l.checkpoint text.1.start;
  texts = subst (λ (s : Slow). AreTexts s l.events.items) (same_beginning l.format l.table l.checkpoint (begins_by l.format l.checkpoint l.events.items is.1))
      (events_texts l.format (first_state (loaded_start l)) l.events.items text.1.events);
}

-- ---- the end
prefix_more : {Cause : Type 0} (every : ℕ) (s : Console) (lines answered others : List (Turn Cause)) (written : List ℕ) → lines ≡ answered ++ others → IsPrefixOf written (answers_by every s answered) → IsPrefixOf written (answers_by every s lines)
prefix_more every s lines answered others written e p =
    let more = answers_by every (states_after every s answered) others in
    (p.0 ++ more, ap (answers_by every s) e ∙ answers_append every s answered others ∙ ap (λ (t : List ℕ). t ++ more) p.1 ∙ append_assoc written p.0 more)

whole_prefix : (text : List ℕ) → IsPrefixOf text text
whole_prefix text = ([], sym (append-nil text))

module _ {D : Type 0} (Cause : Type 0) (disk : Disk D) (f : HistoryFile D) (was : SyncMode) (same : f.journal.sync ≡ was) (every : ℕ) (s : Console) (input old new : Option (List ℕ)) where
  -- this holds of the lines of the input, if for some of them the checkpoint can't be made
  abbrev Over : (List (Turn Cause) → Type 0) → Type 0
  Over P = IfSome input (λ bytes. ForTurns Cause (lines_of bytes) P)

  over : (P Q : List (Turn Cause) → Type 0) → ((turns : List (Turn Cause)) → P turns → Q turns) → Over P → Over Q
  over P Q g h = by input h
    where
      by : (i : Option (List ℕ)) → IfSome i (λ bytes. ForTurns Cause (lines_of bytes) P) → IfSome i (λ bytes. ForTurns Cause (lines_of bytes) Q)
      by None h = tt
      by (Some i) h = (h.0, h.1, g h.0 h.2)

  abbrev Finished : List (Turn Cause) → Type 0
  Finished turns = HasFinished (KeepsConsole disk f) every s turns old new

  abbrev Failed : DurableFault → List (Turn Cause) → Type 0
  Failed e turns = HasFailed disk.is_honest was disk.fills_with_zeros (disk.may_leave f.journal.device) (KeepsConsole disk f) every s turns old new e

  pub all_answered : (r : Result Unit DurableFault) → OnOk r (Over Finished) → OnOk r (Over (λ turns. Appends old new (answers_by every s turns) × KeepsConsole disk f (states_after every s turns)))
  all_answered (Err e) h = tt
  all_answered (Ok x) h = over Finished (λ turns. Appends old new (answers_by every s turns) × KeepsConsole disk f (states_after every s turns)) (λ turns p. (p.appended, p.kept)) h

  abbrev PartOf : List (Turn Cause) → Type 0
  PartOf turns = (front : List ℕ) × IsPrefixOf front (answers_by every s turns) × Appends old new front

  part_of : (e : DurableFault) (turns : List (Turn Cause)) → Failed e turns → PartOf turns
  part_of (Run x) turns h = (h.written, prefix_more every s turns h.answered h.others h.written h.parts h.front, h.appended)
  part_of (Journal e) turns h =
      let text = answers_by every s h.answered in
      (text, prefix_more every s turns h.answered h.others text h.parts (whole_prefix text), h.appended)

  pub part_answered : (r : Result Unit DurableFault) → IfErr r (λ e. Over (Failed e)) → OnErr r (Over PartOf)
  part_answered (Ok x) h = tt
  part_answered (Err e) h = over (Failed e) PartOf (part_of e) h

  abbrev Committed : List (Turn Cause) → Type 0
  Committed turns = (written : List ℕ) × Appends old new written × HasCommitted disk f every s turns written

  finished_is : IsTrue disk.is_honest → (turns : List (Turn Cause)) → Finished turns → Committed turns
  finished_is real turns h =
      let text = answers_by every s turns in
      (text, h.appended, record { answered = turns; others = []; parts = sym (append-nil turns); front = whole_prefix text; kept = h.kept.1 real })

  stopped_is : IsTrue disk.is_honest → (e : DurableFault) → IsNoJournalFault {A = Unit} (Err e) → (turns : List (Turn Cause)) → Failed e turns → Committed turns
  stopped_is real (Run x) free turns h = (h.written, h.appended, record { answered = h.answered; others = h.others; parts = h.parts; front = h.front; kept = h.kept.1 real })
  stopped_is real (Journal e) free turns h = absurd free

  pub is_committed : IsTrue disk.is_honest → (r : Result Unit DurableFault) → IsNoJournalFault r → OnOk r (Over Finished) → IfErr r (λ e. Over (Failed e)) → Over Committed
  is_committed real (Ok x) free h g = over Finished Committed (finished_is real) h
  is_committed real (Err e) free h g = over (Failed e) Committed (stopped_is real e free) g

  -- ---- a crash afterwards
  abbrev Covered : List (Turn Cause) → Type 0
  Covered turns = (written : List ℕ) × Appends old new written × ((c : List ℕ) → disk.may_leave f.journal.device c → CoversAnswers was disk.fills_with_zeros every s turns written c)

  committed_covers : (turns : List (Turn Cause)) → Committed turns → Covered turns
  committed_covers turns h =
      let m = h.2 in
      let t = states_after every s m.answered in (
        h.0,
        h.1,
        λ c left. record {
          answered = m.answered;
          others = m.others;
          parts = m.parts;
          front = m.front;
          reached = [];
          unreached = m.others;
          parts_reached = refl;
          left = subst (λ (ls : List (Turn Cause)). LeavesBetween was disk.fills_with_zeros t (states_after every s ls) c) (sym (append-nil m.answered))
              (subst (λ (mode : SyncMode). LeavesBetween mode disk.fills_with_zeros t t c) same (between_none disk f t t (grows_not t) m.kept c left));
        },
      )

  failed_covers : IsTrue disk.is_honest → (e : DurableFault) (turns : List (Turn Cause)) → Failed e turns → Covered turns
  failed_covers real (Run x) turns h = committed_covers turns (stopped_is real (Run x) tt turns h)
  failed_covers real (Journal e) turns h = (answers_by every s h.answered, h.appended, h.covered real)

  pub is_covered : IsTrue disk.is_honest → (r : Result Unit DurableFault) → OnOk r (Over Finished) → IfErr r (λ e. Over (Failed e)) → Over Covered
  is_covered real (Ok x) h g = over Finished Covered (λ turns p. committed_covers turns (finished_is real turns p)) h
  is_covered real (Err e) h g = over (Failed e) Covered (failed_covers real e) g

-- how a run failed
pub run_failed : {D : Type 0} (disk : Disk D) (run : RunView) (r : Result Unit DurableFault) → OnErr r (AnswersInPart disk run)
    → (IsErrOf r (Run Read) → AnswersWholeLines disk run) → IfErr r (RunsUnlessDisk disk) → IfErr r (RunFails disk run)
run_failed disk run (Ok x) part whole cause = tt
run_failed disk run (Err e) part whole cause =
    record { part = part; whole = λ is. whole (ap (λ (x : DurableFault). Err x) is); cause = cause }

-- what a run has written, by its result
pub written_on : {D : Type 0} (disk : Disk D) (f : HistoryFile D) (run : RunView) (r : Result Unit DurableFault)
    → OnOk r (AnswersAllLines disk f run) → IfErr r (RunFails disk run) → WritesRunOn disk f run r
written_on disk f run (Ok x) all fails = all
written_on disk f run (Err e) all fails = fails

-- a crash at any moment
pub leaves_input : {D : Type 0} (Cause : Type 0) (disk : Disk D) (old new : D) (sync : SyncMode) (zeros : Bool) (every : ℕ) (s : Console) (input : Option (List ℕ))
    → LeavesOnly disk old new (LeavesRun Cause sync zeros every s input)
    → IfSome input (λ bytes. LeavesOnly disk old new (λ c. ForTurns Cause (lines_of bytes) (λ turns. CoversAnswers sync zeros every s turns [] c)))
leaves_input Cause disk old new sync zeros every s None h = tt
leaves_input Cause disk old new sync zeros every s (Some i) h = h

-- ---- a run that didn't begin
module _ {Cause : Type 0} (every : ℕ) (s : Console) (lines : List (Turn Cause)) where
  pub covers_still : (sync : SyncMode) (zeros : Bool) (c : List ℕ) → LeavesBetween sync zeros s s c → CoversAnswers sync zeros every s lines [] c
  covers_still sync zeros c h = record {
    answered = [];
    others = lines;
    parts = refl;
    front = ([], refl);
    reached = [];
    unreached = lines;
    parts_reached = refl;
    left = h;
  }

  pub committed_still : {D : Type 0} (disk : Disk D) (f : HistoryFile D) (x : Option (List ℕ)) → ConsoleKept disk f s
      → (written : List ℕ) × Appends x x written × HasCommitted disk f every s lines written
  committed_still disk f x k = ([], Appends-nil x, record { answered = []; others = lines; parts = refl; front = ([], refl); kept = k })

  pub covered_still : {D : Type 0} (disk : Disk D) (f : HistoryFile D) (x : Option (List ℕ)) → ConsoleKept disk f s
      → (written : List ℕ) × Appends x x written × ((c : List ℕ) → disk.may_leave f.journal.device c → CoversAnswers f.journal.sync disk.fills_with_zeros every s lines written c)
  covered_still disk f x k =
      ([], Appends-nil x, λ c left. covers_still f.journal.sync disk.fills_with_zeros c (between_none disk f s s (grows_not s) k c left))

  pub part_still : (x : Option (List ℕ)) → (front : List ℕ) × IsPrefixOf front (answers_by every s lines) × Appends x x front
  part_still x = ([], (answers_by every s lines, refl), Appends-nil x)

pub if_some : {A : Type 0} (o : Option A) (P : A → Type 0) → ((x : A) → P x) → IfSome o P
if_some None P f = tt
if_some (Some x) P f = f x

-- all of its checkpoints can be made
pub for_plains : {Cause : Type 0} (lines : List (List ℕ)) (P : List (Turn Cause) → Type 0) → ((turns : List (Turn Cause)) → P turns) → ForTurns Cause lines P
for_plains {Cause = Cause} lines P f = (plains Cause lines, lines_of_plains Cause lines, f (plains Cause lines))

pub leaves_still : {Cause : Type 0} (every : ℕ) (s : Console) (lines : List (List ℕ)) {D : Type 0} (disk : Disk D) (f : HistoryFile D)
    → ConsoleKept disk f s → ((c : List ℕ) → disk.left_since f.journal.device (disk.moment f.journal.device) c → disk.may_leave f.journal.device c)
    → LeavesOnly disk f.journal.device f.journal.device (λ c. ForTurns Cause lines (λ turns. CoversAnswers f.journal.sync disk.fills_with_zeros every s turns [] c))
leaves_still {Cause = Cause} every s lines disk f k now =
    weaker disk f.journal.device f.journal.device (LeavesBetween f.journal.sync disk.fills_with_zeros s s) _
    (between_still disk f s s (grows_not s) k now) (λ c h. (plains Cause lines, lines_of_plains Cause lines, covers_still every s (plains Cause lines) f.journal.sync disk.fills_with_zeros c h))
