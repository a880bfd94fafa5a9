-- What a line leaves, by how it was taken.
use Rattle.std.proofs.Common.{◌≡◌, ◌≢◌, inl, inr, ℕ, zero, ◌<◌, ◌≤◌, List, ◌++◌, length, Bool, true, false, cond, not, IsTrue, Option, Some, None, Err, refl, sym, ap, ap₂, ◌∙◌, subst, arith}
use Rattle.std.specs.Prelude.{◌⊎◌, nat_lt, nat_le, ◌&&◌, codes}
use Rattle.std.proofs.lemmas.Bool.Decides.{nat_tests}
use Rattle.std.proofs.lemmas.Bool.{le-leb, lt-ltb}
use Rattle.stm_journal.specs.declared.error.JournalError.{JournalError}
use Rattle.stm_journal.specs.declared.error.JournalError.TheVariants.{NoMemory}
use Rattle.stm_lines.specs.declared.run_fault.RunFault.{RunFault}
use Rattle.stm_lines.specs.declared.run_fault.RunFault.TheVariants.{NoMemory as NoMemoryLeft}
use Rattle.stm_journal.specs.Disk.{Disk, LeavesOnly}
use Rattle.stm_journal.proofs.Moments.{weaker}
use Rattle.stm_machine.specs.Checkpoints.{CheckpointView, max_next}
use Rattle.stm_desk.specs.Checkpointed.{checkpoint_now}
use Rattle.stm_desk.specs.DeskView.{state_of}
use Rattle.stm_history_file.specs.Durable.{IsFormatFor}
use Rattle.stm_history_file.specs.declared.recording.HistoryFile.{HistoryFile}
use Rattle.stm_commands.specs.Checkpointing.{are_tickets_full, begun_anew, checkpoint_line, next_checkpoint_of}
use Rattle.stm_commands.specs.OpenDesk.{OpenDesk}
use Rattle.stm_commands.specs.Refusals.{refused}
use Rattle.stm_run.specs.declared.console.Console.{Console}
use Rattle.stm_run.specs.declared.console.Console.TheVariants.{Declaring, Open}
use Rattle.stm_run.specs.Console.{on_console, step}
use Rattle.stm_run.specs.ConsoleState.{present_desk, is_open, table_of, checkpoint_of_console, events_of, with_checkpoint}
use Rattle.stm_run.specs.Fitting.{VariablesFit}
use Rattle.stm_run.specs.Growing.{Grows}
use Rattle.stm_run.specs.LineCheckpoints.{asked_checkpoint_step, auto_checkpoint, auto_step, line_checkpoints, made_step, refused_step}
use Rattle.stm_run.proofs.EventsOfConsole.{grows_not}
use Rattle.stm_journaled_run.specs.declared.session.Taken.{Taken}
use Rattle.stm_journaled_run.specs.declared.session.Taken.TheVariants.{Held, Begun, Unmade, Streamed}
use Rattle.stm_journaled_run.specs.declared.fault.DurableFault.TheVariants.{Run, Journal}
use Rattle.stm_journaled_run.specs.declared.session.Tried.TheVariants.{Made, TicketsFull, RefusedByFile}
use Rattle.stm_journaled_run.specs.DurableRun.{ConsoleKept, KeepsConsole, KeepsConsoles, RecordsUnlessDisk, RunsUnlessDisk, RefusalCause, LeavesBetween}
use Rattle.stm_journaled_run.specs.NewEvents.{MayBeginRun}
use Rattle.stm_journaled_run.specs.Committing.{MayBeginAnew, no_checkpoint_text, HasTriedCheckpoint, HasTakenLine, HasNotTaken, TakingLeaves, BeginningLeaves, BeginningLeavesEither}
use Rattle.stm_journaled_run.proofs.Committing.{none_due, anew_after}
use Rattle.stm_journaled_run.proofs.RecordedEvents.{between_still}

-- ---- the checkpoint that a line asks for
-- by whether tickets could run out after it
abbrev asked_by : Console → Bool → Console × List ℕ
asked_by s b =
    on_console (cond {A = OpenDesk × List ℕ} b (present_desk s, refused (codes "TicketsFull")) (begun_anew (present_desk s), checkpoint_line (length (events_of s))))

pub asked_made : (s : Console) → are_tickets_full (present_desk s) ≡ false → asked_checkpoint_step s ≡ (with_checkpoint s, checkpoint_line (length (events_of s)))
asked_made s e = ap (asked_by s) e

few_by : (s : Console) (b : Bool) → length (events_of (asked_by s b).0) ≤ length (events_of s)
few_by s true = omega arith
few_by s false = omega arith

-- it leaves no lt-ltb events
few_asked : (s : Console) → length (events_of (asked_checkpoint_step s).0) ≤ length (events_of s)
few_asked s = few_by s (are_tickets_full (present_desk s))

-- ---- the checkpoint that is due after a line
due_by : (d : OpenDesk) (due low full : Bool) (x y : List ℕ) → due ≡ true → full ≡ not low
    → (on_console (cond {A = OpenDesk × List ℕ} full (d, x) (begun_anew d, y))).0 ≡ Open (cond {A = OpenDesk} (due && low) (begun_anew d) d)
due_by d true true true x y e f = absurd (cc f)
due_by d true true false x y e f = refl
due_by d true false true x y e f = refl
due_by d true false false x y e f = absurd (cc f)
due_by d false low full x y e f = absurd (cc e)

room_left : (n : ℕ) → nat_lt max_next n ≡ not (nat_le n max_next)
room_left n = grind (arith, nat_tests)

too_few : (m n : ℕ) (x : Bool) → n < m → (nat_le m n && x) ≡ false
too_few m n x h = ap (λ (b : Bool). b && x) (fewer m n h)
  where
    fewer : (m n : ℕ) → n < m → nat_le m n ≡ false
    fewer m n h = grind (arith, nat_tests)

pub asked_is_due : (every : ℕ) (s : Console) → is_open s ≡ true → every ≤ length (events_of s) → (asked_checkpoint_step s).0 ≡ auto_checkpoint every s
asked_is_due every (Declaring table limit) o h = absurd (cc o)
asked_is_due every (Open d) o h =
    due_by d (nat_le every (length d.desk.history)) (nat_le (state_of d.desk).next max_next) (are_tickets_full d) (refused (codes "TicketsFull")) (checkpoint_line (length d.desk.history))
    (le-leb every (length d.desk.history) h) (room_left (state_of d.desk).next)

none_due_yet : (every : ℕ) (s : Console) → length (events_of s) < every → auto_checkpoint every s ≡ s
none_due_yet every (Declaring table limit) h = refl
none_due_yet every (Open d) h =
    ap (λ (b : Bool). Open (cond {A = OpenDesk} b (begun_anew d) d)) (too_few every (length d.desk.history) (nat_le (state_of d.desk).next max_next) h)

stays_by : (b : Bool) (x t : Console) → x ≡ t → cond {A = Console} b x t ≡ t
stays_by true x t e = e
stays_by false x t e = refl

-- a line after which none is due
pub undue : (every : ℕ) (s t : Console) → length (events_of t) ≤ length (events_of s) ⊎ (length (events_of t) < every) → auto_step every s t ≡ t
undue every s t (inl h) = none_due every s t h
undue every s t (inr h) = stays_by (nat_lt (length (events_of s)) (length (events_of t))) (auto_checkpoint every t) t (none_due_yet every t h)

pub due : (every : ℕ) (s t : Console) → is_open t ≡ true → length (events_of s) < length (events_of t) → every ≤ length (events_of t) → (asked_checkpoint_step t).0 ≡ auto_step every s t
due every s t o m h =
    asked_is_due every t o h ∙ sym (ap (λ (b : Bool). cond {A = Console} b (auto_checkpoint every t) t) (lt-ltb (length (events_of s)) (length (events_of t)) m))

-- a console with an event is open
pub open_with : (s t : Console) → length (events_of s) < length (events_of t) → is_open t ≡ true
open_with s (Declaring table limit) h = absurd (omega arith)
open_with s (Open d) h = refl

-- ---- a line that asks for a checkpoint
module _ (every : ℕ) (s t : Console) (line : List ℕ) (is : step s line ≡ asked_checkpoint_step t) (opened : t ≡ Open (present_desk s)) where
  same_events : length (events_of t) ≡ length (events_of s)
  same_events = ap (λ (c : Console). length (events_of c)) opened

  pub asked_state : (asked_checkpoint_step t).0 ≡ (made_step every s line).0
  asked_state =
      sym (ap (λ (p : Console × List ℕ). auto_step every s p.0) is
      ∙ none_due every s (asked_checkpoint_step t).0 (subst (λ (n : ℕ). length (events_of (asked_checkpoint_step t).0) ≤ n) same_events (few_asked t)))

  pub asked_text : (asked_checkpoint_step t).1 ≡ (made_step every s line).1
  asked_text = sym (ap (λ (p : Console × List ℕ). p.1) is)

  pub refused_is : are_tickets_full (present_desk t) ≡ false → not (are_tickets_full (present_desk s)) ≡ line_checkpoints s line → (t, no_checkpoint_text) ≡ refused_step s line
  refused_is room told =
      let full : are_tickets_full (present_desk s) ≡ false = sym (ap (λ (c : Console). are_tickets_full (present_desk c)) opened) ∙ room in
      let makes : true ≡ line_checkpoints s line = sym (ap not full) ∙ told in
      ap (λ (c : Console). (c, no_checkpoint_text)) opened
      ∙ ap (λ (b : Bool). cond {A = Console × List ℕ} b (Open (present_desk s), no_checkpoint_text) (step s line)) makes

-- a line that makes none by its command is not refused
pub unrefused : (s : Console) (line : List ℕ) → false ≡ line_checkpoints s line → step s line ≡ refused_step s line
unrefused s line e = ap (λ (b : Bool). cond {A = Console × List ℕ} b (Open (present_desk s), no_checkpoint_text) (step s line)) e

-- ---- one line after what it does
module _ {D : Type 0} (disk : Disk D) (old new : HistoryFile D) where
  pub taken_as : (made made' unmade unmade' : Console × List ℕ) (t : Console) (before mid after : List ℕ) (n n' m : ℕ) (k : Taken) → n ≡ n'
      → made.0 ≡ made'.0 → mid ++ made.1 ≡ before ++ made'.1 → (k ≡ Unmade → (unmade.0 ≡ unmade'.0) × (mid ++ unmade.1 ≡ before ++ unmade'.1))
      → HasTakenLine disk old new made unmade t mid after n m k → HasTakenLine disk old new made' unmade' t before after n' m k
  taken_as made made' unmade unmade' t before mid after n n' m Held count state text other h = (h.0 ∙ state, h.1 ∙ text, h.2 ∙ count, h.3)
  taken_as made made' unmade unmade' t before mid after n n' m Begun count state text other h = (h.0 ∙ state, h.1 ∙ text, h.2, h.3, h.4)
  taken_as made made' unmade unmade' t before mid after n n' m Unmade count state text other h =
      let o = other refl in
      (h.0 ∙ o.0, h.1 ∙ o.1, h.2 ∙ count, h.3, h.4)
  taken_as made made' unmade unmade' t before mid after n n' m (Streamed r) count state text other h = (h.0 ∙ state, h.1 ∙ text, h.2 ∙ count, h.3)

  -- ---- what a crash leaves meanwhile
  pub taking_leaves : (s t made : Console) (n : ℕ) → Grows s t → VariablesFit (table_of t) → (asked_checkpoint_step t).0 ≡ made → BeginningLeavesEither disk old new t → TakingLeaves disk old new s n made
  taking_leaves s t made n g v is h = λ honest c.
      subst (λ (x : Console). LeavesOnly disk old.journal.device new.journal.device
      (λ f. LeavesBetween old.journal.sync disk.fills_with_zeros c.committed c.committed f ⊎ LeavesBetween old.journal.sync disk.fills_with_zeros c.committed x f)) is
      (h honest (anew_after (KeepsConsole disk old) s t n g v c))

  pub either_leaves : (t : Console) → are_tickets_full (present_desk t) ≡ false → BeginningLeaves disk old new (with_checkpoint t) → BeginningLeavesEither disk old new t
  either_leaves t room h = λ honest c.
      subst (λ (x : Console). LeavesOnly disk old.journal.device new.journal.device
      (λ f. LeavesBetween old.journal.sync disk.fills_with_zeros c.committed c.committed f ⊎ LeavesBetween old.journal.sync disk.fills_with_zeros c.committed x f))
      (sym (ap (λ (p : Console × List ℕ). p.0) (asked_made t room))) (h honest c)

-- the file isn't touched
module _ {D : Type 0} (disk : Disk D) (f : HistoryFile D) (now : (c : List ℕ) → disk.left_since f.journal.device (disk.moment f.journal.device) c → disk.may_leave f.journal.device c) where
  still : (c made : Console) → ConsoleKept disk f c
      → LeavesOnly disk f.journal.device f.journal.device (λ x. LeavesBetween f.journal.sync disk.fills_with_zeros c c x ⊎ LeavesBetween f.journal.sync disk.fills_with_zeros c made x)
  still c made k =
      weaker disk f.journal.device f.journal.device (LeavesBetween f.journal.sync disk.fills_with_zeros c c)
      (λ x. LeavesBetween f.journal.sync disk.fills_with_zeros c c x ⊎ LeavesBetween f.journal.sync disk.fills_with_zeros c made x)
      (between_still disk f c c (grows_not c) k now) (λ x h. inl h)

  pub taking_still : (s made : Console) (n : ℕ) → TakingLeaves disk f f s n made
  taking_still s made n = λ honest c. still c.committed made (c.kept.1 honest)

  pub either_still : (t : Console) → BeginningLeavesEither disk f f t
  either_still t = λ honest c. still c.committed (asked_checkpoint_step t).0 (c.kept.1 honest)

-- ---- a checkpoint that was tried
-- why it can't be recorded
pub record_cause : {D : Type 0} (disk : Disk D) (e : JournalError) → RecordsUnlessDisk {T = Unit} disk (Err e) → RunsUnlessDisk disk (Journal e)
record_cause disk e h = λ honest.
    let k = h honest in
    record { failed = λ i. k.failed (cc i); no_space = λ i. k.no_space (cc i); torn_too_long = λ i. k.torn_too_long (cc i) }

pub journal_not_run : (e : JournalError) (f : RunFault) → Journal e ≡ Run f → ⊥
journal_not_run e f is = cc is

-- why the file refused it
pub refusal_cause : {D : Type 0} (disk : Disk D) (e : JournalError) → e ≢ NoMemory → RecordsUnlessDisk {T = Unit} disk (Err e) → RefusalCause disk
refusal_cause disk e not h = record { error = e; not_memory = not; cause = record_cause disk e h }

module _ {D : Type 0} (disk : Disk D) (old new : HistoryFile D) (s t : Console) (n n' : ℕ) where
  pub made_tried : (count : ℕ) → t ≡ with_checkpoint s → count ≡ length (events_of s) → n' ≡ zero → are_tickets_full (present_desk s) ≡ false → KeepsConsole disk new (with_checkpoint s) → MayBeginRun (with_checkpoint s)
      → HasTriedCheckpoint disk old new s t n n' (Made count)
  made_tried count is counts none room k may = (
    asked_made s room ∙ ap₂ (λ (c : Console) (m : ℕ). (c, checkpoint_line m)) (sym is) (sym counts),
    none ∙ sym (ap (λ (c : Console). length (events_of c)) is),
    subst (KeepsConsole disk new) (sym is) k,
    subst MayBeginRun (sym is) may,
  )

  module _ (mid after : List ℕ) where
    abbrev Asked : Taken → Type 0
    Asked k = HasTakenLine disk old new (asked_checkpoint_step s) (s, no_checkpoint_text) t mid after n n' k

    pub asked_begun : (count : ℕ) → HasTriedCheckpoint disk old new s t n n' (Made count) → after ≡ mid ++ checkpoint_line count → Asked Begun
    asked_begun count h text =
        (sym (ap (λ (p : Console × List ℕ). p.0) h.0), text ∙ sym (ap (λ (p : Console × List ℕ). mid ++ p.1) h.0), h.1, h.2, h.3)

    pub asked_held : HasTriedCheckpoint disk old new s t n n' TicketsFull → after ≡ mid ++ refused (codes "TicketsFull") → Asked Held
    asked_held h text = (sym (ap (λ (p : Console × List ℕ). p.0) h.0), text ∙ sym (ap (λ (p : Console × List ℕ). mid ++ p.1) h.0), h.2, h.3)

    pub asked_unmade : HasTriedCheckpoint disk old new s t n n' RefusedByFile → after ≡ mid ++ no_checkpoint_text → Asked Unmade
    asked_unmade h text = (h.1, text, h.2, h.3, h.4)

  -- memory ran out after it
  pub made_untaken : (count : ℕ) → HasTriedCheckpoint disk old new s t n n' (Made count) → HasNotTaken disk old new (asked_checkpoint_step s).0 (Run NoMemoryLeft)
  made_untaken count h = (λ e. cc e, inr (subst (KeepsConsole disk new) (sym (ap (λ (p : Console × List ℕ). p.0) h.0)) h.2))

  pub kept_untaken : KeepsConsoles disk old new → HasNotTaken disk old new (asked_checkpoint_step s).0 (Run NoMemoryLeft)
  kept_untaken keeps = (λ e. cc e, inl keeps)

-- what is reported changes nothing
module _ {D : Type 0} (disk : Disk D) (old mid new : HistoryFile D) (same : IsTrue disk.is_honest → new ≡ mid) where
  pub reported_keeps : new.format ≡ mid.format → KeepsConsoles disk old mid → KeepsConsoles disk old new
  reported_keeps format keeps = λ s k.
      let mids = keeps s k in (
        subst (λ (n : ℕ). IsFormatFor n (checkpoint_of_console s) (events_of s)) (sym format) mids.0,
        λ honest. subst (λ (f : HistoryFile D). ConsoleKept disk f s) (sym (same honest)) (mids.1 honest),
      )

  pub reported_leaves : (t : Console) → BeginningLeaves disk old mid t → BeginningLeaves disk old new t
  reported_leaves t h = λ honest. subst (λ (f : HistoryFile D). (c : MayBeginAnew (KeepsConsole disk old) t) → LeavesOnly disk old.journal.device f.journal.device
      (λ x. LeavesBetween old.journal.sync disk.fills_with_zeros c.committed c.committed x ⊎ LeavesBetween old.journal.sync disk.fills_with_zeros c.committed t x)) (sym (same honest)) (h honest)

-- a file that isn't touched
pub untouched : {D : Type 0} (disk : Disk D) (f : HistoryFile D) → KeepsConsoles disk f f
untouched disk f = λ s k. k

-- there is room for a checkpoint that can be made
room_by : {A : Type 0} (full : Bool) (c k : A) → Some c ≡ cond {A = Option A} full None (Some k) → full ≡ false
room_by true c k is = absurd (cc is)
room_by false c k is = refl

pub room_for_it : (d : OpenDesk) (c : CheckpointView) → Some c ≡ next_checkpoint_of d → are_tickets_full d ≡ false
room_for_it d c is = room_by (are_tickets_full d) c (checkpoint_now d.desk) is
