-- Why a block is stale by what the events after its last delivery write, and what a reason of the code says.
use Rattle.std.specs.Prelude.{ℕ, Bool, false, nat_eq, if◌then◌else◌, List, [], ◌∷◌, Option, Some, None, option_map}
use Rattle.stm_terms.specs.declared.values.Value.{Value}
use Rattle.stm_terms.specs.declared.verdicts.Verdict.{Verdict}
use Rattle.stm_terms.specs.declared.verdicts.Verdict.TheVariants.{Commits, Throws, Blocks}
use Rattle.stm_terms.specs.Changes.{Variables, find}
use Rattle.stm_terms.specs.Typing.{Rising}
use Rattle.stm_store.specs.Cells.{renumbered, written_by}
use Rattle.stm_store.specs.FreshReferences.{AreWritable}
use Rattle.stm_events.specs.declared.event.Event.{Event}
use Rattle.stm_events.specs.declared.event.What.{What}
use Rattle.stm_events.specs.declared.event.What.TheVariants.{Submitted, Installed, Finished, Cancelled, Declared as DeclaredLate, Labelled}
use Rattle.stm_events.specs.declared.kept_cause.KeptCause.{KeptCause}
use Rattle.stm_events.specs.Headline.{installs_to, is_installed}
use Rattle.stm_machine.specs.declared.checkpoint.CheckpointBlock.{CheckpointBlock}
use Rattle.stm_machine.specs.Checkpoints.{CheckpointView}
use Rattle.stm_desk.specs.declared.reason.Change.{Change}
use Rattle.stm_desk.specs.declared.reason.Reason.{Reason}
use Rattle.stm_desk.specs.declared.reason.Reason.TheVariants as told
use Rattle.stm_desk.specs.Reasons.{changes_from, ticket_of, Cause, cause_or, WaitReason, NotEvaluated, IsStale, WasStale, Waits, CanFinish, reason_kept}

-- the values that these writes leave, in a store that had n cells
abbrev pub left_by_writes : ℕ → List (ℕ × Value) → Variables
left_by_writes n writes i = option_map (renumbered n) (find i writes)

-- the values that a verdict leaves where it writes, in a store that had n cells
abbrev pub left_by_verdict : ℕ → Verdict → Variables
left_by_verdict n v i = option_map (renumbered n) (written_by v i)

-- the variables of the reads that an event leaves with another value, by the values that it writes
abbrev pub changes_told : List (ℕ × Value) → What → List Change
changes_told reads (Submitted t block) = []
changes_told reads (Installed t v) = []
changes_told reads (Finished t v n stale) = changes_from reads (left_by_verdict n v)
changes_told reads (Cancelled t) = []
changes_told reads (DeclaredLate name kind value) = []
changes_told reads (Labelled t label) = []

-- the first of these events that changed variables of the reads, by what they write
abbrev pub cause_told : List (ℕ × Value) → List Event → Option Cause
cause_told reads [] = None
cause_told reads (e ∷ es) = cause_or (ticket_of e.what) (changes_told reads e.what) (cause_told reads es)

-- the events after the last delivery to a ticket, if there was one
abbrev pub events_since : ℕ → List Event → Option (List Event)
events_since t [] = None
events_since t (e ∷ es) = if is_installed t es then events_since t es else if installs_to t e.what then Some es else None

-- the block under a ticket is stale, by these blocks of a checkpoint
abbrev pub stale_in : ℕ → List CheckpointBlock → Bool
stale_in t [] = false
stale_in t (b ∷ bs) = if nat_eq t b.ticket then b.stale else stale_in t bs

-- the block under a ticket is stale by a checkpoint, if there is one
abbrev pub stale_at : ℕ → Option CheckpointView → Bool
stale_at t None = false
stale_at t (Some c) = stale_in t c.blocks

-- why a stale block of these reads is stale, by what the events after its last delivery write if there was one, and otherwise by
-- whether it was stale before all of these events, with this cause
abbrev pub stale_told : Bool → Option KeptCause → List (ℕ × Value) → List Event → Option (List Event) → Option WaitReason
stale_told before kept reads history (Some later) = option_map IsStale (cause_told reads later)
stale_told before kept reads history None = if before then Some (reason_kept reads kept) else option_map IsStale (cause_told reads history)

-- the writes of a verdict ascend, and may be read in a store that had n cells
abbrev pub HasWritable : ℕ → Verdict → Type 0
HasWritable n (Commits writes news result) = Rising writes × AreWritable n writes
HasWritable n (Throws f) = Unit {0}
HasWritable n Blocks = Unit {0}

-- the writes of the verdict of a finish ascend, and may be read in a store with the variables before it
abbrev pub IsWritable : What → Type 0
IsWritable (Submitted t block) = Unit {0}
IsWritable (Installed t v) = Unit {0}
IsWritable (Finished t v n stale) = HasWritable n v
IsWritable (Cancelled t) = Unit {0}
IsWritable (DeclaredLate name kind value) = Unit {0}
IsWritable (Labelled t label) = Unit {0}

-- of each of these events
abbrev pub EachIsWritable : List Event → Type 0
EachIsWritable [] = Unit {0}
EachIsWritable (e ∷ es) = IsWritable e.what × EachIsWritable es

-- why a stale block of these reads is stale, by the event whose list has its ticket if there is one, and otherwise by the cause of before
abbrev pub reason_listed : List (ℕ × Value) → Option KeptCause → Option What → WaitReason
reason_listed reads kept None = reason_kept reads kept
reason_listed reads kept (Some what) = IsStale (record { finish = ticket_of what; changes = changes_told reads what })

-- what a reason says
abbrev pub shown_reason : Reason → WaitReason
shown_reason told.New = NotEvaluated
shown_reason (told.Stale t cs) = IsStale (record { finish = t; changes = cs.items })
shown_reason told.WasStale = WasStale
shown_reason (told.Waits rs) = Waits rs.now
shown_reason told.Ready = CanFinish
