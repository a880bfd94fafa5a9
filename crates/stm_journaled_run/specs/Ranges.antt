-- The values of verdicts and of checkpoints are in range; that variables have types of few `TVar` is known otherwise.
use Rattle.std.specs.Prelude.{◌<◌, ◌^◌, List, [], ◌∷◌, Option, Some, None, ⊤}
use Rattle.stm_store.specs.declared.cell.Cell.{Cell}
use Rattle.stm_machine.specs.declared.checkpoint.CheckpointBlock.{CheckpointBlock}
use Rattle.stm_waiting.specs.declared.waiting.Held.{Held}
use Rattle.stm_terms.specs.declared.kinds.Ty.{Ty}
use Rattle.stm_terms.specs.declared.values.Value.{Value}
use Rattle.stm_terms.specs.declared.values.Fault.TheVariants.{Thrown, Overflow}
use Rattle.stm_terms.specs.declared.verdicts.Verdict.{Verdict}
use Rattle.stm_terms.specs.declared.verdicts.Verdict.TheVariants.{Commits, Throws, Blocks}
use Rattle.stm_events.specs.declared.event.Event.{Event}
use Rattle.stm_events.specs.declared.event.What.{What}
use Rattle.stm_events.specs.declared.event.What.TheVariants.{Submitted, Installed, Finished, Cancelled, Declared as DeclaredLate, Labelled}
use Rattle.stm_event_lines.specs.CheckpointLines.{FitsCause}
use Rattle.stm_event_lines.specs.Fits.{Is32Bit, FitsInt, FitsValue, FitWrites}

-- the values of new variables are in range
abbrev pub AreValuesInRange : List (Ty × Value) → Type 0
AreValuesInRange [] = ⊤
AreValuesInRange (n ∷ ns) = FitsValue n.1 × AreValuesInRange ns

-- the numbers and values of a verdict are in range
abbrev pub IsInRange : Verdict → Type 0
IsInRange (Commits writes news result) = FitWrites writes × AreValuesInRange news × FitsValue result
IsInRange (Throws (Thrown n)) = FitsInt n
IsInRange (Throws Overflow) = ⊤
IsInRange Blocks = ⊤

-- the numbers and values of an event's verdict are in range, if it has one, and so is the first value of a variable
abbrev pub IsEventInRange : What → Type 0
IsEventInRange (Submitted ticket block) = ⊤
IsEventInRange (Installed ticket v) = IsInRange v
IsEventInRange (Finished ticket v first_new stale) = IsInRange v
IsEventInRange (Cancelled ticket) = ⊤
IsEventInRange (DeclaredLate name kind value) = FitsValue value
IsEventInRange (Labelled ticket label) = ⊤

-- each event is in range
abbrev pub AreEventsInRange : List Event → Type 0
AreEventsInRange [] = ⊤
AreEventsInRange (e ∷ es) = IsEventInRange e.what × AreEventsInRange es

-- ---- checkpoints
-- the value of a variable and its count are in range
abbrev pub IsCellInRange : Cell → Type 0
IsCellInRange c = FitsValue c.value × (c.count < 2 ^ 64)

-- each variable of a store is in range
abbrev pub AreCellsInRange : List Cell → Type 0
AreCellsInRange [] = ⊤
AreCellsInRange (c ∷ cs) = IsCellInRange c × AreCellsInRange cs

-- what a waiting block read, and the verdict, are in range, if something was delivered to it
abbrev pub IsHeldInRange : Option Held → Type 0
IsHeldInRange None = ⊤
IsHeldInRange (Some h) = FitWrites h.reads × IsInRange h.verdict

-- the ticket of a waiting block is in range, what was delivered to it, and why it is stale, if that is known
abbrev pub IsBlockInRange : CheckpointBlock → Type 0
IsBlockInRange b = Is32Bit b.ticket × IsHeldInRange b.waiting.held × FitsCause b.cause

-- each waiting block is in range
abbrev pub AreBlocksInRange : List CheckpointBlock → Type 0
AreBlocksInRange [] = ⊤
AreBlocksInRange (b ∷ bs) = IsBlockInRange b × AreBlocksInRange bs
