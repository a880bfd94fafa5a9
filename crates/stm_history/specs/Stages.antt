-- The progress of each stage of the checker.
use Rattle.std.specs.Prelude.{◌≡◌, ℕ, ◌<◌, ◌≤◌, Bool, true, List, length, Option, Some, None, is_some}
use Rattle.stm_store.specs.declared.table.DeclareError.{DeclareError}
use Rattle.stm_store.specs.declared.table.DeclareError.TheVariants as declare
use Rattle.stm_store.specs.Cells.{Covers, plains}
use Rattle.stm_store.specs.Naming.{named_uses}
use Rattle.stm_store.specs.Tables.{Declared}
use Rattle.stm_events.specs.declared.event.Event.{Event}
use Rattle.stm_events.specs.SlowDesk.{max_cells}
use Rattle.stm_terms.specs.Limits.{max_waiting}
use Rattle.stm_machine.specs.Checkpoints.{CheckpointView}
use Rattle.stm_history.specs.declared.check.Stage.{Stage}
use Rattle.stm_history.specs.declared.check.Stage.TheVariants.{Before, Declaring, AtCells, AtBlocks, Running}
use Rattle.stm_history.specs.declared.fault.HistoryFault.{HistoryFault}
use Rattle.stm_history.specs.declared.fault.HistoryFault.TheVariants.{BadHeader, NoMemory}
use Rattle.stm_history.specs.Checking.{HasTaken}
use Rattle.stm_history.specs.Progress.{CheckerState, at_header, at_variables, at_cells, at_blocks, at_events, IsCheckpointHead, LeadsTo}
use Rattle.stm_history.specs.Following.{Follows}
use Rattle.stm_history_text.specs.Starts.{GoesByPresentRule}

-- the progress is that of the stage
abbrev pub IsStage : Stage → CheckerState → Type 0
IsStage (Before keep) p = p ≡ at_header
IsStage (Declaring keep format vars table) p = p ≡ at_variables format vars table
IsStage (AtCells keep h names cells) p = p ≡ at_cells h.format h.next h.vars h.waiting names cells.items
IsStage (AtBlocks keep format waiting c) p = p ≡ at_blocks format waiting c
IsStage (Running format table c r) p =
    (history : List Event) × (p ≡ at_events (record { format = format; table = table; checkpoint = c }) history)
    × Follows (record { format = format; table = table; checkpoint = c }) history r

-- whether the events of the stage are kept
abbrev pub keeps : Stage → Bool
keeps (Before keep) = keep
keeps (Declaring keep format vars table) = keep
keeps (AtCells keep h names cells) = keep
keeps (AtBlocks keep format waiting c) = keep
keeps (Running format table c r) = is_some r.kept

-- the lines are those of events
abbrev pub IsRunning : Stage → Type 0
IsRunning (Before keep) = ⊥
IsRunning (Declaring keep format vars table) = ⊥
IsRunning (AtCells keep h names cells) = ⊥
IsRunning (AtBlocks keep format waiting c) = ⊥
IsRunning (Running format table c r) = Unit {0}

-- the lines are those of events, which go by the present rule, and they are kept
abbrev pub KeepsEvents : Stage → Type 0
KeepsEvents (Before keep) = ⊥
KeepsEvents (Declaring keep format vars table) = ⊥
KeepsEvents (AtCells keep h names cells) = ⊥
KeepsEvents (AtBlocks keep format waiting c) = ⊥
KeepsEvents (Running format table c r) = GoesByPresentRule format c × (is_some r.kept ≡ true)

-- the line leads from this progress on to that of the stage
abbrev pub LeadsToStage : CheckerState → List ℕ → Stage → Type 0
LeadsToStage p line s = (q : CheckerState) × LeadsTo p line q × IsStage s q

-- how many lines come before the events is small enough
abbrev pub IsSmallStart : List Declared → Option CheckpointView → Type 0
IsSmallStart table None = length table ≤ max_cells
IsSmallStart table (Some c) = (length c.store ≤ max_cells) × (length c.blocks ≤ max_waiting)

-- the numbers of a progress are as small as those of a history, and names are those of variables that were read
abbrev pub CountsWithinLimits : CheckerState → Type 0
CountsWithinLimits at_header = Unit {0}
CountsWithinLimits (at_variables format n table) = (length table < n) × (n ≤ max_cells)
CountsWithinLimits (at_cells format next vars waiting names cells) =
    IsCheckpointHead next vars waiting × (length cells < vars) × Covers (plains cells) (named_uses names)
CountsWithinLimits (at_blocks format waiting c) = (length c.store ≤ max_cells) × (length c.blocks < waiting) × (waiting ≤ max_waiting)
CountsWithinLimits (at_events start history) = IsSmallStart start.table start.checkpoint

-- what was taken led to this stage: this many bytes of whole lines, and then this line that has begun
pub record Reached (s : Stage) (whole : ℕ) (line taken : List ℕ) : Type 0 where
  pub progress : CheckerState
  pub stage : IsStage s progress
  pub held : HasTaken progress line taken
  pub counts : whole ≡ length held.whole

-- the fault of a variable's line that the table refuses
abbrev pub refused_by : DeclareError → HistoryFault
refused_by declare.NoMemory = NoMemory
refused_by declare.Twice = BadHeader
refused_by declare.TypeOfValue = BadHeader
refused_by declare.TableFull = BadHeader
