-- How a checker goes on, line after line, and where it stops.
use Rattle.std.specs.Prelude.{◌≡◌, ◌≢◌, ℕ, ◌≤◌, List, ◌∷◌, ◌++◌, length, take, drop, ◌⊎◌}
use Rattle.stm_events.specs.declared.event.Event.{Event}
use Rattle.stm_event_lines.specs.Fits.{FitsNames, FitsFormat}
use Rattle.stm_event_lines.specs.Lines.{event_line}
use Rattle.stm_history.specs.declared.fault.HistoryFault.{HistoryFault}
use Rattle.stm_history.specs.declared.fault.HistoryFault.TheVariants.{ReadFault, NotLegal, NoMemory}
use Rattle.stm_history.specs.Judgement.{IsShort, IsIllegalFrom, next_line}
use Rattle.stm_history.specs.Progress.{CheckerState, at_header, at_variables, at_cells, at_blocks, at_events, NoFeed, LeadsTo, strange, Forbids, LinesUpTo, NoNext}
use Rattle.stm_history_text.specs.Starts.{names_after}

-- the line leads on to no progress
abbrev pub LeadsNowhere : CheckerState → List ℕ → Type 0
LeadsNowhere p line = (q : CheckerState) → LeadsTo p line q → ⊥

-- the line is none that may stand here, whatever the machine allows
abbrev pub IsStrange : CheckerState → List ℕ → Type 0
IsStrange at_header line = LeadsNowhere at_header line
IsStrange (at_variables format n table) line = LeadsNowhere (at_variables format n table) line
IsStrange (at_cells format next vars waiting names cells) line = LeadsNowhere (at_cells format next vars waiting names cells) line
IsStrange (at_blocks format waiting c) line = LeadsNowhere (at_blocks format waiting c) line
IsStrange (at_events start history) line = (e : Event) → FitsNames (names_after start history) e → FitsFormat start.format e → event_line e ≢ line

-- why a line may be refused
abbrev pub MayRefuse : CheckerState → List ℕ → HistoryFault → Type 0
MayRefuse p line f = (f ≡ NoMemory) ⊎ (((f ≡ strange p) × IsStrange p line) ⊎ Forbids p line f)

-- what was taken is whole lines up to this progress, and then a line that has begun
pub record HasTaken (p : CheckerState) (line taken : List ℕ) : Type 0 where
  pub whole : List ℕ
  pub taken_is : taken ≡ whole ++ line
  pub lines : LinesUpTo p whole
  pub one_line : NoFeed line
  pub short : IsShort line

-- the next line is that of an event which can't follow
abbrev pub ForbidsNext : CheckerState → List ℕ → HistoryFault → Type 0
ForbidsNext at_header rest f = ⊥
ForbidsNext (at_variables format n table) rest f = ⊥
ForbidsNext (at_cells format next vars waiting names cells) rest f = ⊥
ForbidsNext (at_blocks format waiting c) rest f = ⊥
ForbidsNext (at_events start history) rest f =
    (e : Event) × (more : List ℕ) × (rest ≡ event_line e ++ 10 ∷ more)
    × FitsNames (names_after start history) e × FitsFormat start.format e × IsShort (event_line e)
    × IsIllegalFrom start history e × (f ≡ NotLegal (next_line start history))

-- why no line is taken of what comes next: the reader failed, memory ran out, no line comes next that may stand here, or it is
-- that of an event which can't follow
abbrev pub IsFaultAt : CheckerState → List ℕ → HistoryFault → Type 0
IsFaultAt p rest f = (f ≡ ReadFault) ⊎ ((f ≡ NoMemory) ⊎ (((f ≡ strange p) × NoNext p rest) ⊎ ForbidsNext p rest f))

-- a check of the bytes ends with this fault: this many of them are whole lines, which led to a progress that the fault is at
pub record StopsAt (f : HistoryFault) (whole : ℕ) (bytes : List ℕ) : Type 0 where
  pub progress : CheckerState
  pub within : whole ≤ length bytes
  pub lines : LinesUpTo progress (take whole bytes)
  pub fault : IsFaultAt progress (drop whole bytes) f
