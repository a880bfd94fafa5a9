-- An open desk, as the console has it, and its steps: a new desk, and what is printed.
use Rattle.std.specs.Prelude.{◌≡◌, ℕ, List, [], ◌++◌}
use Rattle.stm_terms.specs.declared.kinds.Ty.{Ty}
use Rattle.stm_terms.specs.declared.values.Value.{Value}
use Rattle.stm_check.specs.TypedBlock.{Block}
use Rattle.stm_store.specs.declared.cell.Cell.{Cell}
use Rattle.stm_store.specs.Naming.{Named}
use Rattle.stm_store.specs.Tables.{Declared}
use Rattle.stm_desk.specs.DeskView.{DeskView, new_desk, state_of}

-- a job that was handed out: a ticket, its block, and the store at its `take`
pub record HandedOut : Type 0 where
  pub ticket : ℕ
  pub block : Block
  pub store : List (Ty × Value)

-- the desk, and the jobs that were handed out on it, in the order of their numbers
pub record OpenDesk : Type 0 where
  pub desk : DeskView
  pub jobs : List HandedOut

-- a desk for which no job is kept
abbrev pub without_jobs : DeskView → OpenDesk
without_jobs desk = record { desk = desk; jobs = [] }

-- the desk on which nothing has happened, with these variables and a limit of events
abbrev pub opened_desk : List Declared → ℕ → OpenDesk
opened_desk table limit = without_jobs (new_desk table limit)

-- the present store
abbrev pub present : OpenDesk → List Cell
present d = (state_of d.desk).store

-- the names that are known at present
abbrev pub known : OpenDesk → List Named
known d = (state_of d.desk).names

-- a step of the desk alone, as one of the open desk: its jobs stay
abbrev pub on_desk : OpenDesk → DeskView × List ℕ → OpenDesk × List ℕ
on_desk d s = (record d { desk = s.0 }, s.1)

-- this is the state after a step, and the new text is the old one with what the step prints after it
abbrev pub Steps : {S : Type 0} → S → List ℕ → List ℕ → S × List ℕ → Type 0
Steps state old new s = (state ≡ s.0) × (new ≡ old ++ s.1)
