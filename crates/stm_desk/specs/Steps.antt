-- One step of settling or draining, and why it can't be made.
use Rattle.std.specs.Prelude.{◌≡◌, ℕ, ◌<◌, Bool, true, false, List, [], ◌∷◌, length, Option, Some, None}
use Rattle.stm_terms.specs.declared.verdicts.Verdict.{Verdict}
use Rattle.stm_store.specs.declared.cell.Cell.{Cell}
use Rattle.stm_events.specs.declared.event.What.{What}
use Rattle.stm_events.specs.declared.event.What.TheVariants.{Installed, Finished}
use Rattle.stm_events.specs.Ready.{is_ready}
use Rattle.stm_events.specs.SlowDesk.{Waiter, Slow, verdict_on, waking, find_waiter, without_waiter, stale_after}
use Rattle.stm_events.specs.SlowSettle.{Order, has_cells, finishes, installs}
use Rattle.stm_events.specs.declared.errors.FinishError.{FinishError}
use Rattle.stm_events.specs.declared.errors.FinishError.TheVariants as finish
use Rattle.stm_desk.specs.declared.errors.SettleWhy.{SettleWhy}
use Rattle.stm_desk.specs.declared.errors.SettleWhy.TheVariants.{HistoryFull, CellsFull, NoMemory}
use Rattle.stm_desk.specs.DeskView.{DeskView, state_of, with_event}
use Rattle.stm_desk.specs.Settling.{IsFull, IsCrowded}

-- the verdict that the block under a ticket has on a store, if one waits there
abbrev pub verdict_there : List Cell → Option Waiter → Option Verdict
verdict_there store None = None
verdict_there store (Some w) = verdict_on store w.block

-- the block under a ticket is current and doesn't block on the store
abbrev pub ready_there : List Cell → Option Waiter → Bool
ready_there store None = false
ready_there store (Some w) = is_ready store w

-- in this order of work the verdict of the block under the ticket is installed next
abbrev pub InstallsNext : Order → Slow → ℕ → Type 0
InstallsNext next s t = (v : Verdict) → verdict_there s.store (find_waiter t s.waiters) ≡ Some v → next s ≡ Some (Installed t v)

-- in this order of work the block under the ticket is finished next
abbrev pub FinishesNext : Order → Slow → ℕ → Type 0
FinishesNext next s t =
    (v : Verdict) → verdict_there s.store (find_waiter t s.waiters) ≡ Some v
    → next s ≡ Some (Finished t v (length s.store) (stale_after (waking s.rule s.store v) (without_waiter t s.waiters)))

-- one event more, the next one in this order of work
pub record IsNextEvent (next : Order) (client f e : ℕ) (old new : DeskView) : Type 0 where
  pub what : What
  pub comes : next (state_of old) ≡ Some what
  pub fits : has_cells (state_of old) what ≡ true
  pub grown : new ≡ with_event old client what
  pub room : length old.history < old.limit
  pub finishing : finishes (what ∷ []) ≡ f
  pub evaluating : installs (what ∷ []) ≡ e

-- why it can't go on
abbrev pub StopsFor : Order → SettleWhy → DeskView → Type 0
StopsFor next HistoryFull d = IsFull next d
StopsFor next CellsFull d = IsCrowded next d
StopsFor next NoMemory d = Unit {0}

-- the refusals of a finish that it can meet
abbrev pub StopsFinish : FinishError → Type 0
StopsFinish finish.NoTicket = ⊥
StopsFinish finish.NotEvaluated = ⊥
StopsFinish finish.Stale = ⊥
StopsFinish finish.Blocks = ⊥
StopsFinish finish.HistoryFull = Unit {0}
StopsFinish finish.CellsFull = Unit {0}
StopsFinish finish.NoMemory = Unit {0}

-- what it stops for at such a refusal
abbrev pub finish_why : FinishError → SettleWhy
finish_why finish.NoTicket = NoMemory
finish_why finish.NotEvaluated = NoMemory
finish_why finish.Stale = NoMemory
finish_why finish.Blocks = NoMemory
finish_why finish.HistoryFull = HistoryFull
finish_why finish.CellsFull = CellsFull
finish_why finish.NoMemory = NoMemory
