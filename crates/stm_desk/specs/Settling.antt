-- What settling or draining a desk does: it adds the events of the slow desk's run in this order of work, and answers their numbers.
use Rattle.std.specs.Prelude.{◌≡◌, ◌≢◌, ℕ, ◌<◌, ◌-◌, true, false, List, [], ◌∷◌, ◌++◌, length, Option, Some, None, is_some, Result, Ok, Err}
use Rattle.stm_queue.specs.Queue.{recalled}
use Rattle.stm_events.specs.declared.event.What.{What}
use Rattle.stm_events.specs.SlowDesk.{Slow}
use Rattle.stm_events.specs.SlowSettle.{Order, next_what, has_cells, running, settling, Stop, NoRoom, NoCells, run_stop, settle_stop, finishes, installs}
use Rattle.stm_events.specs.SlowDrain.{next_drain, ServesAs}
use Rattle.stm_desk.specs.declared.errors.SettleStop.{SettleStop}
use Rattle.stm_desk.specs.declared.errors.SettleWhy.{SettleWhy}
use Rattle.stm_desk.specs.declared.errors.SettleWhy.TheVariants.{HistoryFull, CellsFull, NoMemory}
use Rattle.stm_desk.specs.declared.settle.Settled.{Settled}
use Rattle.stm_desk.specs.DeskView.{DeskView, state_of, with_event}

-- what an order of work does to the desk, as long as its history has room
abbrev pub slow_run : Order → DeskView → List What
slow_run next d = running next (d.limit - length d.history) (state_of d)

-- and why it stops before nothing is left to do
abbrev pub slow_run_stop : Order → DeskView → Option Stop
slow_run_stop next d = run_stop next (d.limit - length d.history) (state_of d)

-- what settling does
abbrev pub slow_settle : DeskView → List What
slow_settle = slow_run next_what

-- and why settling stops
abbrev pub slow_stop : DeskView → Option Stop
slow_stop = slow_run_stop next_what

-- what draining does
abbrev pub slow_drain : DeskView → List What
slow_drain = slow_run next_drain

-- and why draining stops
abbrev pub slow_drain_stop : DeskView → Option Stop
slow_drain_stop = slow_run_stop next_drain

-- no ticket is out: each that was is queued
abbrev pub requeued_all : DeskView → DeskView
requeued_all d = record d { pending = recalled d.pending }

-- the desk after these events of a client
abbrev pub with_whats : DeskView → ℕ → List What → DeskView
with_whats d client [] = d
with_whats d client (x ∷ xs) = with_whats (with_event d client x) client xs

-- the history grew by exactly what the order of work does, with f finishes and e blocks run, and then it stopped as this says
pub record HasRun (next : Order) (client : ℕ) (old new : DeskView) (f e : ℕ) (stop : Option Stop) : Type 0 where
  pub grown : new ≡ with_whats old client (slow_run next old)
  pub finished : f ≡ finishes (slow_run next old)
  pub evaluated : e ≡ installs (slow_run next old)
  pub stopped : slow_run_stop next old ≡ stop

-- it grew by a first part of that, with f finishes and e blocks run, and the rest is what the order of work does from there
pub record HasBegun (next : Order) (client : ℕ) (old new : DeskView) (f e : ℕ) : Type 0 where
  pub done : List What
  pub grown : new ≡ with_whats old client done
  pub rest : done ++ slow_run next new ≡ slow_run next old
  pub same_stop : slow_run_stop next new ≡ slow_run_stop next old
  pub finished : f ≡ finishes done
  pub evaluated : e ≡ installs done

-- something is left, and the history is full
pub record IsFull (next : Order) (d : DeskView) : Type 0 where
  pub left : is_some (next (state_of d)) ≡ true
  pub full : length d.history ≡ d.limit

-- there is room for an event, and a finish is left whose new variables don't fit
pub record IsCrowded (next : Order) (d : DeskView) : Type 0 where
  pub what : What
  pub left : next (state_of d) ≡ Some what
  pub room : length d.history < d.limit
  pub crowded : has_cells (state_of d) what ≡ false

-- why it stopped, and how far it came
abbrev pub HasHalted : Order → SettleWhy → ℕ → DeskView → DeskView → ℕ → ℕ → Type 0
HasHalted next HistoryFull client old new f e = HasRun next client old new f e (Some NoRoom) × IsFull next new
HasHalted next CellsFull client old new f e = HasRun next client old new f e (Some NoCells) × IsCrowded next new
HasHalted next NoMemory client old new f e = HasBegun next client old new f e

-- it did what its definition says, by what it returns: its counts, or why it stopped and the counts until then
abbrev pub RunsAs : Order → ℕ → DeskView → DeskView → Result Settled SettleStop → Type 0
RunsAs next client old new (Ok r) = HasRun next client old new r.finished r.evaluations None
RunsAs next client old new (Err e) = HasHalted next e.why client old new e.finished e.evaluations

-- settling did what its definition says, by what it returns
abbrev pub SettlesAs : ℕ → DeskView → DeskView → Result Settled SettleStop → Type 0
SettlesAs client old new result = RunsAs next_what client old new result

-- and so did draining
abbrev pub DrainsAs : ℕ → DeskView → DeskView → Result Settled SettleStop → Type 0
DrainsAs client old new result = RunsAs next_drain client old new result

-- if settling had room on this state, these events do what it would have done, with no more evaluations
abbrev pub ServesAsSettling : Slow → List What → Type 0
ServesAsSettling s whats = (room : ℕ) → settle_stop room s ≢ Some NoRoom → ServesAs s whats (settling room s)
