-- What contracts see of a desk: all else follows from it.
use Rattle.std.specs.Prelude.{◌≡◌, ℕ, ◌+◌, Bool, true, false, nat_le, nat_lt, List, [], ◌∷◌, ◌++◌, length, Option, Some, None, is_some}
use Rattle.stm_store.specs.Tables.{Declared}
use Rattle.stm_queue.specs.Queue.{Entry, has_ticket, with_ticket, without_ticket}
use Rattle.stm_events.specs.declared.event.Event.{Event}
use Rattle.stm_events.specs.declared.event.What.{What}
use Rattle.stm_events.specs.declared.event.What.TheVariants.{Submitted, Installed, Finished, Cancelled, Declared as DeclaredLate, Labelled}
use Rattle.stm_events.specs.Labels.{Labels}
use Rattle.stm_events.specs.Laws.{SubmittedAreWellTyped}
use Rattle.stm_events.specs.SlowDesk.{Slow, Waiter, verdict_on, find_waiter, state_from}
use Rattle.stm_events.specs.SlowSettle.{settling}
use Rattle.stm_events.specs.Rounds.{a_round}
use Rattle.stm_events.specs.States.{IsLegalFrom}
use Rattle.stm_machine.specs.Checkpoints.{CheckpointView, start_of, labels_of_history, MayStart}
use Rattle.stm_machine.specs.Machine.{Parts, IsAt, event}
use Rattle.stm_machine.specs.QueueAndIndex.{due_of, with_tickets}
use Rattle.stm_machine.specs.SettleChoices.{some_out}

-- the table that it was opened on, the checkpoint that its history begins from, if it begins from one, how many events it takes, its
-- history, and the tickets that are queued or out
pub record DeskView : Type 0 where
  pub table : List Declared
  pub checkpoint : Option CheckpointView
  pub limit : ℕ
  pub history : List Event
  pub pending : List (ℕ × Bool)

-- a desk on which nothing has happened, with these variables and a limit of events
abbrev pub new_desk : List Declared → ℕ → DeskView
new_desk table most = record { table = table; checkpoint = None; limit = most; history = []; pending = [] }

-- the state that the history begins from: the first values of the variables, or the checkpoint
abbrev pub start_state : DeskView → Slow
start_state d = start_of d.table d.checkpoint

-- what the slow desk makes of the history
abbrev pub state_of : DeskView → Slow
state_of d = state_from (start_state d) d.history

-- the labels of the waiting blocks: those with which the history begins, as its events change them
abbrev pub labels_of : DeskView → Labels
labels_of d = labels_of_history d.checkpoint d.history

-- the tickets that are queued or out, after one event more
abbrev pub pending_after : What → List Entry → List Entry
pending_after (Submitted t block) es = with_ticket t es
pending_after (Installed t v) es = without_ticket t es
pending_after (Finished t v n stale) es = with_tickets stale es
pending_after (Cancelled t) es = without_ticket t es
pending_after (DeclaredLate name kind value) es = es
pending_after (Labelled t label) es = es

-- the desk after one event more, of this client
abbrev pub with_event : DeskView → ℕ → What → DeskView
with_event d client what = record d { history = d.history ++ event client what ∷ []; pending = pending_after what d.pending }

-- there is no room for an event
abbrev pub is_full : DeskView → Bool
is_full d = nat_le d.limit (length d.history)

-- there is no room for n events
abbrev pub lacks_room : DeskView → ℕ → Bool
lacks_room d n = nat_lt d.limit (length d.history + n)

-- each ticket of a new or stale block is queued or out, and no other is
abbrev pub DeskQueueIsRight : DeskView → Type 0
DeskQueueIsRight d = (t : ℕ) → has_ticket t d.pending ≡ due_of (find_waiter t (state_of d).waiters)

-- a desk can go on from a history, whose variables, checkpoint and events are given, with this machine
pub record CanResume (variables : List Declared) (begun : Option CheckpointView) (events : List Event) (machine : Parts) : Type 0 where
  -- a history may begin with the variables, or from the checkpoint
  pub start : MayStart variables begun
  -- the events are legal from there
  pub legal : IsLegalFrom (start_of variables begun) events
  -- the machine is at the state that they lead to
  pub at : IsAt machine (state_from (start_of variables begun) events)
  -- each block that is submitted in it is well typed
  pub typed : SubmittedAreWellTyped events

-- a desk that goes on from a history, whose variables, checkpoint and events are given, with the number of events that it takes
pub record IsResumed (variables : List Declared) (begun : Option CheckpointView) (events : List Event) (most : ℕ) (d : DeskView) : Type 0 where
  -- its table has the variables
  pub table : d.table ≡ variables
  -- its history begins from the checkpoint
  pub checkpoint : d.checkpoint ≡ begun
  -- it takes this many events
  pub limit : d.limit ≡ most
  -- the events are its history
  pub history : d.history ≡ events
  -- each new and each stale block is queued
  pub queue : DeskQueueIsRight d
  -- no ticket is out
  pub none_out : some_out d.pending ≡ false

-- each waiting block has a verdict on the present store
abbrev pub AllHaveVerdicts : Slow → Type 0
AllHaveVerdicts s = (t : ℕ) (w : Waiter) → find_waiter t s.waiters ≡ Some w → is_some (verdict_on s.store w.block) ≡ true

-- settling begins with a round, however many events there may be
abbrev pub SettlesInRounds : Slow → Type 0
SettlesInRounds s = (room : ℕ) → settling room s ≡ a_round room s
