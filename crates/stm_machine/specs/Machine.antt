-- What a machine holds, and the state of the slow desk that it is at.
use Rattle.std.specs.Prelude.{◌≡◌, ℕ, Bool, false, ◌<◌, List, None, Some, Result, Ok, Err}
use Rattle.stm_store.specs.declared.cell.Cell.{Cell}
use Rattle.stm_store.specs.Naming.{Named}
use Rattle.stm_eval.specs.declared.message.Evaluated.{Evaluated}
use Rattle.stm_eval.specs.EvaluatedFields.{message_ticket, message_block, message_reads, message_verdict}
use Rattle.stm_watch.specs.Pairs.{Pairs, has_pair}
use Rattle.stm_events.specs.declared.event.Event.{Event}
use Rattle.stm_events.specs.declared.event.What.{What}
use Rattle.stm_events.specs.declared.event.What.TheVariants.{Installed}
use Rattle.stm_events.specs.declared.errors.DeliverError.{DeliverError}
use Rattle.stm_events.specs.declared.staleness.StalenessRule.{StalenessRule}
use Rattle.stm_events.specs.SlowDesk.{Waiter, Slow, find_waiter, after, Allows}
use Rattle.stm_events.specs.States.{IsPossible}
use Rattle.stm_events.specs.Refusals.{install_first, DeliveryRefusedAs}
use Rattle.stm_waiting.specs.declared.waiting.Waiting.{Waiting}
use Rattle.stm_machine.specs.Entries.{AreKeptOf}
use Rattle.stm_queue.specs.Queue.{Entry}
use Rattle.stm_machine.specs.QueueAndIndex.{ArePending, watches_of}

-- the rule, the store, the names of variables, the next ticket, the waiting blocks by their tickets, the tickets that are queued or out,
-- and the index
pub record Parts : Type 0 where
  pub rule : StalenessRule
  pub store : List Cell
  pub names : List Named
  pub next : ℕ
  pub entries : List (ℕ × Waiting)
  pub pending : List (ℕ × Bool)
  pub watch : Pairs

-- the index has a pair of each current block's ticket with each variable that it read, and no other pair
abbrev pub AreWatched : Pairs → List Waiter → Type 0
AreWatched watch ws = (v t : ℕ) → has_pair watch v t ≡ watches_of (find_waiter t ws) v

-- what is held is what the slow desk has
pub record Stands (s : Slow) (m : Parts) : Type 0 where
  pub rule_is : m.rule ≡ s.rule
  pub store_is : m.store ≡ s.store
  pub names_are : m.names ≡ s.names
  pub next_is : m.next ≡ s.next
  pub entries_are : AreKeptOf m.entries s.waiters
  pub queue : ArePending m.pending s.waiters
  pub index : AreWatched m.watch s.waiters

-- the machine is at this state: events may go on from it, and the machine holds it
pub record IsAt (m : Parts) (s : Slow) : Type 0 where
  pub possible : IsPossible s
  pub stands : Stands s m

-- what happens is allowed on each state that the machine is at, and takes the machine to the state after it
abbrev pub MovesBy : What → Parts → Parts → Type 0
MovesBy what old new = (s : Slow) → IsAt old s → (Allows s what × IsAt new (after s what))

-- the machine is at each state that it was at
abbrev pub Stays : Parts → Parts → Type 0
Stays old new = (s : Slow) → IsAt old s → IsAt new s

-- After Ok: this happened, and these tickets are queued or out. After any error the machine is as it was.
abbrev pub MovesOrStays : {A E : Type 0} → Result A E → What → List Entry → Parts → Parts → Type 0
MovesOrStays (Ok x) what pending old new = MovesBy what old new × (new.pending ≡ pending)
MovesOrStays (Err e) what pending old new = new ≡ old

-- what happens, as an event of this client
abbrev pub event : ℕ → What → Event
event client what = record { client = client; what = what }

-- the next ticket isn't the last number of 32 bits
abbrev pub HasTicketLeft : Slow → Type 0
HasTicketLeft s = s.next < 4294967295

-- the installation of a message's verdict
abbrev pub installation_of : Evaluated → What
installation_of message = Installed (message_ticket message) (message_verdict message)

-- the message is refused as it is on each state that the machine is at, for the first reason that holds; `full` says whether the
-- history is, which a machine doesn't have
abbrev pub RefusesMessage : {A : Type 0} → Parts → Bool → Evaluated → Result A DeliverError → Type 0
RefusesMessage m full message result =
    (s : Slow) → IsAt m s → DeliveryRefusedAs s full (message_ticket message) (message_block message) (message_reads message) result

-- if a block waits under the ticket of the message, the message is of a block with its tree
abbrev pub IsOfWaiter : Slow → Evaluated → Type 0
IsOfWaiter s message =
    (w : Waiter) → find_waiter (message_ticket message) s.waiters ≡ Some w → w.block.tree ≡ (message_block message).tree

-- the message may be delivered: it is of the block that waits under its ticket, and nothing refuses it
pub record MayDeliver (s : Slow) (message : Evaluated) : Type 0 where
  pub one : Waiter
  pub found : find_waiter (message_ticket message) s.waiters ≡ Some one
  pub same : one.block.tree ≡ (message_block message).tree
  pub allowed : install_first s.store false one (message_reads message) ≡ None
