-- What a desk answers depends on what can be observed of its state and on nothing else.
use Rattle.std.specs.Prelude.{◌≡◌, ℕ, Bool, List, length, Option, option_map}
use Rattle.stm_terms.specs.declared.kinds.Ty.{Ty}
use Rattle.stm_terms.specs.declared.values.Value.{Value}
use Rattle.stm_store.specs.declared.cell.Cell.{Cell}
use Rattle.stm_check.specs.TypedBlock.{Block}
use Rattle.stm_events.specs.declared.errors.DeliverError.{DeliverError}
use Rattle.stm_events.specs.BlockStatus.{read_then}
use Rattle.stm_events.specs.Ready.{next_ready}
use Rattle.stm_events.specs.Refusals.{submit_refused, late_declare_refused, label_refused, cancel_refused, install_first, finish_refused}
use Rattle.stm_events.specs.SlowDesk.{Waiter, Slow, standing, is_current, find_waiter}
use Rattle.stm_events.specs.SlowDrain.{next_drain, draining, drain_stop}
use Rattle.stm_events.specs.SlowSettle.{next_what, settling, settle_stop}
use Rattle.stm_events.specs.States.{IsPossible, observed}

-- the block that waits, and why a message of it isn't installed, if it isn't
abbrev pub install_answer : List Cell → Bool → List (ℕ × Value) → Waiter → Block × Option DeliverError
install_answer store full reads w = (w.block, install_first store full w reads)

-- the refusals of each call, with a history that is full or not, and the answers to each question
pub record AnswersAlike (s s' : Slow) : Type 0 where
  -- why each call is refused, if it is
  pub submit : (full : Bool) (block : Block) → submit_refused s full block ≡ submit_refused s' full block
  pub declare : (full : Bool) (name : List ℕ) (kind : Ty) (value : Value)
      → late_declare_refused s full name kind value ≡ late_declare_refused s' full name kind value
  pub label : (full : Bool) (t : ℕ) → label_refused s full t ≡ label_refused s' full t
  pub cancel : (full : Bool) (t : ℕ) → cancel_refused s full t ≡ cancel_refused s' full t
  pub finish : (full : Bool) (t : ℕ) → finish_refused s full t ≡ finish_refused s' full t
  pub deliver : (full : Bool) (t : ℕ) (reads : List (ℕ × Value))
      → option_map (install_answer s.store full reads) (find_waiter t s.waiters)
      ≡ option_map (install_answer s'.store full reads) (find_waiter t s'.waiters)
  -- the answers to the questions about a waiting block, and about all of them
  pub standing : (t : ℕ)
      → option_map (standing s.store) (find_waiter t s.waiters) ≡ option_map (standing s'.store) (find_waiter t s'.waiters)
  pub current : (t : ℕ) → option_map is_current (find_waiter t s.waiters) ≡ option_map is_current (find_waiter t s'.waiters)
  pub reads : (t : ℕ) → read_then (find_waiter t s.waiters) ≡ read_then (find_waiter t s'.waiters)
  pub ready : (t : ℕ) → next_ready t s ≡ next_ready t s'
  pub waiting : length s.waiters ≡ length s'.waiters
  -- the orders of work: what settling and draining do next, what they do in a room, and why they stop there
  pub next : next_what s ≡ next_what s'
  pub settling : (room : ℕ) → settling room s ≡ settling room s'
  pub stop : (room : ℕ) → settle_stop room s ≡ settle_stop room s'
  pub next_drain : next_drain s ≡ next_drain s'
  pub draining : (room : ℕ) → draining room s ≡ draining room s'
  pub drain_stop : (room : ℕ) → drain_stop room s ≡ drain_stop room s'

-- two possible states of which the same is observed answer alike
abbrev pub ObservedAnswerAlike : Type 0
ObservedAnswerAlike = (s s' : Slow) → IsPossible s → IsPossible s' → observed s ≡ observed s' → AnswersAlike s s'
