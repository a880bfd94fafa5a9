-- What is shown of a waiting block.
use Rattle.std.specs.Prelude.{◌≡◌, ℕ, true, List, Option, Some, None, option_map}
use Rattle.stm_terms.specs.declared.values.Value.{Value}
use Rattle.stm_terms.specs.ReadSet.{reads_of}
use Rattle.stm_store.specs.declared.cell.Cell.{Cell}
use Rattle.stm_check.specs.TypedBlock.{Block}
use Rattle.stm_events.specs.SlowDesk.{Since, Waiter, Slow, under, Standing, standing, is_current, find_waiter}
use Rattle.stm_events.specs.SlowDesk as slow
use Rattle.stm_events.specs.declared.status.Status.{Status}
use Rattle.stm_events.specs.declared.status.Status.TheVariants.{New, Stale, Current}

-- the status of a block, as the machine returns it
abbrev pub shown : Status → Standing
shown New = slow.New
shown (Stale v) = slow.Stale (Some v.now)
shown (Current v) = slow.Current (Some v.now)

-- what a block read at its last delivery
abbrev pub read_since_then : Block → Option Since → Option (List (ℕ × Value))
read_since_then block None = None
read_since_then block (Some s) = Some (reads_of (under s.store_then) block.tree)

-- what a waiting block read at its last delivery, if there is a block
abbrev pub read_then : Option Waiter → Option (List (ℕ × Value))
read_then None = None
read_then (Some w) = read_since_then w.block w.since

-- what it reads on the present store
abbrev pub read_now : List Cell → Waiter → List (ℕ × Value)
read_now store w = reads_of (under store) w.block.tree

-- how the block under a ticket stands, if one waits there
abbrev pub standing_of : Slow → ℕ → Option Standing
standing_of s t = option_map (standing s.store) (find_waiter t s.waiters)

-- these were read by the block that waits under a ticket, if it is current: what it reads on the present store
abbrev pub AreReadNow : Slow → ℕ → Option (List (ℕ × Value)) → Type 0
AreReadNow s t reads = (w : Waiter) → find_waiter t s.waiters ≡ Some w → is_current w ≡ true → reads ≡ Some (read_now s.store w)
