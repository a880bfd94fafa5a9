-- How a machine keeps the blocks of a checkpoint, ticket by ticket, and what a checkpoint has of the blocks that a machine keeps.
use Rattle.std.specs.Prelude.{◌≡◌, ℕ, ◌<◌, Bool, false, true, not, ◌&&◌, nat_eq, is_some, List, [], ◌∷◌, length, map, Option, None, option_map}
use Rattle.std.specs.List.{list_any}
use Rattle.stm_queue.specs.Queue.{Entry, has_ticket}
use Rattle.stm_queue.specs.SortedTickets.{member}
use Rattle.stm_terms.specs.Limits.{max_waiting}
use Rattle.stm_store.specs.Cells.{plains, Covers}
use Rattle.stm_check.specs.TypedBlock.{Block}
use Rattle.stm_events.specs.Delivered.{Delivered}
use Rattle.stm_events.specs.declared.kept_cause.KeptCause.{KeptCause}
use Rattle.stm_events.specs.Labels.{is_label}
use Rattle.stm_watch.specs.Pairs.{has_pair, is_read}
use Rattle.stm_waiting.specs.declared.waiting.Waiting.{Waiting}
use Rattle.stm_waiting.specs.Entries.{held_reads}
use Rattle.stm_machine.specs.declared.checkpoint.CheckpointBlock.{CheckpointBlock}
use Rattle.stm_machine.specs.Checkpoints.{CheckpointView, MayHaveCause, held_of, is_stale_delivery}
use Rattle.stm_machine.specs.declared.restored.Restored.{Restored}
use Rattle.stm_machine.specs.Entries.{held_ends}
use Rattle.stm_machine.specs.SettleChoices.{some_out}

-- ---- kept by a machine
-- above k, each above the one before it
abbrev pub TicketsAscend : ℕ → List CheckpointBlock → Type 0
TicketsAscend k [] = Unit {0}
TicketsAscend k (b ∷ bs) = (k < b.ticket) × TicketsAscend b.ticket bs

-- the last ticket, or k if there is none
abbrev pub last_ticket : ℕ → List CheckpointBlock → ℕ
last_ticket k [] = k
last_ticket k (b ∷ bs) = last_ticket b.ticket bs

-- one block more may wait, under this ticket
pub record HasPlace (c : CheckpointView) (t : ℕ) : Type 0 where
  pub few : length c.blocks < max_waiting
  pub above : last_ticket 0 c.blocks < t
  pub below : t < c.next

-- the block may be added under this ticket, if it is well typed and its last delivery is right
abbrev pub MayWait : CheckpointView → ℕ → Block → Option Delivered → Option KeptCause → List ℕ → Type 0
MayWait c t block delivery cause label =
    (HasPlace c t × (is_label label ≡ true) × Covers (plains c.store) block.uses)
    × MayHaveCause c.store c.next (is_stale_delivery delivery) (option_map held_of delivery) cause

-- a block by its ticket
abbrev pub entry_of : CheckpointBlock → ℕ × Waiting
entry_of b = (b.ticket, b.waiting)

-- the block is new or stale
abbrev pub is_due_block : CheckpointBlock → Bool
is_due_block b = not (is_some b.waiting.held && not b.stale)

-- the block is current and read the variable
abbrev pub watches_variable : ℕ → CheckpointBlock → Bool
watches_variable v b = not (is_due_block b) && is_read (held_reads b.waiting.held) v

-- the block is current, and its verdict doesn't block
abbrev pub is_ready_block : CheckpointBlock → Bool
is_ready_block b = not (is_due_block b) && held_ends b.waiting.held

-- the block has the ticket and is such a one
abbrev pub is_named : (CheckpointBlock → Bool) → ℕ → CheckpointBlock → Bool
is_named f t b = nat_eq t b.ticket && f b

-- a block with the ticket is such a one
abbrev pub has_block : (CheckpointBlock → Bool) → ℕ → List CheckpointBlock → Bool
has_block f t bs = list_any (is_named f t) bs

-- what a machine keeps of these blocks: each under its ticket, all that are due queued, what the others read, and those that are ready
pub record KeepsBlocks (bs : List CheckpointBlock) (r : Restored) : Type 0 where
  pub entries : r.waiting ≡ map entry_of bs
  pub due : (t : ℕ) → has_ticket t r.pending.entries ≡ has_block is_due_block t bs
  pub none_out : some_out r.pending.entries ≡ false
  pub watched : (v t : ℕ) → has_pair r.watch v t ≡ has_block (watches_variable v) t bs
  pub ready : (t : ℕ) → member t r.ready.tickets ≡ has_block is_ready_block t bs

-- ---- kept by a checkpoint
-- above k, each above the one before it
abbrev pub EntriesRise : ℕ → List (ℕ × Waiting) → Type 0
EntriesRise k [] = Unit {0}
EntriesRise k (e ∷ es) = (k < e.0) × EntriesRise e.0 es

-- what a machine keeps under a ticket, with these tickets queued or out; it keeps no causes and no labels
abbrev pub block_of : List Entry → ℕ × Waiting → CheckpointBlock
block_of pending e = record { ticket = e.0; waiting = e.1; stale = is_some e.1.held && has_ticket e.0 pending; cause = None; label = [] }
