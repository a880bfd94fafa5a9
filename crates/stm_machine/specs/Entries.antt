-- That the waiting blocks that the code keeps are those of the slow desk.
use Rattle.std.specs.Prelude.{◌≡◌, ℕ, Bool, false, not, List, [], ◌∷◌, Option, Some, None}
use Rattle.stm_terms.specs.declared.values.Value.{Value}
use Rattle.stm_check.specs.TypedBlock.{Block}
use Rattle.stm_eval.specs.Messages.{Holds}
use Rattle.stm_events.specs.SlowDesk.{Since, Waiter, under, is_blocks}
use Rattle.stm_waiting.specs.declared.waiting.Held.{Held}
use Rattle.stm_waiting.specs.declared.waiting.Waiting.{Waiting}
use Rattle.stm_waiting.specs.Entries.{held_reads}

-- what is kept of the last delivery is what the block read then, and its verdict then
abbrev pub IsHeld : Block → Option Held → Option Since → Type 0
IsHeld block None None = Unit {0}
IsHeld block None (Some s) = ⊥
IsHeld block (Some h) None = ⊥
IsHeld block (Some h) (Some s) = Holds block.tree (under s.store_then) h.reads h.verdict

-- what is kept is of this waiting block: its ticket, the block, and what its last delivery brought
pub record IsKeptOf (e : ℕ × Waiting) (w : Waiter) : Type 0 where
  pub ticket : e.0 ≡ w.ticket
  pub block : e.1.block ≡ w.block
  pub held : IsHeld w.block e.1.held w.since

-- one after another, the blocks kept are those that wait
abbrev pub AreKeptOf : List (ℕ × Waiting) → List Waiter → Type 0
AreKeptOf [] [] = Unit {0}
AreKeptOf [] (w ∷ ws) = ⊥
AreKeptOf (e ∷ es) [] = ⊥
AreKeptOf (e ∷ es) (w ∷ ws) = IsKeptOf e w × AreKeptOf es ws

-- what was read at the last delivery of the block under a ticket, if there is one
abbrev pub kept_reads : Option Waiting → List (ℕ × Value)
kept_reads None = []
kept_reads (Some w) = held_reads w.held

-- what is kept of a block's last delivery doesn't block
abbrev pub held_ends : Option Held → Bool
held_ends None = false
held_ends (Some h) = not (is_blocks h.verdict)

-- the last delivery of the block under a ticket, if there is one, doesn't block
abbrev pub kept_ends : Option Waiting → Bool
kept_ends None = false
kept_ends (Some w) = held_ends w.held
