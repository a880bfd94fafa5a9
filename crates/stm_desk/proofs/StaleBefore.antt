-- A checkpoint has which blocks are stale in its state.
use Rattle.std.proofs.Common.{◌≡◌, ℕ, Bool, true, false, not, ◌&&◌, cond, List, [], ◌∷◌, map, Option, Some, None, refl, sym, ◌∙◌}
use Rattle.std.specs.Prelude.{nat_eq}
use Rattle.stm_store.specs.declared.cell.Cell.{Cell}
use Rattle.stm_store.specs.Tables.{Declared}
use Rattle.stm_check.specs.TypedBlock.{Block}
use Rattle.stm_events.specs.SlowDesk.{Waiter, find_waiter, is_new_since, current_since}
use Rattle.stm_machine.specs.declared.checkpoint.CheckpointBlock.{CheckpointBlock}
use Rattle.stm_machine.specs.Checkpoints.{CheckpointView, since_held, waiter_of, start_of, IsRightDelivery, AreCheckpointBlocks, MayStart}
use Rattle.stm_machine.proofs.CheckpointStates.{is_stale_held}
use Rattle.stm_waiting.specs.declared.waiting.Held.{Held}
use Rattle.stm_desk.specs.Reasons.{was_stale}
use Rattle.stm_desk.specs.ReasonsByEvents.{stale_in, stale_at}

twice : (b : Bool) → not (not b) ≡ b
twice true = refl
twice false = refl

held_stale : (store : List Cell) (block : Block) (stale : Bool) (o : Option Held) → IsRightDelivery store block stale o
    → (not (is_new_since (since_held store stale o)) && not (current_since block (since_held store stale o))) ≡ stale
held_stale store block stale None d = sym d
held_stale store block stale (Some h) d = twice _ ∙ is_stale_held store block stale h d

step : (a : Bool) (store : List Cell) (b : CheckpointBlock) (o : Option Waiter) (rest : Bool) → IsRightDelivery store b.waiting.block b.stale b.waiting.held → was_stale o ≡ rest
    → was_stale (cond a (Some (waiter_of store b)) o) ≡ cond a b.stale rest
step true store b o rest d more = held_stale store b.waiting.block b.stale b.waiting.held d
step false store b o rest d more = more

stale_blocks : (t : ℕ) (store : List Cell) (n k : ℕ) (bs : List CheckpointBlock) → AreCheckpointBlocks store n k bs → was_stale (find_waiter t (map (waiter_of store) bs)) ≡ stale_in t bs
stale_blocks t store n k [] a = refl
stale_blocks t store n k (b ∷ bs) a =
    step (nat_eq t b.ticket) store b (find_waiter t (map (waiter_of store) bs)) (stale_in t bs) a.2.delivery (stale_blocks t store n b.ticket bs a.3)

pub was_stale_at : (t : ℕ) (table : List Declared) (o : Option CheckpointView) → MayStart table o → was_stale (find_waiter t (start_of table o).waiters) ≡ stale_at t o
was_stale_at t table None m = refl
was_stale_at t table (Some c) m = stale_blocks t c.store c.next 0 c.blocks m.0.blocks
