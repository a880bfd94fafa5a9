-- The cause that a checkpoint keeps of a block is one that the block may have.
use Rattle.std.proofs.Common.{◌≡◌, ℕ, Bool, true, false, cond, List, [], ◌∷◌, map, Option, Some, None, sym, ap, subst, ◌∙◌}
use Rattle.std.specs.Prelude.{nat_eq}
use Rattle.stm_terms.specs.declared.values.Value.{Value}
use Rattle.stm_terms.specs.ReadSet.{reads_of}
use Rattle.stm_store.specs.declared.cell.Cell.{Cell}
use Rattle.stm_store.specs.Tables.{Declared}
use Rattle.stm_check.specs.TypedBlock.{Block}
use Rattle.stm_events.specs.declared.kept_cause.KeptCause.{KeptCause}
use Rattle.stm_events.specs.SlowDesk.{Since, Waiter, under, find_waiter}
use Rattle.stm_machine.specs.declared.checkpoint.CheckpointBlock.{CheckpointBlock}
use Rattle.stm_machine.specs.Checkpoints.{CheckpointView, since_held, waiter_of, IsRightDelivery, IsKeptCause, MayHaveCause, AreCheckpointBlocks, start_of, MayStart}
use Rattle.stm_waiting.specs.declared.waiting.Held.{Held}
use Rattle.stm_desk.specs.Reasons.{kept_cause_in, kept_cause_at}

-- what the block read is what it reads on the store of its delivery
held_cause : (store : List Cell) (n : ℕ) (block : Block) (stale : Bool) (held : Option Held) (s : Since) (k : KeptCause) → IsRightDelivery store block stale held → MayHaveCause store n stale held (Some k) → since_held store stale held ≡ Some s
    → IsKeptCause store n (reads_of (under s.store_then) block.tree) k
held_cause store n block stale None s k d m e = absurd m
held_cause store n block stale (Some h) s k d m e =
    let same : reads_of (under s.store_then) block.tree ≡ h.reads = (let right = d.1.reads_are in cc) in
    subst (λ (rs : List (ℕ × Value)). IsKeptCause store n rs k) (sym same) m.1

kept_step : (b : Bool) (t : ℕ) (store : List Cell) (n : ℕ) (one : CheckpointBlock) (o : Option Waiter) (more : Option KeptCause) (w : Waiter) (s : Since) (k : KeptCause) → IsRightDelivery store one.waiting.block one.stale one.waiting.held
    → MayHaveCause store n one.stale one.waiting.held one.cause → (o ≡ Some w → more ≡ Some k → IsKeptCause store n (reads_of (under s.store_then) w.block.tree) k) → w.since ≡ Some s
    → cond b (Some (waiter_of store one)) o ≡ Some w → cond b one.cause more ≡ Some k → IsKeptCause store n (reads_of (under s.store_then) w.block.tree) k
kept_step true t store n one o more w s k d m rest e f g =
    let same : waiter_of store one ≡ w = cc in
    let may : MayHaveCause store n one.stale one.waiting.held (Some k) = subst (MayHaveCause store n one.stale one.waiting.held) g m in
    let since : since_held store one.stale one.waiting.held ≡ Some s = ap (λ (x : Waiter). x.since) same ∙ e in
    subst (λ (x : Waiter). IsKeptCause store n (reads_of (under s.store_then) x.block.tree) k) same (held_cause store n one.waiting.block one.stale one.waiting.held s k d may since)
kept_step false t store n one o more w s k d m rest e f g = rest f g

kept_among : (t : ℕ) (store : List Cell) (n low : ℕ) (bs : List CheckpointBlock) (w : Waiter) (s : Since) (k : KeptCause) → AreCheckpointBlocks store n low bs → find_waiter t (map (waiter_of store) bs) ≡ Some w → w.since ≡ Some s
    → kept_cause_in t bs ≡ Some k → IsKeptCause store n (reads_of (under s.store_then) w.block.tree) k
kept_among t store n low [] w s k a f e g = cc
kept_among t store n low (b ∷ bs) w s k a f e g =
    kept_step (nat_eq t b.ticket) t store n b (find_waiter t (map (waiter_of store) bs)) (kept_cause_in t bs) w s k a.2.delivery a.2.cause
    (λ found kept. kept_among t store n b.ticket bs w s k a.3 found e kept) e f g

pub kept_of_start : (t : ℕ) (table : List Declared) (o : Option CheckpointView) (w : Waiter) (s : Since) (k : KeptCause) → MayStart table o → find_waiter t (start_of table o).waiters ≡ Some w → w.since ≡ Some s → kept_cause_at t o ≡ Some k
    → IsKeptCause (start_of table o).store (start_of table o).next (reads_of (under s.store_then) w.block.tree) k
kept_of_start t table None w s k m f e g = cc
kept_of_start t table (Some c) w s k m f e g = kept_among t c.store c.next 0 c.blocks w s k m.0.blocks f e g
