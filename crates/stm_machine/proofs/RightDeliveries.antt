-- When the last delivery to a block is right, by what its block does on the store or on a copy of it.
use Rattle.std.proofs.Common.{◌≡◌, ◌≢◌, ℕ, suc, zero, ◌<◌, Bool, true, List, [], ◌∷◌, ◌++◌, length, Option, Some, None, refl, sym, subst, arith, length-append}
use Rattle.std.specs.Prelude.{slice_index_or, option_map, Result, Ok, Err, OnOk, IfOk, IsTrue, ◌↔◌}
use Rattle.stm_terms.specs.declared.values.Value.TheVariants as value
use Rattle.stm_terms.specs.declared.verdicts.Verdict.TheVariants.{Commits}
use Rattle.stm_terms.specs.Typing.{Rising}
use Rattle.stm_store.specs.declared.cell.Cell.{Cell}
use Rattle.stm_store.specs.Cells.{plains, Fits, StoreIsTyped}
use Rattle.stm_check.specs.TypedBlock.{Block}
use Rattle.stm_eval.specs.Messages.{Agrees, Holds}
use Rattle.stm_eval.proofs.FragmentsAndStores.{of_the_store, holds_again}
use Rattle.stm_events.specs.Delivered.{Delivered}
use Rattle.stm_events.specs.declared.kept_cause.KeptCause.{KeptCause}
use Rattle.stm_events.specs.Laws.{IsWellTyped}
use Rattle.stm_events.specs.Refusals.{differing}
use Rattle.stm_events.specs.SlowDesk.{under}
use Rattle.stm_waiting.specs.declared.waiting.Held.{Held}
use Rattle.stm_machine.specs.declared.checkpoint.CheckpointBlock.{CheckpointBlock}
use Rattle.stm_machine.specs.Checkpoints.{CheckpointView, store_with, IsRightDelivery, IsKeptCause, MayHaveCause, IsCheckpointBlock, AreCheckpointBlocks, IsCheckpoint, MayAdd, checkpoint_block, is_stale_delivery, held_of}
use Rattle.stm_machine.specs.CheckpointEntries.{HasPlace, MayWait, last_ticket}
use Rattle.stm_machine.proofs.Delivery.{none_differs}
use Rattle.stm_machine.proofs.StoreWith.{has_values, values_fit}

-- ---- a delivery whose values are those of the store
pub right_present : (store : List Cell) (block : Block) (stale : Bool) (h : Held) → StoreIsTyped (plains store) → differing (under store) h.reads ≡ None → (stale ≡ true → h.reads ≢ [])
    → Holds block.tree (under store) h.reads h.verdict → IsRightDelivery store block stale (Some h)
right_present store block stale h typed same some holds =
    let agrees : Agrees h.reads (under store) = none_differs (under store) h.reads same in
    let rising : Rising h.reads = subst Rising holds.reads_are (of_the_store block.tree (under store)).0 in
    let fits : Fits (plains store) (Commits h.reads [] value.Unit) = values_fit store store h.reads typed (λ j k e. e) rising agrees in
    (fits, holds_again block.tree h.reads h.verdict (under store) (under (store_with h.reads store)) holds (has_values store h.reads fits), λ f. same, some)

pub holds_present : (store : List Cell) (block : Block) (stale : Bool) (h : Held) → differing (under store) h.reads ≡ None → IsRightDelivery store block stale (Some h) → Holds block.tree (under store) h.reads h.verdict
holds_present store block stale h same d = holds_again block.tree h.reads h.verdict (under (store_with h.reads store)) (under store) d.1 (none_differs (under store) h.reads same)

-- ---- one with another value

-- ---- one block more
last_at : (k i : ℕ) (bs : List CheckpointBlock) (d : CheckpointBlock) → suc i ≡ length bs → (slice_index_or bs i d).ticket ≡ last_ticket k bs
last_at k i [] d e = absurd (omega arith)
last_at k zero (b ∷ []) d e = refl
last_at k (suc i) (b ∷ []) d e = absurd (omega arith)
last_at k zero (b ∷ c ∷ bs) d e = absurd (omega arith)
last_at k (suc i) (b ∷ c ∷ bs) d e = last_at b.ticket i (c ∷ bs) d (omega arith)

pub last_is : (bs : List CheckpointBlock) (i : ℕ) (d : CheckpointBlock) → suc i ≡ length bs → (slice_index_or bs i d).ticket ≡ last_ticket 0 bs
last_is bs i d e = last_at 0 i bs d e

blocks_push : (store : List Cell) (n k : ℕ) (bs : List CheckpointBlock) (b : CheckpointBlock) → AreCheckpointBlocks store n k bs → last_ticket k bs < b.ticket → b.ticket < n → IsCheckpointBlock store n b
    → AreCheckpointBlocks store n k (bs ++ b ∷ [])
blocks_push store n k [] b a low high one = (low, high, one, tt)
blocks_push store n k (c ∷ bs) b a low high one = (a.0, a.1, a.2, blocks_push store n c.ticket bs b a.3 low high one)

pushed_last : (store : List Cell) (n k : ℕ) (bs : List CheckpointBlock) (b : CheckpointBlock) → AreCheckpointBlocks store n k (bs ++ b ∷ []) → (last_ticket k bs < b.ticket) × (b.ticket < n) × IsCheckpointBlock store n b
pushed_last store n k [] b a = (a.0, a.1, a.2)
pushed_last store n k (c ∷ bs) b a = pushed_last store n c.ticket bs b a.3

may_add : (c : CheckpointView) (b : CheckpointBlock) → IsCheckpoint c → HasPlace c b.ticket → IsCheckpointBlock c.store c.next b → MayAdd c b
may_add c b k p one = record {
  begun = k.begun;
  tickets = k.tickets;
  store = k.store;
  named = k.named;
  few = let l = length-append c.blocks (b ∷ []) in let f = p.few in omega arith;
  blocks = blocks_push c.store c.next 0 c.blocks b k.blocks p.above p.below one;
}

pub may_add_block : (c : CheckpointView) (t : ℕ) (block : Block) (d : Option Delivered) (cause : Option KeptCause) (label : List ℕ) → IsCheckpoint c → MayWait c t block d cause label → IsWellTyped block
    → IsRightDelivery c.store block (is_stale_delivery d) (option_map held_of d) → MayAdd c (checkpoint_block t block d cause label)
may_add_block c t block d cause label k w typed right =
    may_add c (checkpoint_block t block d cause label) k w.0.0 (record { covered = w.0.2; typed = typed; delivery = right; cause = w.1; label = w.0.1 })

has_place : (c : CheckpointView) (b : CheckpointBlock) → MayAdd c b → HasPlace c b.ticket
has_place c b k =
    let p = pushed_last c.store c.next 0 c.blocks b k.blocks in
    record { few = let l = length-append c.blocks (b ∷ []) in let f = k.few in omega arith; above = p.0; below = p.1 }

pub is_block : (c : CheckpointView) (b : CheckpointBlock) → MayAdd c b → IsCheckpointBlock c.store c.next b
is_block c b k = (pushed_last c.store c.next 0 c.blocks b k.blocks).2

pub may_wait : (c : CheckpointView) (t : ℕ) (block : Block) (d : Option Delivered) (cause : Option KeptCause) (label : List ℕ) → MayAdd c (checkpoint_block t block d cause label) → MayWait c t block d cause label
may_wait c t block d cause label k =
    let b : CheckpointBlock = checkpoint_block t block d cause label in
    let one = is_block c b k in
    ((has_place c b k, one.label, one.covered), one.cause)

-- ---- a cause
pub if_both : {E : Type 0} (P Q : Type 0) (r : Result Bool E) → P → IfOk r (λ b. IsTrue b ↔ Q) → IfOk r (λ b. IsTrue b ↔ (P × Q))
if_both P Q (Ok b) p h = (λ t. (p, h.0 t), λ q. h.1 q.1)
if_both P Q (Err x) p h = tt

pub may_have : {E : Type 0} (store : List Cell) (n : ℕ) (o : Option Delivered) (p : Option KeptCause) (d : Delivered) (k : KeptCause) (r : Result Bool E) → o ≡ Some d → p ≡ Some k → d.stale ≡ true
    → IfOk r (λ b. IsTrue b ↔ IsKeptCause store n d.reads k) → IfOk r (λ b. IsTrue b ↔ MayHaveCause store n (is_stale_delivery o) (option_map held_of o) p)
may_have store n o p d k r e f stale h =
    subst (λ (x : Option Delivered). IfOk r (λ b. IsTrue b ↔ MayHaveCause store n (is_stale_delivery x) (option_map held_of x) p)) (sym e)
    (subst (λ (x : Option KeptCause). IfOk r (λ b. IsTrue b ↔ MayHaveCause store n d.stale (Some (held_of d)) x)) (sym f) (if_both (d.stale ≡ true) (IsKeptCause store n d.reads k) r stale h))

-- ---- what follows if a call returns
pub on_ok : {A E : Type 0} (P Q : Type 0) (r : Result A E) → (P → Q) → OnOk r P → OnOk r Q
on_ok P Q (Ok x) f p = f p
on_ok P Q (Err e) f p = tt
