-- Labels and causes of the blocks of a checkpoint.
use Rattle.std.proofs.Common.{◌≡◌, ℕ, Bool, true, false, ◌||◌, cond, List, [], ◌∷◌, map, Option, refl, sym, ap, ◌∙◌, arith, eqb-true}
use Rattle.std.specs.Prelude.{nat_eq}
use Rattle.std.specs.List.{list_any}
use Rattle.std.proofs.lemmas.List.{length-map}
use Rattle.stm_store.specs.declared.cell.Cell.{Cell}
use Rattle.stm_events.specs.declared.kept_cause.KeptCause.{KeptCause}
use Rattle.stm_events.specs.Labels.{Labels, AreLabels, is_label, label_of}
use Rattle.stm_events.specs.SlowDesk.{Waiter}
use Rattle.stm_machine.specs.declared.checkpoint.CheckpointBlock.{CheckpointBlock}
use Rattle.stm_machine.specs.Checkpoints.{CheckpointView, waiter_of, checkpoint_state, AreCheckpointBlocks, labelled_block, with_labels, before_labels, labels_in, LabelsLeaveCheckpoints, caused_block, with_causes, MayHaveCauses, CausesLeaveCheckpoints}

pub no_label_is : is_label [] ≡ true
unfolding is_label
no_label_is = refl

are_labelled : (labels : Labels) (store : List Cell) (n k : ℕ) (bs : List CheckpointBlock) → AreLabels labels → AreCheckpointBlocks store n k bs → AreCheckpointBlocks store n k (map (labelled_block labels) bs)
are_labelled labels store n k [] l a = tt
are_labelled labels store n k (b ∷ bs) l a = (
  a.0,
  a.1,
  record { covered = a.2.covered; typed = a.2.typed; delivery = a.2.delivery; cause = a.2.cause; label = l b.ticket },
  are_labelled labels store n b.ticket bs l a.3,
)

same_waiters : (labels : Labels) (store : List Cell) (bs : List CheckpointBlock) → map (waiter_of store) (map (labelled_block labels) bs) ≡ map (waiter_of store) bs
same_waiters labels store [] = refl
same_waiters labels store (b ∷ bs) = ap (λ (ws : List Waiter). waiter_of store b ∷ ws) (same_waiters labels store bs)

pub same_state : (labels : Labels) (c : CheckpointView) → checkpoint_state (with_labels labels c) ≡ checkpoint_state c
same_state labels c = let same = same_waiters labels c.store c.blocks in rw same refl

pub labels_leave_checkpoints : LabelsLeaveCheckpoints
labels_leave_checkpoints labels c l k = (
  record {
    begun = k.begun;
    tickets = k.tickets;
    store = k.store;
    named = k.named;
    few = let m = length-map c.blocks (labelled_block labels) in let f = k.few in omega arith;
    blocks = are_labelled labels c.store c.next 0 c.blocks l k.blocks;
  },
  same_state labels c,
)

-- ---- causes
are_caused : (causes : ℕ → Option KeptCause) (store : List Cell) (n k : ℕ) (bs : List CheckpointBlock) → MayHaveCauses store n causes bs → AreCheckpointBlocks store n k bs → AreCheckpointBlocks store n k (map (caused_block causes) bs)
are_caused causes store n k [] m a = tt
are_caused causes store n k (b ∷ bs) m a = (
  a.0,
  a.1,
  record { covered = a.2.covered; typed = a.2.typed; delivery = a.2.delivery; cause = m.0; label = a.2.label },
  are_caused causes store n b.ticket bs m.1 a.3,
)

caused_waiters : (causes : ℕ → Option KeptCause) (store : List Cell) (bs : List CheckpointBlock) → map (waiter_of store) (map (caused_block causes) bs) ≡ map (waiter_of store) bs
caused_waiters causes store [] = refl
caused_waiters causes store (b ∷ bs) = ap (λ (ws : List Waiter). waiter_of store b ∷ ws) (caused_waiters causes store bs)

pub caused_state : (causes : ℕ → Option KeptCause) (c : CheckpointView) → checkpoint_state (with_causes causes c) ≡ checkpoint_state c
caused_state causes c = let same = caused_waiters causes c.store c.blocks in rw same refl

pub causes_leave_checkpoints : CausesLeaveCheckpoints
causes_leave_checkpoints causes c m k = (
  record {
    begun = k.begun;
    tickets = k.tickets;
    store = k.store;
    named = k.named;
    few = let l = length-map c.blocks (caused_block causes) in let f = k.few in omega arith;
    blocks = are_caused causes c.store c.next 0 c.blocks m k.blocks;
  },
  caused_state causes c,
)

-- ---- the labels with which a history begins
-- a block has the ticket
abbrev pub is_there : ℕ → List CheckpointBlock → Bool
is_there t bs = list_any (λ b. nat_eq t b.ticket) bs

first_step : (t u : ℕ) (b any : Bool) (label known : List ℕ) (rest : Labels) → nat_eq t u ≡ b → (b ≡ true → known ≡ label) → label_of t rest ≡ cond any known [] → label_of t (before_labels u label rest) ≡ cond (b || any) known []
first_step t u true true [] known rest e h more = more
first_step t u true false [] known rest e h more = more ∙ sym (h refl)
first_step t u false any [] known rest e h more = more
first_step t u true any (x ∷ xs) known rest e h more = rw e (sym (h refl))
first_step t u false any (x ∷ xs) known rest e h more = rw e more

pub label-in_labelled : (t : ℕ) (labels : Labels) (bs : List CheckpointBlock) → label_of t (labels_in (map (labelled_block labels) bs)) ≡ cond (is_there t bs) (label_of t labels) []
label-in_labelled t labels [] = refl
label-in_labelled t labels (b ∷ bs) =
    first_step t b.ticket (nat_eq t b.ticket) (is_there t bs) (label_of b.ticket labels) (label_of t labels) (labels_in (map (labelled_block labels) bs)) refl
    (λ e. ap (λ (u : ℕ). label_of u labels) (eqb-true t b.ticket e)) (label-in_labelled t labels bs)
