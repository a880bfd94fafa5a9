-- A checkpoint: a state that a history may begin from, as it can be kept and written. Of each waiting block it has what its last
-- delivery brought, whether it is stale, why it is if that is known, and its label.
use Rattle.std.specs.Prelude.{◌≡◌, ◌≢◌, ℕ, ◌<◌, ◌≤◌, Bool, true, false, not, ◌&&◌, if◌then◌else◌, nat_lt, List, [], ◌∷◌, ◌++◌, map, length, Option, Some, None, option_map, Result, Ok, Err}
use Rattle.stm_terms.specs.declared.kinds.Ty.{Ty}
use Rattle.stm_terms.specs.declared.values.Value.{Value}
use Rattle.stm_terms.specs.declared.values.Value.TheVariants as value
use Rattle.stm_terms.specs.declared.verdicts.Verdict.TheVariants.{Commits}
use Rattle.stm_terms.specs.Changes.{find}
use Rattle.stm_terms.specs.ReadSet.{reads_of}
use Rattle.stm_terms.specs.Value.{same_value}
use Rattle.stm_store.specs.declared.cell.Cell.{Cell}
use Rattle.stm_store.specs.Cells.{plains, Covers, Fits, IsStore, applied}
use Rattle.stm_store.specs.Naming.{Named, named_uses}
use Rattle.stm_store.specs.Tables.{Declared, opened}
use Rattle.stm_check.specs.TypedBlock.{Block}
use Rattle.stm_eval.specs.Messages.{Holds}
use Rattle.stm_events.specs.Delivered.{Delivered}
use Rattle.stm_events.specs.declared.event.Event.{Event}
use Rattle.stm_events.specs.declared.kept_cause.KeptCause.{KeptCause}
use Rattle.stm_events.specs.KeptCauses.{KeptCauses, kept_cause_of}
use Rattle.stm_events.specs.Labels.{Labels, AreLabels, is_label, label_of, labels_from}
use Rattle.stm_events.specs.declared.staleness.StalenessRule.{StalenessRule}
use Rattle.stm_events.specs.declared.staleness.StalenessRule.TheVariants.{Changed}
use Rattle.stm_events.specs.Laws.{IsWellTyped}
use Rattle.stm_events.specs.Refusals.{differing}
use Rattle.stm_events.specs.SlowDesk.{Since, Waiter, Slow, under, verdict_on, is_new, is_current, initial_state}
use Rattle.stm_terms.specs.Limits.{max_waiting}
use Rattle.stm_events.specs.States.{IsPossible, IsTypedState, observed}
use Rattle.stm_machine.specs.declared.checkpoint.AddError.{AddError}
use Rattle.stm_machine.specs.declared.checkpoint.AddError.TheVariants.{NotPossible}
use Rattle.stm_machine.specs.declared.checkpoint.CheckpointBlock.{CheckpointBlock}
use Rattle.stm_machine.specs.declared.checkpoint.CheckpointError.{CheckpointError}
use Rattle.stm_machine.specs.declared.checkpoint.CheckpointError.TheVariants.{TicketsFull}
use Rattle.stm_waiting.specs.declared.waiting.Held.{Held}

-- the store, the names of its variables, the next ticket, and the waiting blocks, in ascending order of their tickets
pub record CheckpointView : Type 0 where
  pub store : List Cell
  pub names : List Named
  pub next : ℕ
  pub blocks : List CheckpointBlock

-- what is held of a delivery
abbrev pub held_of : Delivered → Held
held_of d = record { reads = d.reads; verdict = d.verdict }

-- the delivery left the block stale
abbrev pub is_stale_delivery : Option Delivered → Bool
is_stale_delivery None = false
is_stale_delivery (Some d) = d.stale

-- the block that waits under a ticket, with its last delivery, if there was one, why it is stale, if that is known, and its label, which
-- is empty if it has none
abbrev pub checkpoint_block : ℕ → Block → Option Delivered → Option KeptCause → List ℕ → CheckpointBlock
checkpoint_block t block delivery cause label =
    record {
      ticket = t;
      waiting = record { block = block; held = option_map held_of delivery };
      stale = is_stale_delivery delivery;
      cause = cause;
      label = label;
    }

-- ---- the state
-- the store with these values of variables written over its own
abbrev pub store_with : List (ℕ × Value) → List Cell → List Cell
store_with values store = applied store (Commits values [] value.Unit)

-- A last delivery: the store then may have been any that has what the block read, so it is taken to be the present one but for
-- that; and if the block is stale, it is all that it read by which it became so.
abbrev pub since_held : List Cell → Bool → Option Held → Option Since
since_held store stale None = None
since_held store stale (Some h) =
    Some (record { store_then = store_with h.reads store; woken = if stale then map (λ r. r.0) h.reads else [] })

-- a waiting block
abbrev pub waiter_of : List Cell → CheckpointBlock → Waiter
waiter_of store b =
    record { ticket = b.ticket; block = b.waiting.block; since = since_held store b.stale b.waiting.held }

-- the state of a checkpoint, by the present rule
abbrev pub checkpoint_state : CheckpointView → Slow
checkpoint_state c = record { rule = Changed; store = c.store; names = c.names; next = c.next; waiters = map (waiter_of c.store) c.blocks }

-- ---- what makes it one
-- the last delivery is right: on a store with what the block read it has this verdict and reads just this; what isn't stale is
-- found again in the present store; and what is stale has read something
abbrev pub IsRightDelivery : List Cell → Block → Bool → Option Held → Type 0
IsRightDelivery store block stale None = stale ≡ false
IsRightDelivery store block stale (Some h) =
    Fits (plains store) (Commits h.reads [] value.Unit)
    × Holds block.tree (under (store_with h.reads store)) h.reads h.verdict
    × (stale ≡ false → differing (under store) h.reads ≡ None)
    × (stale ≡ true → h.reads ≢ [])

-- a variable was read, with another value than this one
abbrev pub differs_from : Option Value → Value → Bool
differs_from None v = false
differs_from (Some read) v = not (same_value read v)

-- each of these variables was read, with another value than it has here
abbrev pub all_differ : List (ℕ × Value) → List (ℕ × Value) → Bool
all_differ reads [] = true
all_differ reads (l ∷ ls) = differs_from (find l.0 reads) l.1 && all_differ reads ls

-- why a block of these reads may be stale: a finish, whose ticket is below the next one, left some variables that the block had read
-- with other values, which they may have
pub record IsKeptCause (store : List Cell) (n : ℕ) (reads : List (ℕ × Value)) (c : KeptCause) : Type 0 where
  pub begun : 0 < c.finish
  pub finished : c.finish < n
  pub some : c.left ≢ []
  pub fits : Fits (plains store) (Commits c.left [] value.Unit)
  pub changed : all_differ reads c.left ≡ true

-- a block may have this cause, if it has one: it is stale
abbrev pub MayHaveCause : List Cell → ℕ → Bool → Option Held → Option KeptCause → Type 0
MayHaveCause store n stale held None = Unit {0}
MayHaveCause store n stale None (Some c) = ⊥
MayHaveCause store n stale (Some h) (Some c) = (stale ≡ true) × IsKeptCause store n h.reads c

-- a waiting block of a checkpoint with this store and next ticket
pub record IsCheckpointBlock (store : List Cell) (n : ℕ) (b : CheckpointBlock) : Type 0 where
  pub covered : Covers (plains store) b.waiting.block.uses
  pub typed : IsWellTyped b.waiting.block
  pub delivery : IsRightDelivery store b.waiting.block b.stale b.waiting.held
  pub cause : MayHaveCause store n b.stale b.waiting.held b.cause
  pub label : is_label b.label ≡ true

-- these are waiting blocks of one, with tickets above k, each above the one before it, all below n
abbrev pub AreCheckpointBlocks : List Cell → ℕ → ℕ → List CheckpointBlock → Type 0
AreCheckpointBlocks store n k [] = Unit {0}
AreCheckpointBlocks store n k (b ∷ bs) =
    (k < b.ticket) × (b.ticket < n) × IsCheckpointBlock store n b × AreCheckpointBlocks store n b.ticket bs

-- the greatest next ticket of a checkpoint: a history after it has tickets for all of its events
abbrev pub max_next : ℕ
max_next = 4293918719

-- why a state with this next ticket can't be a checkpoint, if it can't: tickets could run out in a history after it
abbrev pub checkpoint_refused : ℕ → Option CheckpointError
checkpoint_refused next = if nat_lt max_next next then Some TicketsFull else None

-- a checkpoint
pub record IsCheckpoint (c : CheckpointView) : Type 0 where
  pub begun : 0 < c.next
  pub tickets : c.next ≤ max_next
  pub store : IsStore (plains c.store)
  pub named : Covers (plains c.store) (named_uses c.names)
  pub few : length c.blocks ≤ max_waiting
  pub blocks : AreCheckpointBlocks c.store c.next 0 c.blocks

-- the block may be added: the checkpoint with it is one
abbrev pub MayAdd : CheckpointView → CheckpointBlock → Type 0
MayAdd c b = IsCheckpoint (record c { blocks = c.blocks ++ b ∷ [] })

-- After Ok the block may be added, and is after the others. After any error the checkpoint is as it was; the error says that the block
-- can't be added only if it may not.
abbrev pub AddsBlock : CheckpointView → CheckpointBlock → Result (Unit {0}) AddError → CheckpointView → Type 0
AddsBlock old b (Ok done) new = MayAdd old b × (new ≡ record old { blocks = old.blocks ++ b ∷ [] })
AddsBlock old b (Err e) new = (e ≡ NotPossible → MayAdd old b → ⊥) × (new ≡ old)

-- events may go on from the state of a checkpoint, and all in it is well typed
abbrev pub CheckpointsArePossible : Type 0
CheckpointsArePossible =
    (c : CheckpointView) → IsCheckpoint c → IsPossible (checkpoint_state c) × IsTypedState (checkpoint_state c)

-- ---- the checkpoint of a state
-- what a last delivery brought
abbrev pub held_since : Block → Option Since → Option Held
held_since block None = None
held_since block (Some s) =
    option_map (λ v. record { reads = reads_of (under s.store_then) block.tree; verdict = v }) (verdict_on s.store_then block)

-- a waiting block: it is stale if it is neither new nor current; a state knows no causes and has no labels
abbrev pub block_of_waiter : Waiter → CheckpointBlock
block_of_waiter w =
    record {
      ticket = w.ticket;
      waiting = record { block = w.block; held = held_since w.block w.since };
      stale = not (is_new w) && not (is_current w);
      cause = None;
      label = [];
    }

-- of a state
unfoldable pub checkpoint_of : Slow → CheckpointView
checkpoint_of s = record { store = s.store; names = s.names; next = s.next; blocks = map block_of_waiter s.waiters }

-- it is a checkpoint, and from its state the same is observed, so that nobody can tell the two apart
abbrev pub CheckpointsAreUnseen : Type 0
CheckpointsAreUnseen =
    (s : Slow) → IsPossible s → IsTypedState s → s.rule ≡ Changed → s.next ≤ max_next → IsStore (plains s.store)
    → IsCheckpoint (checkpoint_of s) × (observed (checkpoint_state (checkpoint_of s)) ≡ observed s)

-- ---- the labels
-- a block with the label that it has by these
abbrev pub labelled_block : Labels → CheckpointBlock → CheckpointBlock
labelled_block labels b = record b { label = label_of b.ticket labels }

-- a checkpoint whose blocks have these labels
abbrev pub with_labels : Labels → CheckpointView → CheckpointView
with_labels labels c = record c { blocks = map (labelled_block labels) c.blocks }

-- a checkpoint whose blocks get labels stays one, of the same state
abbrev pub LabelsLeaveCheckpoints : Type 0
LabelsLeaveCheckpoints =
    (labels : Labels) (c : CheckpointView) → AreLabels labels → IsCheckpoint c
    → IsCheckpoint (with_labels labels c) × (checkpoint_state (with_labels labels c) ≡ checkpoint_state c)

-- ---- the causes
-- a block with this cause
abbrev pub caused_block : (ℕ → Option KeptCause) → CheckpointBlock → CheckpointBlock
caused_block causes b = record b { cause = causes b.ticket }

-- a checkpoint whose blocks have these causes
abbrev pub with_causes : (ℕ → Option KeptCause) → CheckpointView → CheckpointView
with_causes causes c = record c { blocks = map (caused_block causes) c.blocks }

-- each of these blocks of a checkpoint may have its cause
abbrev pub MayHaveCauses : List Cell → ℕ → (ℕ → Option KeptCause) → List CheckpointBlock → Type 0
MayHaveCauses store n causes [] = Unit {0}
MayHaveCauses store n causes (b ∷ bs) = MayHaveCause store n b.stale b.waiting.held (causes b.ticket) × MayHaveCauses store n causes bs

-- the causes that the tickets have by a table
abbrev pub causes_by : KeptCauses → ℕ → Option KeptCause
causes_by table t = kept_cause_of t table

-- each waiting block of the checkpoint may have its cause
abbrev pub MayGetCauses : (ℕ → Option KeptCause) → CheckpointView → Type 0
MayGetCauses causes c = MayHaveCauses c.store c.next causes c.blocks

-- a checkpoint whose blocks get causes that they may have stays one, of the same state
abbrev pub CausesLeaveCheckpoints : Type 0
CausesLeaveCheckpoints =
    (causes : ℕ → Option KeptCause) (c : CheckpointView) → MayGetCauses causes c → IsCheckpoint c
    → IsCheckpoint (with_causes causes c) × (checkpoint_state (with_causes causes c) ≡ checkpoint_state c)

-- ---- the labels with which a history begins
-- the label of a ticket before others, unless it is empty
abbrev pub before_labels : ℕ → List ℕ → Labels → Labels
before_labels t [] ls = ls
before_labels t (b ∷ bs) ls = (t, b ∷ bs) ∷ ls

-- the labels of these blocks
abbrev pub labels_in : List CheckpointBlock → Labels
labels_in [] = []
labels_in (b ∷ bs) = before_labels b.ticket b.label (labels_in bs)

-- the labels with which a history begins: those of its checkpoint, if it begins from one
abbrev pub first_labels : Option CheckpointView → Labels
first_labels None = []
first_labels (Some c) = labels_in c.blocks

-- the labels of the waiting blocks after a history: those with which it begins, as its events change them
abbrev pub labels_of_history : Option CheckpointView → List Event → Labels
labels_of_history checkpoint history = labels_from (first_labels checkpoint) history

-- ---- where a history begins
-- with the first values of its variables, or from a checkpoint; a rule is that of a history without one
abbrev pub started_by : StalenessRule → List Declared → Option CheckpointView → Slow
started_by rule table None = initial_state rule table
started_by rule table (Some c) = checkpoint_state c

-- the state that a history begins on, by the present rule
abbrev pub start_of : List Declared → Option CheckpointView → Slow
start_of = started_by Changed

-- a checkpoint that a history with these declared variables may begin from: they are its first variables
abbrev pub MayStart : List Declared → Option CheckpointView → Type 0
MayStart table None = Unit {0}
MayStart table (Some c) = IsCheckpoint c × ((uses : List (ℕ × Ty)) → Covers (plains (opened table)) uses → Covers (plains c.store) uses)
