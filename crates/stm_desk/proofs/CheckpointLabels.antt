-- A desk has the labels that its history gives also after a checkpoint.
use Rattle.std.proofs.Common.{◌≡◌, ℕ, Bool, true, false, ◌||◌, cond, List, [], ◌∷◌, map, Option, Some, None, refl, sym, ap, ◌∙◌}
use Rattle.std.specs.Prelude.{nat_eq, is_some, IsSomeAnd}
use Rattle.stm_store.specs.declared.cell.Cell.{Cell}
use Rattle.stm_store.specs.Tables.{Declared}
use Rattle.stm_events.specs.declared.event.Event.{Event}
use Rattle.stm_events.specs.declared.event.What.{What}
use Rattle.stm_events.specs.declared.event.What.TheVariants.{Submitted, Installed, Finished, Cancelled, Declared as DeclaredLate, Labelled}
use Rattle.stm_events.specs.declared.kept_cause.KeptCause.{KeptCause}
use Rattle.stm_events.specs.Labels.{Labels, AreLabels, AreSameLabels, is_label, label_of, labels_after, labels_from}
use Rattle.stm_events.specs.Labelling.{AreOfWaiting}
use Rattle.stm_events.specs.SlowDesk.{Waiter, Slow, find_waiter, after, Allows, state_from, LegalFrom}
use Rattle.stm_events.proofs.Labelling.{labels_are_of_waiting}
use Rattle.stm_machine.specs.declared.checkpoint.CheckpointBlock.{CheckpointBlock}
use Rattle.stm_machine.specs.Checkpoints.{CheckpointView, waiter_of, block_of_waiter, checkpoint_of, labelled_block, with_labels, caused_block, with_causes, before_labels, labels_in, first_labels, AreCheckpointBlocks, start_of, MayStart}
use Rattle.stm_machine.proofs.CheckpointLabels.{no_label_is, is_there, label-in_labelled}
use Rattle.stm_desk.specs.Kept.{HasLabels}
use Rattle.stm_desk.proofs.Labels.{each_without, each_labelled, each_same}
use Rattle.stm_desk.proofs.Starts.{start_possible}

-- ---- only waiting blocks have labels
none_before : (t u : ℕ) (b : Bool) (label : List ℕ) (rest : Labels) (w : Waiter) (o : Option Waiter) → nat_eq t u ≡ b → (o ≡ None → label_of t rest ≡ []) → cond b (Some w) o ≡ None → label_of t (before_labels u label rest) ≡ []
none_before t u true label rest w o e more none = cc
none_before t u false [] rest w o e more none = more none
none_before t u false (x ∷ xs) rest w o e more none = rw e (more none)

none_in : (store : List Cell) (bs : List CheckpointBlock) (t : ℕ) → find_waiter t (map (waiter_of store) bs) ≡ None → label_of t (labels_in bs) ≡ []
none_in store [] t none = refl
none_in store (b ∷ bs) t none = none_before t b.ticket (nat_eq t b.ticket) b.label (labels_in bs) (waiter_of store b) (find_waiter t (map (waiter_of store) bs)) refl (none_in store bs t) none

first_wait : (table : List Declared) (o : Option CheckpointView) → AreOfWaiting (start_of table o) (first_labels o)
first_wait table None = λ t none. refl
first_wait table (Some c) = none_in c.store c.blocks

pub labels_wait : (table : List Declared) (o : Option CheckpointView) (history : List Event) → MayStart table o → LegalFrom (start_of table o) history → AreOfWaiting (state_from (start_of table o) history) (labels_from (first_labels o) history)
labels_wait table o history m l = labels_are_of_waiting (start_of table o) (first_labels o) history (start_possible table o m) (first_wait table o) l

-- ---- the same labels make the same checkpoint
same_blocks : (ls ls' : Labels) (bs : List CheckpointBlock) → AreSameLabels ls ls' → map (labelled_block ls) bs ≡ map (labelled_block ls') bs
same_blocks ls ls' [] a = refl
same_blocks ls ls' (b ∷ bs) a =
    ap (λ (x : List ℕ). (record b { label = x }) ∷ map (labelled_block ls) bs) (a b.ticket) ∙ ap (λ (xs : List CheckpointBlock). labelled_block ls' b ∷ xs) (same_blocks ls ls' bs a)

pub same_checkpoint : (ls ls' : Labels) (c : CheckpointView) → AreSameLabels ls ls' → with_labels ls c ≡ with_labels ls' c
same_checkpoint ls ls' c a = ap (λ (bs : List CheckpointBlock). record c { blocks = bs }) (same_blocks ls ls' c.blocks a)

-- ---- and they are found in it again
there_by : (b : Bool) (w : Waiter) (o : Option Waiter) (any : Bool) → any ≡ is_some o → (b || any) ≡ is_some (cond b (Some w) o)
there_by true w o any e = refl
there_by false w o any e = e

there_is : (t : ℕ) (ws : List Waiter) → is_there t (map block_of_waiter ws) ≡ is_some (find_waiter t ws)
there_is t [] = refl
there_is t (w ∷ ws) = there_by (nat_eq t w.ticket) w (find_waiter t ws) (is_there t (map block_of_waiter ws)) (there_is t ws)

blocks_there : (t : ℕ) (s : Slow) → is_there t (checkpoint_of s).blocks ≡ is_some (find_waiter t s.waiters)
unfolding checkpoint_of
blocks_there t s = there_is t s.waiters

found_again : (o : Option Waiter) (label : List ℕ) → (o ≡ None → label ≡ []) → cond (is_some o) label [] ≡ label
found_again None label h = sym (h refl)
found_again (Some w) label h = refl

labels_again : (s : Slow) (ls : Labels) (t : ℕ) → AreOfWaiting s ls → label_of t (first_labels (Some (with_labels ls (checkpoint_of s)))) ≡ label_of t ls
labels_again s ls t wait =
    label-in_labelled t ls (checkpoint_of s).blocks ∙ ap (λ (b : Bool). cond b (label_of t ls) []) (blocks_there t s) ∙ found_again (find_waiter t s.waiters) (label_of t ls) (wait t)

-- causes change no label
caused_labels : (causes : ℕ → Option KeptCause) (bs : List CheckpointBlock) → labels_in (map (caused_block causes) bs) ≡ labels_in bs
caused_labels causes [] = refl
caused_labels causes (b ∷ bs) = ap (before_labels b.ticket b.label) (caused_labels causes bs)

pub labels_caused : (s : Slow) (ls : Labels) (causes : ℕ → Option KeptCause) (t : ℕ) → AreOfWaiting s ls → label_of t (first_labels (Some (with_causes causes (with_labels ls (checkpoint_of s))))) ≡ label_of t ls
labels_caused s ls causes t wait = ap (label_of t) (caused_labels causes (with_labels ls (checkpoint_of s)).blocks) ∙ labels_again s ls t wait

-- so they are kept over a checkpoint
pub labels_kept : (s : Slow) (ls held : Labels) (causes : ℕ → Option KeptCause) (o : Option CheckpointView) (history : List Event) (c : CheckpointView) → HasLabels o history held → labels_from (first_labels o) history ≡ ls → AreOfWaiting s ls
    → c ≡ with_causes causes (with_labels ls (checkpoint_of s)) → HasLabels (Some c) [] held
labels_kept s ls held causes o history c k given wait e = record {
  same = λ t. k.same t ∙ ap (label_of t) given ∙ sym (labels_caused s ls causes t wait) ∙ ap (λ (x : CheckpointView). label_of t (first_labels (Some x))) (sym e);
  each = k.each;
}

-- ---- a history gives labels alone
before_by : (b : Bool) (label other : List ℕ) → is_label label ≡ true → is_label other ≡ true → is_label (cond b label other) ≡ true
before_by true label other h g = h
before_by false label other h g = g

each_before : (t : ℕ) (label : List ℕ) (rest : Labels) → is_label label ≡ true → AreLabels rest → AreLabels (before_labels t label rest)
each_before t [] rest h a = a
each_before t (b ∷ bs) rest h a = λ u. before_by (nat_eq u t) (b ∷ bs) (label_of u rest) h (a u)

each_in : (store : List Cell) (n k : ℕ) (bs : List CheckpointBlock) → AreCheckpointBlocks store n k bs → AreLabels (labels_in bs)
each_in store n k [] a = λ u. no_label_is
each_in store n k (b ∷ bs) a = each_before b.ticket b.label (labels_in bs) a.2.label (each_in store n b.ticket bs a.3)

each_first : (table : List Declared) (o : Option CheckpointView) → MayStart table o → AreLabels (first_labels o)
each_first table None m = λ u. no_label_is
each_first table (Some c) m = each_in c.store c.next 0 c.blocks m.0.blocks

allowed_label : (o : Option Waiter) (label : List ℕ) → IsSomeAnd o (λ w. is_label label ≡ true) → is_label label ≡ true
allowed_label None label a = absurd a
allowed_label (Some w) label a = a

each_after : (s : Slow) (what : What) (ls : Labels) → AreLabels ls → Allows s what → AreLabels (labels_after ls what)
each_after s (Submitted t block) ls k a = k
each_after s (Installed t v) ls k a = k
each_after s (Finished t v n stale) ls k a = each_without t ls k
each_after s (Cancelled t) ls k a = each_without t ls k
each_after s (DeclaredLate name kind value) ls k a = k
each_after s (Labelled t label) ls k a = each_labelled t label ls k (allowed_label (find_waiter t s.waiters) label a)

each_from : (s : Slow) (es : List Event) (ls : Labels) → AreLabels ls → LegalFrom s es → AreLabels (labels_from ls es)
each_from s [] ls k l = k
each_from s (e ∷ es) ls k l = each_from (after s e.what) es (labels_after ls e.what) (each_after s e.what ls k l.0.what) l.1

-- so these may be kept
pub labels_begin : (table : List Declared) (o : Option CheckpointView) (history : List Event) (held : Labels) → MayStart table o → LegalFrom (start_of table o) history → AreSameLabels held (labels_from (first_labels o) history) → HasLabels o history held
labels_begin table o history held m l e = record {
  same = e;
  each = each_same held (labels_from (first_labels o) history) e (each_from (start_of table o) history (first_labels o) (each_first table o m) l);
}
