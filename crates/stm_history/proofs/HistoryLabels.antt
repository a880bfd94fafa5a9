-- The labels with which a history begins, and those after it, event by event.
use Rattle.std.proofs.Common.{◌≡◌, ℕ, zero, suc, ◌<◌, false, cond, List, [], ◌∷◌, ◌++◌, take, refl, sym, ap, ◌∙◌, subst, arith}
use Rattle.std.specs.Prelude.{nat_eq}
use Rattle.std.proofs.lemmas.Bool.Decides.{nat_tests}
use Rattle.stm_store.specs.declared.cell.Cell.{Cell}
use Rattle.stm_events.specs.declared.event.Event.{Event}
use Rattle.stm_events.specs.declared.event.What.{What}
use Rattle.stm_events.specs.declared.event.What.TheVariants.{Submitted, Installed, Finished, Cancelled, Declared as DeclaredLate, Labelled}
use Rattle.stm_events.specs.Labels.{AreSameLabels, Labels, label_of, labelled, labels_after, labels_from, with_label, without_label}
use Rattle.stm_events.proofs.Labelling.{label-labelled, label-without}
use Rattle.stm_machine.specs.declared.checkpoint.CheckpointBlock.{CheckpointBlock}
use Rattle.stm_machine.specs.Checkpoints.{AreCheckpointBlocks, before_labels, labels_in}

-- ---- tables with the same labels have the same labels after the same events
same_without : (t : ℕ) (ls ls' : Labels) → AreSameLabels ls ls' → AreSameLabels (without_label t ls) (without_label t ls')
same_without t ls ls' h = λ u. label-without t u ls ∙ ap (cond (nat_eq u t) []) (h u) ∙ sym (label-without t u ls')

same_labelled : (t : ℕ) (label : List ℕ) (ls ls' : Labels) → AreSameLabels ls ls' → AreSameLabels (labelled t label ls) (labelled t label ls')
same_labelled t label ls ls' h = λ u. label-labelled t u label ls ∙ ap (cond (nat_eq u t) label) (h u) ∙ sym (label-labelled t u label ls')

same_after : (what : What) (ls ls' : Labels) → AreSameLabels ls ls' → AreSameLabels (labels_after ls what) (labels_after ls' what)
same_after (Submitted t block) ls ls' h = h
same_after (Installed t v) ls ls' h = h
same_after (Finished t v n stale) ls ls' h = same_without t ls ls' h
same_after (Cancelled t) ls ls' h = same_without t ls ls' h
same_after (DeclaredLate name kind value) ls ls' h = h
same_after (Labelled t label) ls ls' h = same_labelled t label ls ls' h

pub same_from : (history : List Event) (ls ls' : Labels) → AreSameLabels ls ls' → AreSameLabels (labels_from ls history) (labels_from ls' history)
same_from [] ls ls' h = h
same_from (e ∷ history) ls ls' h = same_from history (labels_after ls e.what) (labels_after ls' e.what) (same_after e.what ls ls' h)

pub labels_push : (ls : Labels) (history : List Event) (e : Event) → labels_from ls (history ++ e ∷ []) ≡ labels_after (labels_from ls history) e.what
labels_push ls [] e = refl
labels_push ls (d ∷ history) e = labels_push (labels_after ls d.what) history e

-- with one event more
pub one_event_more : (ls new now : Labels) (front whole : List Event) (e : Event) → AreSameLabels new (labels_after now e.what) → AreSameLabels now (labels_from ls front) → whole ≡ front ++ e ∷ [] → AreSameLabels new (labels_from ls whole)
one_event_more ls new now front whole e a b w = λ u. a u ∙ same_after e.what now (labels_from ls front) b u ∙ ap (label_of u) (sym (labels_push ls front e) ∙ ap (labels_from ls) (sym w))

-- ---- the blocks of a checkpoint, whose tickets rise
first_ones : (store : List Cell) (n k m : ℕ) (bs : List CheckpointBlock) → AreCheckpointBlocks store n k bs → AreCheckpointBlocks store n k (take m bs)
first_ones store n k zero bs a = tt
first_ones store n k (suc m) [] a = tt
first_ones store n k (suc m) (b ∷ bs) a = (a.0, a.1, a.2, first_ones store n b.ticket m bs a.3)

above : (store : List Cell) (n k : ℕ) (bs : List CheckpointBlock) (b : CheckpointBlock) → AreCheckpointBlocks store n k (bs ++ b ∷ []) → k < b.ticket
above store n k [] b a = a.0
above store n k (x ∷ bs) b a = let l : x.ticket < b.ticket = above store n x.ticket bs b a.3 in omega (arith, a.0, l)

without_before : (t u : ℕ) (text : List ℕ) (ls : Labels) → nat_eq t u ≡ false → without_label t ls ≡ ls → without_label t (before_labels u text ls) ≡ before_labels u text ls
without_before t u [] ls e f = f
without_before t u (c ∷ cs) ls e f = rw e (ap (λ (x : Labels). (u, c ∷ cs) ∷ x) f)

-- no earlier block has the ticket
none_before : (store : List Cell) (n k : ℕ) (bs : List CheckpointBlock) (b : CheckpointBlock) → AreCheckpointBlocks store n k (bs ++ b ∷ []) → without_label b.ticket (labels_in bs) ≡ labels_in bs
none_before store n k [] b a = refl
none_before store n k (x ∷ bs) b a =
    let l : x.ticket < b.ticket = above store n x.ticket bs b a.3 in
    let other : nat_eq b.ticket x.ticket ≡ false = grind (arith, nat_tests) in
    without_before b.ticket x.ticket x.label (labels_in bs) other (none_before store n x.ticket bs b a.3)

with_before : (u t : ℕ) (text label : List ℕ) (ls : Labels) → with_label t label (before_labels u text ls) ≡ before_labels u text (with_label t label ls)
with_before u t [] label ls = refl
with_before u t (c ∷ cs) [] ls = refl
with_before u t (c ∷ cs) (d ∷ ds) ls = refl

only_one : (t : ℕ) (label : List ℕ) → with_label t label [] ≡ before_labels t label []
only_one t [] = refl
only_one t (c ∷ cs) = refl

with_last : (bs : List CheckpointBlock) (b : CheckpointBlock) → with_label b.ticket b.label (labels_in bs) ≡ labels_in (bs ++ b ∷ [])
with_last [] b = only_one b.ticket b.label
with_last (x ∷ bs) b = with_before x.ticket b.ticket x.label b.label (labels_in bs) ∙ ap (before_labels x.ticket x.label) (with_last bs b)

-- with one block more: the labels of those before it, and its own
one_more : (store : List Cell) (n m : ℕ) (bs front : List CheckpointBlock) (b : CheckpointBlock) → AreCheckpointBlocks store n 0 bs → take m bs ≡ front ++ b ∷ []
    → labelled b.ticket b.label (labels_in front) ≡ labels_in (front ++ b ∷ [])
one_more store n m bs front b a e =
    let rise = subst (AreCheckpointBlocks store n 0) e (first_ones store n 0 m bs a) in
    ap (with_label b.ticket b.label) (none_before store n 0 front b rise) ∙ with_last front b

pub one_block_more : (store : List Cell) (n m : ℕ) (bs front : List CheckpointBlock) (b : CheckpointBlock) (new now : Labels) (label : List ℕ) → AreCheckpointBlocks store n 0 bs → take m bs ≡ front ++ b ∷ []
    → AreSameLabels new (labelled b.ticket label now) → label ≡ b.label → AreSameLabels now (labels_in front) → AreSameLabels new (labels_in (take m bs))
one_block_more store n m bs front b new now label a e given own before = λ u.
    given u ∙ ap (λ (x : List ℕ). label_of u (labelled b.ticket x now)) own ∙ same_labelled b.ticket b.label now (labels_in front) before u
    ∙ ap (label_of u) (one_more store n m bs front b a e ∙ ap (λ (x : List CheckpointBlock). labels_in x) (sym e))
