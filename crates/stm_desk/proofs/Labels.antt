-- A desk has the labels that its history gives, over each call.
use Rattle.std.proofs.Common.{◌≡◌, ℕ, Bool, true, false, cond, List, [], ◌∷◌, ◌++◌, Option, refl, sym, ap, ◌∙◌}
use Rattle.std.specs.Prelude.{nat_eq}
use Rattle.stm_events.specs.declared.event.Event.{Event}
use Rattle.stm_events.specs.declared.event.What.{What}
use Rattle.stm_events.specs.declared.event.What.TheVariants.{Labelled}
use Rattle.stm_events.specs.Labels.{Labels, AreLabels, AreSameLabels, is_label, label_of, without_label, labelled, labels_after, labels_from}
use Rattle.stm_events.proofs.Labelling.{label-without, label-labelled}
use Rattle.stm_machine.specs.Checkpoints.{CheckpointView, first_labels}
use Rattle.stm_machine.specs.Machine.{event}
use Rattle.stm_machine.proofs.CheckpointLabels.{no_label_is}
use Rattle.stm_desk.specs.Kept.{HasLabels}

-- ---- each of them is a label
is_label_by : (b : Bool) (one other : List ℕ) → is_label one ≡ true → is_label other ≡ true → is_label (cond b one other) ≡ true
is_label_by true one other h g = h
is_label_by false one other h g = g

pub each_without : (t : ℕ) (ls : Labels) → AreLabels ls → AreLabels (without_label t ls)
each_without t ls a = λ u. ap is_label (label-without t u ls) ∙ is_label_by (nat_eq u t) [] (label_of u ls) no_label_is (a u)

pub each_labelled : (t : ℕ) (label : List ℕ) (ls : Labels) → AreLabels ls → is_label label ≡ true → AreLabels (labelled t label ls)
each_labelled t label ls a h = λ u. ap is_label (label-labelled t u label ls) ∙ is_label_by (nat_eq u t) label (label_of u ls) h (a u)

-- each of these labels is one if they are the same as others of which each is one
pub each_same : (ls ls' : Labels) → AreSameLabels ls ls' → AreLabels ls' → AreLabels ls
each_same ls ls' same a = λ u. ap is_label (same u) ∙ a u

-- ---- an event more
labels-push : (ls : Labels) (es : List Event) (e : Event) → labels_from ls (es ++ e ∷ []) ≡ labels_after (labels_from ls es) e.what
labels-push ls [] e = refl
labels-push ls (d ∷ es) e = labels-push (labels_after ls d.what) es e

labels-append : (ls : Labels) (es more : List Event) → labels_from ls (es ++ more) ≡ labels_from (labels_from ls es) more
labels-append ls [] more = refl
labels-append ls (d ∷ es) more = labels-append (labels_after ls d.what) es more

module _ (checkpoint : Option CheckpointView) (history : List Event) (held : Labels) (k : HasLabels checkpoint history held) where
  abbrev given : Labels
  given = labels_from (first_labels checkpoint) history

  after : (client : ℕ) (what : What) (u : ℕ) → label_of u (labels_after given what) ≡ label_of u (labels_from (first_labels checkpoint) (history ++ event client what ∷ []))
  after client what u = sym (ap (label_of u) (labels-push (first_labels checkpoint) history (event client what)))

  -- one that changes no label
  pub labels_stay : (client : ℕ) (what : What) → labels_after given what ≡ given → HasLabels checkpoint (history ++ event client what ∷ []) held
  labels_stay client what e = record { same = λ u. k.same u ∙ sym (ap (label_of u) e) ∙ after client what u; each = k.each }

  each_left : (t : ℕ) (left : Labels) → AreSameLabels left (without_label t held) → AreLabels left
  each_left t left is = each_same left (without_label t held) is (each_without t held k.each)

  -- one by which a block waits no more
  pub label_goes : (client : ℕ) (what : What) (t : ℕ) (left : Labels) → AreSameLabels left (without_label t held) → labels_after given what ≡ without_label t given → HasLabels checkpoint (history ++ event client what ∷ []) left
  label_goes client what t left is e = record {
    same = λ u. is u ∙ label-without t u held ∙ ap (λ (x : List ℕ). cond (nat_eq u t) [] x) (k.same u) ∙ sym (label-without t u given) ∙ sym (ap (label_of u) e) ∙ after client what u;
    each = each_left t left is;
  }

  -- one that gives a label
  pub label_comes : (client t : ℕ) (label : List ℕ) (left : Labels) → AreSameLabels left (labelled t label held) → is_label label ≡ true → HasLabels checkpoint (history ++ event client (Labelled t label) ∷ []) left
  label_comes client t label left is h = record {
    same = λ u. is u ∙ label-labelled t u label held ∙ ap (λ (x : List ℕ). cond (nat_eq u t) label x) (k.same u) ∙ sym (label-labelled t u label given) ∙ after client (Labelled t label) u;
    each = each_same left (labelled t label held) is (each_labelled t label held k.each h);
  }

  -- a submission and a delivery
  pub labels_stay_twice : (client : ℕ) (a b : What) → labels_after given a ≡ given → labels_after given b ≡ given → HasLabels checkpoint (history ++ event client a ∷ event client b ∷ []) held
  labels_stay_twice client a b e f =
      let two : labels_from (first_labels checkpoint) (history ++ event client a ∷ event client b ∷ []) ≡ given =
      labels-append (first_labels checkpoint) history (event client a ∷ event client b ∷ []) ∙ ap (λ (ls : Labels). labels_after ls b) e ∙ f in
      record { same = λ u. k.same u ∙ sym (ap (label_of u) two); each = k.each }

  -- a submission, a delivery and a finish
  pub label_goes_at_once : (client : ℕ) (a b c : What) (t : ℕ) (left : Labels) → AreSameLabels left (without_label t held) → labels_after given a ≡ given → labels_after given b ≡ given → labels_after given c ≡ without_label t given
      → HasLabels checkpoint (history ++ event client a ∷ event client b ∷ event client c ∷ []) left
  label_goes_at_once client a b c t left is e f g =
      let three : labels_from (first_labels checkpoint) (history ++ event client a ∷ event client b ∷ event client c ∷ []) ≡ without_label t given =
      labels-append (first_labels checkpoint) history (event client a ∷ event client b ∷ event client c ∷ []) ∙ ap (λ (ls : Labels). labels_after (labels_after ls b) c) e ∙ ap (λ (ls : Labels). labels_after ls c) f ∙ g in
      record {
        same = λ u. is u ∙ label-without t u held ∙ ap (λ (x : List ℕ). cond (nat_eq u t) [] x) (k.same u) ∙ sym (label-without t u given) ∙ sym (ap (label_of u) three);
        each = each_left t left is;
      }
