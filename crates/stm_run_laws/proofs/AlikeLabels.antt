-- Labels that are the same of each ticket stay so over an event and over a checkpoint.
use Rattle.std.proofs.Common.{◌≡◌, ℕ, cond, List, [], ◌∷◌, ◌++◌, refl, sym, ap, ◌∙◌}
use Rattle.std.specs.Prelude.{nat_eq}
use Rattle.stm_events.specs.declared.event.Event.{Event}
use Rattle.stm_events.specs.declared.event.What.{What}
use Rattle.stm_events.specs.declared.event.What.TheVariants.{Submitted, Installed, Finished, Cancelled, Declared as DeclaredLate, Labelled}
use Rattle.stm_events.specs.Labels.{Labels, AreSameLabels, without_label, labelled, labels_after, labels_from}
use Rattle.stm_events.proofs.Labelling.{label-without, label-labelled}
use Rattle.stm_desk.specs.DeskView.{DeskView, state_of, labels_of}
use Rattle.stm_desk.specs.Checkpointed.{causes_of, checkpointed}
use Rattle.stm_desk.proofs.CheckpointLabels.{labels_wait, labels_caused}
use Rattle.stm_commands.specs.OpenDesk.{HandedOut}
use Rattle.stm_run.proofs.StandingDesk.{Stands}

-- ---- an event more
pub labels_later : (ls : Labels) (es : List Event) (e : Event) → labels_from ls (es ++ e ∷ []) ≡ labels_after (labels_from ls es) e.what
labels_later ls [] e = refl
labels_later ls (x ∷ es) e = labels_later (labels_after ls x.what) es e

without_alike : (t : ℕ) (ls ls' : Labels) → AreSameLabels ls ls' → AreSameLabels (without_label t ls) (without_label t ls')
without_alike t ls ls' k = λ u. label-without t u ls ∙ ap (λ (x : List ℕ). cond (nat_eq u t) [] x) (k u) ∙ sym (label-without t u ls')

labelled_alike : (t : ℕ) (label : List ℕ) (ls ls' : Labels) → AreSameLabels ls ls' → AreSameLabels (labelled t label ls) (labelled t label ls')
labelled_alike t label ls ls' k = λ u. label-labelled t u label ls ∙ ap (λ (x : List ℕ). cond (nat_eq u t) label x) (k u) ∙ sym (label-labelled t u label ls')

pub after_alike : (what : What) (ls ls' : Labels) → AreSameLabels ls ls' → AreSameLabels (labels_after ls what) (labels_after ls' what)
after_alike (Submitted t block) ls ls' k = k
after_alike (Installed t v) ls ls' k = k
after_alike (Finished t v n stale) ls ls' k = without_alike t ls ls' k
after_alike (Cancelled t) ls ls' k = without_alike t ls ls' k
after_alike (DeclaredLate name kind value) ls ls' k = k
after_alike (Labelled t label) ls ls' k = labelled_alike t label ls ls' k

-- ---- a checkpoint
-- so each block has the label that it had
pub labels_stay : (d : DeskView) (jobs : List HandedOut) → Stands d jobs → AreSameLabels (labels_of (checkpointed d)) (labels_of d)
labels_stay d jobs k = λ t. labels_caused (state_of d) (labels_of d) (causes_of d) t (labels_wait d.table d.checkpoint d.history k.begins k.legal.each)
