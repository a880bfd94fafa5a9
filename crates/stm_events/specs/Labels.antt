-- The labels of waiting blocks: a reading of a history. A block that waits may have a label; several may share one, and no label changes
-- what the desk does. It goes when its block finishes or is cancelled.
use Rattle.std.specs.Prelude.{◌≡◌, ℕ, Bool, true, not, ◌&&◌, nat_le, nat_eq, if◌then◌else◌, List, [], ◌∷◌, ◌++◌, filter, length, codes}
use Rattle.std.specs.List.{list_all}
use Rattle.std.specs.Str.{bytes_eq}
use Rattle.stm_events.specs.declared.event.Event.{Event}
use Rattle.stm_events.specs.declared.event.What.{What}
use Rattle.stm_events.specs.declared.event.What.TheVariants.{Submitted, Installed, Finished, Cancelled, Declared as DeclaredLate, Labelled}

-- how many bytes a label may have
abbrev pub longest_label : ℕ
longest_label = 64

-- a character of ASCII that can be seen: `!` to `~`
abbrev pub is_label_byte : ℕ → Bool
is_label_byte b = nat_le 33 b && nat_le b 126

-- at most `longest_label` such characters, and not the text `-`, which says that there is no label; the empty text is one
unfoldable pub is_label : List ℕ → Bool
is_label label = list_all is_label_byte label && not (bytes_eq label (codes "-")) && nat_le (length label) longest_label

-- of some waiting blocks, by their tickets, the label; one at most of each ticket
abbrev pub Labels : Type 0
Labels = List (ℕ × List ℕ)

-- the label of a ticket: the empty text if there is none
abbrev pub label_of : ℕ → Labels → List ℕ
label_of t [] = []
label_of t (l ∷ ls) = if nat_eq t l.0 then l.1 else label_of t ls

-- the labels without that of a ticket
abbrev pub without_label : ℕ → Labels → Labels
without_label t ls = filter (λ l. not (nat_eq t l.0)) ls

-- the labels with one more at the end, unless it is empty
abbrev pub with_label : ℕ → List ℕ → Labels → Labels
with_label t [] ls = ls
with_label t (b ∷ bs) ls = ls ++ (t, b ∷ bs) ∷ []

-- the labels after a ticket gets this one, in place of the one that it had; an empty one takes it away
abbrev pub labelled : ℕ → List ℕ → Labels → Labels
labelled t label ls = with_label t label (without_label t ls)

-- each ticket has a label by these, or none
abbrev pub AreLabels : Labels → Type 0
AreLabels ls = (t : ℕ) → is_label (label_of t ls) ≡ true

-- these have the same label of each ticket, in whatever order
abbrev pub AreSameLabels : Labels → Labels → Type 0
AreSameLabels ls ls' = (t : ℕ) → label_of t ls ≡ label_of t ls'

-- the labels after an event
abbrev pub labels_after : Labels → What → Labels
labels_after ls (Submitted t block) = ls
labels_after ls (Installed t v) = ls
labels_after ls (Finished t v n stale) = without_label t ls
labels_after ls (Cancelled t) = without_label t ls
labels_after ls (DeclaredLate name kind value) = ls
labels_after ls (Labelled t label) = labelled t label ls

-- the labels after these events
abbrev pub labels_from : Labels → List Event → Labels
labels_from ls [] = ls
labels_from ls (e ∷ es) = labels_from (labels_after ls e.what) es
