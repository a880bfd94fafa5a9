-- What a label leaves as it is, and who has one.
use Rattle.std.proofs.Common.{◌≡◌, ℕ, Bool, true, false, not, cond, List, [], ◌∷◌, ◌++◌, Option, Some, None, refl, sym, ap, ◌∙◌, arith, eqb-true}
use Rattle.std.specs.Prelude.{nat_eq, option_map, IsSomeAnd}
use Rattle.std.proofs.lemmas.Bool.Decides.{nat_tests}
use Rattle.stm_events.specs.declared.event.What.{What}
use Rattle.stm_events.specs.declared.event.What.TheVariants.{Submitted, Installed, Finished, Cancelled, Declared as DeclaredLate, Labelled}
use Rattle.stm_events.specs.Labels.{Labels, is_label, label_of, without_label, labelled, labels_after}
use Rattle.stm_events.specs.Labelling.{LabelsChangeNothing, AreOfWaiting, LabelsAreOfWaiting}
use Rattle.stm_events.specs.SlowDesk.{Waiter, Slow, waking, find_waiter, without_waiter, with_delivery, after_writes, after, Allows}
use Rattle.stm_events.specs.States.{IsPossible}
use Rattle.stm_events.proofs.Possible.{possible_after}
use Rattle.stm_events.proofs.Rising.{waiter_without, waiter_delivered, waiter_marks, waiter_push}

pub labels_change_nothing : LabelsChangeNothing
labels_change_nothing s t label = refl

-- ---- the label of a ticket after a change of the labels
unlike : (t u x : ℕ) → nat_eq u t ≡ true → nat_eq t x ≡ false → nat_eq u x ≡ false
unlike t u x h e = grind (arith, nat_tests)

differ : (t u x : ℕ) → nat_eq u t ≡ false → nat_eq t x ≡ true → nat_eq u x ≡ false
differ t u x h e = grind (arith, nat_tests)

without_step : (t u : ℕ) (b d : Bool) (l : ℕ × List ℕ) (ls : Labels) → nat_eq u t ≡ d → nat_eq t l.0 ≡ b → label_of u (without_label t ls) ≡ cond d [] (label_of u ls)
    → label_of u (cond (not b) (l ∷ without_label t ls) (without_label t ls)) ≡ cond d [] (cond (nat_eq u l.0) l.1 (label_of u ls))
without_step t u true true l ls h e more = more
without_step t u true false l ls h e more = rw (differ t u l.0 h e) more
without_step t u false true l ls h e more = rw (unlike t u l.0 h e) more
without_step t u false false l ls h e more = ap (λ (x : List ℕ). cond (nat_eq u l.0) l.1 x) more

none_left : (d : Bool) → ◌≡◌ {A = List ℕ} [] (cond d [] [])
none_left true = refl
none_left false = refl

pub label-without : (t u : ℕ) (ls : Labels) → label_of u (without_label t ls) ≡ cond (nat_eq u t) [] (label_of u ls)
label-without t u [] = none_left (nat_eq u t)
label-without t u (l ∷ ls) = without_step t u (nat_eq t l.0) (nat_eq u t) l ls refl refl (label-without t u ls)

with_step : (t u : ℕ) (b d : Bool) (label : List ℕ) (l : ℕ × List ℕ) (ls : Labels) → nat_eq u t ≡ d → nat_eq t l.0 ≡ b → label_of u (without_label t ls ++ (t, label) ∷ []) ≡ cond d label (label_of u ls)
    → label_of u (cond (not b) (l ∷ without_label t ls) (without_label t ls) ++ (t, label) ∷ []) ≡ cond d label (cond (nat_eq u l.0) l.1 (label_of u ls))
with_step t u true true label l ls h e more = more
with_step t u true false label l ls h e more = rw (differ t u l.0 h e) more
with_step t u false true label l ls h e more = rw (unlike t u l.0 h e) more
with_step t u false false label l ls h e more = ap (λ (x : List ℕ). cond (nat_eq u l.0) l.1 x) more

label-with : (t u : ℕ) (label : List ℕ) (ls : Labels) → label_of u (without_label t ls ++ (t, label) ∷ []) ≡ cond (nat_eq u t) label (label_of u ls)
label-with t u label [] = refl
label-with t u label (l ∷ ls) = with_step t u (nat_eq t l.0) (nat_eq u t) label l ls refl refl (label-with t u label ls)

pub label-labelled : (t u : ℕ) (label : List ℕ) (ls : Labels) → label_of u (labelled t label ls) ≡ cond (nat_eq u t) label (label_of u ls)
label-labelled t u [] ls = label-without t u ls
label-labelled t u (b ∷ bs) ls = label-with t u (b ∷ bs) ls

-- ---- who has a label
unless_given : (d : Bool) (v : Waiter) (o : Option Waiter) → cond d (Some v) o ≡ None → o ≡ None
unless_given true v o e = cc
unless_given false v o e = e

unmapped : (f : Waiter → Waiter) (o : Option Waiter) → option_map f o ≡ None → o ≡ None
unmapped f None e = refl
unmapped f (Some w) e = cc

undelivered : (d : Bool) (f : Waiter → Waiter) (o : Option Waiter) → cond d (option_map f o) o ≡ None → o ≡ None
undelivered true f o e = unmapped f o e
undelivered false f o e = e

gone : (d : Bool) (o : Option Waiter) (label : List ℕ) → (o ≡ None → label ≡ []) → cond d None o ≡ None → cond d [] label ≡ []
gone true o label h e = refl
gone false o label h e = h e

-- the ticket of a label that is given waits
waits : (P : Waiter → Type 0) (o : Option Waiter) → IsSomeAnd o P → o ≡ None → ⊥
waits P None a e = a
waits P (Some w) a e = cc

given : (d : Bool) (t u : ℕ) (P : Waiter → Type 0) (label old : List ℕ) (ws : List Waiter) → nat_eq u t ≡ d → IsSomeAnd (find_waiter t ws) P → find_waiter u ws ≡ None → old ≡ [] → cond d label old ≡ []
given true t u P label old ws h a e more =
    let same : u ≡ t = eqb-true u t h in absurd (waits P (find_waiter t ws) a (ap (λ (x : ℕ). find_waiter x ws) (sym same) ∙ e))
given false t u P label old ws h a e more = more

after_without : (s : Slow) (labels : Labels) (t u : ℕ) → IsPossible s → AreOfWaiting s labels → find_waiter u (without_waiter t s.waiters) ≡ None → label_of u (without_label t labels) ≡ []
after_without s labels t u p k e =
    label-without t u labels ∙ gone (nat_eq u t) (find_waiter u s.waiters) (label_of u labels) (k u) (sym (waiter_without t u s.next 0 s.waiters p.rising) ∙ e)

waiting_after : (s : Slow) (d : What) (labels : Labels) → IsPossible s → AreOfWaiting s labels → Allows s d → AreOfWaiting (after s d) (labels_after labels d)
waiting_after s (Submitted t b) labels p k a = λ u e.
    let v : Waiter = record { ticket = t; block = b; since = None } in
    k u (unless_given (nat_eq u t) v (find_waiter u s.waiters) (sym (waiter_push u s.next 0 v s.waiters a.0 p.rising) ∙ e))
waiting_after s (Installed t v) labels p k a = λ u e.
    k u (undelivered (nat_eq u t) (with_delivery s.store) (find_waiter u s.waiters) (sym (waiter_delivered t u s.store s.waiters) ∙ e))
waiting_after s (Finished t v n l) labels p k a = λ u e.
    let woken = waking s.rule s.store v in
    after_without s labels t u p k (unmapped (after_writes woken) (find_waiter u (without_waiter t s.waiters)) (sym (waiter_marks u woken (without_waiter t s.waiters)) ∙ e))
waiting_after s (Cancelled t) labels p k a = λ u e. after_without s labels t u p k e
waiting_after s (DeclaredLate name kind value) labels p k a = k
waiting_after s (Labelled t label) labels p k a = λ u e.
    label-labelled t u label labels ∙ given (nat_eq u t) t u (λ w. is_label label ≡ true) label (label_of u labels) s.waiters refl a e (k u e)

pub labels_are_of_waiting : LabelsAreOfWaiting
labels_are_of_waiting s labels [] p k l = k
labels_are_of_waiting s labels (e ∷ es) p k l =
    labels_are_of_waiting (after s e.what) (labels_after labels e.what) es (possible_after s e.what p l.0.what) (waiting_after s e.what labels p k l.0.what) l.1
