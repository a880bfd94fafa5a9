-- Tables by tickets: what a map finds is what the list of its entries says.
use Rattle.std.proofs.Common.{◌≡◌, ℕ, Bool, true, false, cond, List, [], ◌∷◌, Option, Some, None, refl, sym, ap, ◌∙◌, arith}
use Rattle.std.specs.Prelude.{nat_eq, unwrap_or}
use Rattle.std.specs.Map.{lookup}
use Rattle.std.proofs.lemmas.Bool.Decides.{nat_tests}
use Rattle.stm_events.specs.declared.kept_cause.KeptCause.{KeptCause}
use Rattle.stm_events.specs.KeptCauses.{KeptCauses, kept_cause_of, with_cause, AreSameCauses}
use Rattle.stm_events.specs.Labels.{Labels, label_of, without_label, labelled, AreSameLabels}
use Rattle.stm_events.proofs.Labelling.{label-without, label-labelled}

pub turned : (t u : ℕ) → nat_eq t u ≡ nat_eq u t
turned t u = grind (arith, nat_tests)

label_step : (b : Bool) (label : List ℕ) (o : Option (List ℕ)) (more : List ℕ) → unwrap_or o [] ≡ more → unwrap_or (cond b (Some label) o) [] ≡ cond b label more
label_step true label o more e = refl
label_step false label o more e = e

pub label-lookup : (t : ℕ) (ls : Labels) → unwrap_or (lookup (nat_eq t) ls) [] ≡ label_of t ls
label-lookup t [] = refl
label-lookup t (l ∷ ls) = label_step (nat_eq t l.0) l.1 (lookup (nat_eq t) ls) (label_of t ls) (label-lookup t ls)

put_by : (d : Bool) (label : List ℕ) (o : Option (List ℕ)) → unwrap_or (cond d (Some label) o) [] ≡ cond d label (unwrap_or o [])
put_by true label o = refl
put_by false label o = refl

gone_by : (d : Bool) (o : Option (List ℕ)) → unwrap_or (cond d None o) [] ≡ cond d [] (unwrap_or o [])
gone_by true o = refl
gone_by false o = refl

-- a map without a ticket has the labels without it
pub label_removed : (t : ℕ) (old new : Labels) → ((u : ℕ) → lookup (nat_eq u) new ≡ cond (nat_eq t u) None (lookup (nat_eq u) old)) → AreSameLabels new (without_label t old)
label_removed t old new h = λ u.
    sym (label-lookup u new) ∙ ap (λ (o : Option (List ℕ)). unwrap_or o []) (h u) ∙ gone_by (nat_eq t u) (lookup (nat_eq u) old)
    ∙ ap (λ (b : Bool). cond b [] (unwrap_or (lookup (nat_eq u) old) [])) (turned t u) ∙ ap (cond (nat_eq u t) []) (label-lookup u old) ∙ sym (label-without t u old)

-- and with one more the labels with it
pub label_put : (t : ℕ) (label : List ℕ) (old new : Labels) → ((u : ℕ) → lookup (nat_eq u) new ≡ cond (nat_eq t u) (Some label) (lookup (nat_eq u) old)) → AreSameLabels new (labelled t label old)
label_put t label old new h = λ u.
    sym (label-lookup u new) ∙ ap (λ (o : Option (List ℕ)). unwrap_or o []) (h u) ∙ put_by (nat_eq t u) label (lookup (nat_eq u) old)
    ∙ ap (λ (b : Bool). cond b label (unwrap_or (lookup (nat_eq u) old) [])) (turned t u) ∙ ap (cond (nat_eq u t) label) (label-lookup u old) ∙ sym (label-labelled t u label old)

pub cause-lookup : (t : ℕ) (cs : KeptCauses) → lookup (nat_eq t) cs ≡ kept_cause_of t cs
cause-lookup t [] = refl
cause-lookup t (c ∷ cs) = ap (cond (nat_eq t c.0) (Some c.1)) (cause-lookup t cs)

-- a map with one more has the causes with it
pub cause_put : (t : ℕ) (cause : KeptCause) (old new : KeptCauses) → ((u : ℕ) → lookup (nat_eq u) new ≡ cond (nat_eq t u) (Some cause) (lookup (nat_eq u) old)) → AreSameCauses new (with_cause t cause old)
cause_put t cause old new h = λ u.
    sym (cause-lookup u new) ∙ h u ∙ ap (cond (nat_eq t u) (Some cause)) (cause-lookup u old)
    ∙ ap (λ (b : Bool). cond b (Some cause) (kept_cause_of u old)) (turned t u)
