-- The search for the causes of stale blocks, one step after another.
use Rattle.std.proofs.Common.{◌≡◌, ℕ, ◌+◌, ◌<◌, ◌≤◌, zero, suc, Bool, true, false, not, ◌&&◌, ◌||◌, cond, List, [], ◌∷◌, length, get_or, drop, take, Option, Some, None, refl, sym, ap, subst, ◌∙◌, arith}
use Rattle.std.specs.Prelude.{nat_eq, is_some}
use Rattle.std.specs.List.{list_any}
use Rattle.std.specs.Option.{option_or}
use Rattle.std.proofs.lemmas.List.{drop_more, drop_all, take-append-drop}
use Rattle.stm_terms.specs.declared.values.Value.{Value}
use Rattle.stm_events.specs.declared.event.Event.{Event}
use Rattle.stm_events.specs.declared.kept_cause.KeptCause.{KeptCause}
use Rattle.stm_desk.specs.ReasonsByEvents.{IsWritable, EachIsWritable}
use Rattle.stm_desk.specs.Causes.{cause_in_list, cause_listed, last_listed, cause_sought, IsSought}
use Rattle.stm_desk.proofs.Listed.{last_listed-append}

-- ---- one step and another
-- nothing was found
pub sought_none : (m : Bool) (c : Option KeptCause) → IsSought m c None m c
sought_none true c = record { missing = refl; cause = refl }
sought_none false c = record { missing = refl; cause = refl }

-- nothing was missing
sought_absent : (m : Bool) (c f : Option KeptCause) → m ≡ false → IsSought m c f m c
sought_absent true c f e = cc
sought_absent false c f e = record { missing = refl; cause = refl }

then_by : (m : Bool) (c f g : Option KeptCause) (is : Bool) (has : Option KeptCause) → IsSought (m && not (is_some f)) (cause_sought m f c) g is has → IsSought m c (option_or f g) is has
then_by true c None g is has q = q
then_by true c (Some k) g is has q = record { missing = q.missing; cause = q.cause }
then_by false c f g is has q = record { missing = q.missing; cause = q.cause }

pub sought_then : (m : Bool) (c f : Option KeptCause) (m' : Bool) (c' g : Option KeptCause) (is : Bool) (has : Option KeptCause) → IsSought m c f m' c' → IsSought m' c' g is has → IsSought m c (option_or f g) is has
sought_then m c f m' c' g is has p q = then_by m c f g is has (subst (λ (b : Bool). IsSought b (cause_sought m f c) g is has) p.missing (subst (λ (o : Option KeptCause). IsSought m' o g is has) p.cause q))

-- what is found from here on makes it what was found of all
abbrev pub GoesOn : Bool → Option KeptCause → Option KeptCause → Bool → Option KeptCause → Option KeptCause → Type 0
GoesOn was had all m c rest = (is : Bool) (has : Option KeptCause) → IsSought m c rest is has → IsSought was had all is has

-- ---- the list of a finish
in_list_more : (t : ℕ) (k : KeptCause) (x : ℕ) (xs : List ℕ) → cause_in_list t k (x ∷ xs) ≡ option_or (cond (nat_eq t x) (Some k) None) (cause_in_list t k xs)
in_list_more t k x xs = by (nat_eq t x) where
  by : (b : Bool) → cond (b || list_any (nat_eq t) xs) (Some k) None ≡ option_or (cond b (Some k) None) (cause_in_list t k xs)
  by true = refl
  by false = refl

pub list_goes_on : (t : ℕ) (k : KeptCause) (stale : List ℕ) (i x : ℕ) (was : Bool) (had all : Option KeptCause) (m : Bool) (c : Option KeptCause) (m' : Bool) (c' : Option KeptCause) → drop i stale ≡ x ∷ drop (i + 1) stale
    → IsSought m c (cond (nat_eq t x) (Some k) None) m' c' → GoesOn was had all m c (cause_in_list t k (drop i stale)) → GoesOn was had all m' c' (cause_in_list t k (drop (i + 1) stale))
list_goes_on t k stale i x was had all m c m' c' split step on = λ is has rest.
    on is has (subst (λ (o : Option KeptCause). IsSought m c o is has) (sym (ap (cause_in_list t k) split ∙ in_list_more t k x (drop (i + 1) stale)))
    (sought_then m c (cond (nat_eq t x) (Some k) None) m' c' (cause_in_list t k (drop (i + 1) stale)) is has step rest))

-- the list ends
pub list_ends : (t : ℕ) (k : KeptCause) (stale : List ℕ) (i : ℕ) (was : Bool) (had all : Option KeptCause) (m : Bool) (c : Option KeptCause) → length stale ≤ i → GoesOn was had all m c (cause_in_list t k (drop i stale)) → IsSought was had all m c
list_ends t k stale i was had all m c past on = on m c (subst (λ (xs : List ℕ). IsSought m c (cause_in_list t k xs) m c) (sym (drop_all i stale past)) (sought_none m c))

-- a set without tickets has none
pub none_missing : (keys : List ℕ) (t : ℕ) → length keys ≡ 0 → list_any (nat_eq t) keys ≡ false
none_missing [] t e = refl
none_missing (x ∷ keys) t e = absurd (omega arith)

-- ---- events
pub writable_at : (es : List Event) (k : ℕ) (e : Event) → EachIsWritable es → k < length es → e ≡ get_or es k e → IsWritable e.what
writable_at [] k e w l at = absurd (omega arith)
writable_at (x ∷ es) zero e w l at = subst (λ (y : Event). IsWritable y.what) (sym at) w.0
writable_at (x ∷ es) (suc k) e w l at = writable_at es k e w.1 (omega arith) at

-- one event more, from the end
pub sought_before : (t : ℕ) (reads : List (ℕ × Value)) (es : List Event) (i k : ℕ) (e : Event) (was : Bool) (had : Option KeptCause) (m : Bool) (c : Option KeptCause) (is : Bool) (has : Option KeptCause) → k + 1 ≡ i → k < length es → e ≡ get_or es k e
    → IsSought was had (last_listed t reads (drop i es)) m c → IsSought m c (cause_listed t reads e.what) is has → IsSought was had (last_listed t reads (drop k es)) is has
sought_before t reads es i k e was had m c is has same within at before here =
    let split : drop k es ≡ e ∷ drop i es = drop_more es k e within ∙ ap (λ (y : Event). y ∷ drop (k + 1) es) (sym at) ∙ ap (λ (j : ℕ). e ∷ drop j es) same in
    subst (λ (xs : List Event). IsSought was had (last_listed t reads xs) is has) (sym split) (sought_then was had (last_listed t reads (drop i es)) m c (cause_listed t reads e.what) is has before here)

-- where none is missing the events before don't matter
pub sought_all : (t : ℕ) (reads : List (ℕ × Value)) (es : List Event) (i : ℕ) (was : Bool) (had : Option KeptCause) (m : Bool) (c : Option KeptCause) → m ≡ false → IsSought was had (last_listed t reads (drop i es)) m c → IsSought was had (last_listed t reads es) m c
sought_all t reads es i was had m c none before =
    let whole : last_listed t reads es ≡ option_or (last_listed t reads (drop i es)) (last_listed t reads (take i es)) =
    ap (last_listed t reads) (sym (take-append-drop i es)) ∙ last_listed-append t reads (take i es) (drop i es)
    in
    subst (λ (o : Option KeptCause). IsSought was had o m c) (sym whole)
    (sought_then was had (last_listed t reads (drop i es)) m c (last_listed t reads (take i es)) m c before (sought_absent m c (last_listed t reads (take i es)) none))

-- ---- the blocks of a checkpoint
-- ---- the stale blocks
