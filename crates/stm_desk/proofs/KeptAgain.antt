-- A cause that a checkpoint keeps is the one that it was.
use Rattle.std.proofs.Common.{◌≡◌, ℕ, ◌<◌, ◌≤◌, Bool, true, false, not, ◌&&◌, cond, List, [], ◌∷◌, ◌++◌, map, Option, Some, None, refl, sym, ap, subst, ◌∙◌, arith, eqb-true}
use Rattle.std.specs.Prelude.{nat_eq}
use Rattle.std.proofs.lemmas.Bool.Decides.{nat_tests}
use Rattle.std.proofs.lemmas.Bool.{and_parts}
use Rattle.stm_terms.specs.declared.values.Value.{Value}
use Rattle.stm_terms.specs.Changes.{Variables, find}
use Rattle.stm_terms.specs.Typing.{AllAbove, Rising}
use Rattle.stm_terms.specs.Value.{same_value}
use Rattle.stm_eval.specs.Messages.{Agrees}
use Rattle.stm_machine.specs.Checkpoints.{differs_from, all_differ}
use Rattle.stm_desk.specs.declared.reason.Change.{Change}
use Rattle.stm_desk.specs.Reasons.{change_to, changes_from}
use Rattle.stm_desk.proofs.ReadValues.{AreRead}

-- the values that changes left
abbrev pub lefts : List Change → List (ℕ × Value)
lefts cs = map (λ x. (x.variable, x.left)) cs

other : (i j : ℕ) → i < j → nat_eq i j ≡ false
other i j l = grind (arith, nat_tests)

other_turned : (i j : ℕ) → i < j → nat_eq j i ≡ false
other_turned i j l = grind (arith, nat_tests)

itself : (i : ℕ) → nat_eq i i ≡ true
itself i = grind (arith, nat_tests)

-- ---- lists that ascend
find_above : (n i : ℕ) (es : List (ℕ × Value)) → i ≤ n → AllAbove n es → find i es ≡ None
find_above n i [] l a = refl
find_above n i (e ∷ es) l a = let b : n < e.0 = a.0 in rw (other_turned i e.0 (omega arith)) (find_above n i es l a.1)

above_more : (m n : ℕ) (es : List (ℕ × Value)) → m ≤ n → AllAbove n es → AllAbove m es
above_more m n [] l a = tt
above_more m n (e ∷ es) l a = let b : n < e.0 = a.0 in (omega arith, above_more m n es l a.1)

-- each of the reads is found among them
read_past : (n : ℕ) (v : Value) (es rs : List (ℕ × Value)) → AllAbove n es → AreRead es (λ i. find i rs) → AreRead es (λ i. find i ((n, v) ∷ rs))
read_past n v [] rs a h = tt
read_past n v (e ∷ es) rs a h = (ap (λ (b : Bool). cond b (Some v) (find e.0 rs)) (other n e.0 a.0) ∙ h.0, read_past n v es rs a.1 h.1)

are_among : (rs : List (ℕ × Value)) → Rising rs → AreRead rs (λ i. find i rs)
are_among [] r = tt
are_among (e ∷ rs) r = (ap (λ (b : Bool). cond b (Some e.1) (find e.0 rs)) (itself e.0), read_past e.0 e.1 rs rs r.0 (are_among rs r.1))

-- changes to the same values are the same
changes_alike : (n : ℕ) (rs : List (ℕ × Value)) (f g : Variables) → AllAbove n rs → ((i : ℕ) → n < i → f i ≡ g i) → changes_from rs f ≡ changes_from rs g
changes_alike n [] f g a h = refl
changes_alike n (r ∷ rs) f g a h =
    ap (λ (o : Option Value). change_to r.0 r.1 o ++ changes_from rs f) (h r.0 a.0) ∙ ap (λ (cs : List Change). change_to r.0 r.1 (g r.0) ++ cs) (changes_alike n rs f g a.1 h)

-- ---- the values that changes left
above_step : (n i : ℕ) (v : Value) (o : Option Value) (cs : List Change) → n < i → AllAbove n (lefts cs) → AllAbove n (lefts (change_to i v o ++ cs))
above_step n i v None cs l a = a
above_step n i v (Some y) cs l a = by (same_value v y) where
  by : (b : Bool) → AllAbove n (lefts (cond b [] (record { variable = i; read = v; left = y } ∷ []) ++ cs))
  by true = a
  by false = (l, a)

pub lefts_above : (n : ℕ) (rs : List (ℕ × Value)) (f : Variables) → AllAbove n rs → AllAbove n (lefts (changes_from rs f))
lefts_above n [] f a = tt
lefts_above n (r ∷ rs) f a = above_step n r.0 r.1 (f r.0) (changes_from rs f) a.0 (lefts_above n rs f a.1)

rising_step : (i : ℕ) (v : Value) (o : Option Value) (cs : List Change) → AllAbove i (lefts cs) → Rising (lefts cs) → Rising (lefts (change_to i v o ++ cs))
rising_step i v None cs a r = r
rising_step i v (Some y) cs a r = by (same_value v y) where
  by : (b : Bool) → Rising (lefts (cond b [] (record { variable = i; read = v; left = y } ∷ []) ++ cs))
  by true = r
  by false = (a, r)

-- they ascend as the reads do
pub lefts_rise : (rs : List (ℕ × Value)) (f : Variables) → Rising rs → Rising (lefts (changes_from rs f))
lefts_rise [] f r = tt
lefts_rise (e ∷ rs) f r = rising_step e.0 e.1 (f e.0) (changes_from rs f) (lefts_above e.0 rs f r.0) (lefts_rise rs f r.1)

-- each is the value that its variable was left with
agree_found : (b : Bool) (i j : ℕ) (y w : Value) (o : Option Value) (f : Variables) → nat_eq i j ≡ b → f i ≡ Some y → (o ≡ Some w → f j ≡ Some w) → cond b (Some y) o ≡ Some w → f j ≡ Some w
agree_found true i j y w o f e h more g = subst (λ (k : ℕ). f k ≡ Some w) (eqb-true i j e) (h ∙ g)
agree_found false i j y w o f e h more g = more g

agree_step : (i : ℕ) (v : Value) (o : Option Value) (cs : List Change) (f : Variables) → f i ≡ o → Agrees (lefts cs) f → Agrees (lefts (change_to i v o ++ cs)) f
agree_step i v None cs f e a = a
agree_step i v (Some y) cs f e a = by (same_value v y) where
  by : (b : Bool) → Agrees (lefts (cond b [] (record { variable = i; read = v; left = y } ∷ []) ++ cs)) f
  by true = a
  by false = λ j w g. agree_found (nat_eq i j) i j y w (find j (lefts cs)) f refl e (a j w) g

pub lefts_agree : (rs : List (ℕ × Value)) (f : Variables) → Agrees (lefts (changes_from rs f)) f
lefts_agree [] f = λ i v e. cc
lefts_agree (r ∷ rs) f = agree_step r.0 r.1 (f r.0) (changes_from rs f) f refl (lefts_agree rs f)

-- and another one than was read
differ_step : (i : ℕ) (v : Value) (o : Option Value) (cs : List Change) (reads : List (ℕ × Value)) → find i reads ≡ Some v → all_differ reads (lefts cs) ≡ true → all_differ reads (lefts (change_to i v o ++ cs)) ≡ true
differ_step i v None cs reads e a = a
differ_step i v (Some y) cs reads e a = by (same_value v y) refl where
  both : (x z : Bool) → x ≡ true → z ≡ true → (x && z) ≡ true
  both x z g h = rw (g, h) refl

  by : (b : Bool) → same_value v y ≡ b → all_differ reads (lefts (cond b [] (record { variable = i; read = v; left = y } ∷ []) ++ cs)) ≡ true
  by true g = a
  by false g = both (differs_from (find i reads) y) (all_differ reads (lefts cs)) (ap (λ (x : Option Value). differs_from x y) e ∙ ap not g) a

lefts_differ_in : (rs reads : List (ℕ × Value)) (f : Variables) → AreRead rs (λ i. find i reads) → all_differ reads (lefts (changes_from rs f)) ≡ true
lefts_differ_in [] reads f h = refl
lefts_differ_in (r ∷ rs) reads f h = differ_step r.0 r.1 (f r.0) (changes_from rs f) reads h.0 (lefts_differ_in rs reads f h.1)

pub lefts_differ : (reads : List (ℕ × Value)) (f : Variables) → Rising reads → all_differ reads (lefts (changes_from reads f)) ≡ true
lefts_differ reads f r = lefts_differ_in reads reads f (are_among reads r)

-- ---- from the values that were left the changes are found again
find_past : (n : ℕ) (v : Value) (es : List (ℕ × Value)) (i : ℕ) → n < i → find i ((n, v) ∷ es) ≡ find i es
find_past n v es i l = ap (λ (b : Bool). cond b (Some v) (find i es)) (other n i l)

again_by : (b : Bool) (i : ℕ) (v y : Value) (rs : List (ℕ × Value)) (f : Variables) → same_value v y ≡ b → AllAbove i rs → changes_from rs (λ j. find j (lefts (changes_from rs f))) ≡ changes_from rs f
    → (let cs : List Change = cond b [] (record { variable = i; read = v; left = y } ∷ []) ++ changes_from rs f in change_to i v (find i (lefts cs)) ++ changes_from rs (λ j. find j (lefts cs)) ≡ cs)
again_by true i v y rs f e a more = ap (λ (o : Option Value). change_to i v o ++ changes_from rs (λ j. find j (lefts (changes_from rs f)))) (find_above i i (lefts (changes_from rs f)) (omega arith) (lefts_above i rs f a)) ∙ more
again_by false i v y rs f e a more =
    let ls : List (ℕ × Value) = (i, y) ∷ lefts (changes_from rs f) in
    ap (λ (o : Option Value). change_to i v o ++ changes_from rs (λ j. find j ls)) (ap (λ (b : Bool). cond b (Some y) (find i (lefts (changes_from rs f)))) (itself i))
    ∙ ap (λ (b : Bool). cond b [] (record { variable = i; read = v; left = y } ∷ []) ++ changes_from rs (λ j. find j ls)) e
    ∙ ap (λ (cs : List Change). record { variable = i; read = v; left = y } ∷ cs) (changes_alike i rs (λ j. find j ls) (λ j. find j (lefts (changes_from rs f))) a (find_past i y (lefts (changes_from rs f))) ∙ more)

again_step : (i : ℕ) (v : Value) (o : Option Value) (rs : List (ℕ × Value)) (f : Variables) → AllAbove i rs → changes_from rs (λ j. find j (lefts (changes_from rs f))) ≡ changes_from rs f
    → (let cs : List Change = change_to i v o ++ changes_from rs f in change_to i v (find i (lefts cs)) ++ changes_from rs (λ j. find j (lefts cs)) ≡ cs)
again_step i v None rs f a more = ap (λ (o : Option Value). change_to i v o ++ changes_from rs (λ j. find j (lefts (changes_from rs f)))) (find_above i i (lefts (changes_from rs f)) (omega arith) (lefts_above i rs f a)) ∙ more
again_step i v (Some y) rs f a more = again_by (same_value v y) i v y rs f refl a more

pub changes_again : (reads : List (ℕ × Value)) (f : Variables) → Rising reads → changes_from reads (λ i. find i (lefts (changes_from reads f))) ≡ changes_from reads f
changes_again [] f r = refl
changes_again (e ∷ rs) f r = again_step e.0 e.1 (f e.0) rs f r.0 (changes_again rs f r.1)

first_differs : (reads : List (ℕ × Value)) (l : ℕ × Value) (ls : List (ℕ × Value)) → all_differ reads (l ∷ ls) ≡ true → (differs_from (find l.0 reads) l.1 ≡ true) × (all_differ reads ls ≡ true)
first_differs reads l ls d = and_parts (differs_from (find l.0 reads) l.1) (all_differ reads ls) d

-- what differs from one of the reads is of a variable among them
differ_past : (r : ℕ × Value) (rs ls : List (ℕ × Value)) → AllAbove r.0 ls → all_differ (r ∷ rs) ls ≡ true → all_differ rs ls ≡ true
differ_past r rs [] a d = refl
differ_past r rs (l ∷ ls) a d =
    let p = first_differs (r ∷ rs) l ls d in
    let here : differs_from (find l.0 rs) l.1 ≡ true = ap (λ (b : Bool). differs_from (cond b (Some r.1) (find l.0 rs)) l.1) (sym (other r.0 l.0 a.0)) ∙ p.0 in
    rw (here, differ_past r rs ls a.1 p.1) refl

found_above : (b : Bool) (n i j : ℕ) (v w : Value) (o : Option Value) → nat_eq j i ≡ b → n < j → (differs_from o v ≡ true → n < i) → differs_from (cond b (Some w) o) v ≡ true → n < i
found_above true n i j v w o e a more d = subst (λ (k : ℕ). n < k) (eqb-true j i e) a
found_above false n i j v w o e a more d = more d

above_found : (n i : ℕ) (v : Value) (rs : List (ℕ × Value)) → AllAbove n rs → differs_from (find i rs) v ≡ true → n < i
above_found n i v [] a d = cc
above_found n i v (r ∷ rs) a d = found_above (nat_eq r.0 i) n i r.0 v r.1 (find i rs) refl a.0 (above_found n i v rs a.1) d

differ_here : (v y : Value) → differs_from (Some v) y ≡ true → same_value v y ≡ false
differ_here v y d = by (same_value v y) d where
  by : (b : Bool) → not b ≡ true → b ≡ false
  by true e = cc
  by false e = refl

none_among : (rs : List (ℕ × Value)) → changes_from rs (λ i. find i []) ≡ []
none_among [] = refl
none_among (r ∷ rs) = none_among rs

left_by : (b : Bool) (r l : ℕ × Value) (rs ls : List (ℕ × Value)) → nat_eq r.0 l.0 ≡ b → AllAbove r.0 rs → Rising (l ∷ ls) → all_differ (r ∷ rs) (l ∷ ls) ≡ true
    → ((ms : List (ℕ × Value)) → Rising ms → all_differ rs ms ≡ true → lefts (changes_from rs (λ i. find i ms)) ≡ ms) → lefts (changes_from (r ∷ rs) (λ i. find i (l ∷ ls))) ≡ l ∷ ls
left_by true r l rs ls e a rising d more =
    let same : r.0 ≡ l.0 = eqb-true r.0 l.0 e in
    let p = first_differs (r ∷ rs) l ls d in
    let here : same_value r.1 l.1 ≡ false = differ_here r.1 l.1 (ap (λ (b : Bool). differs_from (cond b (Some r.1) (find l.0 rs)) l.1) (sym e) ∙ p.0) in
    let above : AllAbove r.0 ls = subst (λ (k : ℕ). AllAbove k ls) (sym same) rising.0 in
    ap (λ (b : Bool). lefts (change_to r.0 r.1 (cond b (Some l.1) (find r.0 ls)) ++ changes_from rs (λ i. find i (l ∷ ls)))) (ap (λ (k : ℕ). nat_eq k r.0) (sym same) ∙ itself r.0)
    ∙ ap (λ (b : Bool). lefts (cond b [] (record { variable = r.0; read = r.1; left = l.1 } ∷ []) ++ changes_from rs (λ i. find i (l ∷ ls)))) here
    ∙ ap (λ (cs : List Change). (r.0, l.1) ∷ lefts cs) (changes_alike r.0 rs (λ i. find i (l ∷ ls)) (λ i. find i ls) a (λ i n. find_past l.0 l.1 ls i (subst (λ (k : ℕ). k < i) same n)))
    ∙ ap (λ (ms : List (ℕ × Value)). (r.0, l.1) ∷ ms) (more ls rising.1 (differ_past r rs ls above p.1))
    ∙ ap (λ (k : ℕ). (k, l.1) ∷ ls) same
left_by false r l rs ls e a rising d more =
    let p = first_differs (r ∷ rs) l ls d in
    let here : differs_from (find l.0 rs) l.1 ≡ true = ap (λ (b : Bool). differs_from (cond b (Some r.1) (find l.0 rs)) l.1) (sym e) ∙ p.0 in
    let low : r.0 < l.0 = above_found r.0 l.0 l.1 rs a here in
    let above : AllAbove r.0 (l ∷ ls) = (low, above_more r.0 l.0 ls (omega arith) rising.0) in
    ap (λ (o : Option Value). lefts (change_to r.0 r.1 o ++ changes_from rs (λ i. find i (l ∷ ls)))) (find_above r.0 r.0 (l ∷ ls) (omega arith) above)
    ∙ more (l ∷ ls) rising (differ_past r rs (l ∷ ls) above d)

pub left_again : (reads left : List (ℕ × Value)) → Rising reads → Rising left → all_differ reads left ≡ true → lefts (changes_from reads (λ i. find i left)) ≡ left
left_again reads [] r rising d = ap lefts (none_among reads)
left_again [] (l ∷ ls) r rising d = cc
left_again (e ∷ rs) (l ∷ ls) r rising d = left_by (nat_eq e.0 l.0) e l rs ls refl r.0 rising d (λ ms rise differ. left_again rs ms r.1 rise differ)
