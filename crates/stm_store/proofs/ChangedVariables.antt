-- The variables that a verdict changes are those whose value is another one afterwards.
use Rattle.std.proofs.Common.{◌≡◌, ◌≢◌, ℕ, zero, suc, ◌<◌, ◌≤◌, Bool, true, false, not, ◌||◌, List, [], ◌∷◌, map, filter, Option, Some, None, length, refl, sym, ap, subst, ◌∙◌, arith, add-one, eqb-true}
use Rattle.std.specs.Prelude.{slice_get, option_map, nat_eq, if◌then◌else◌, Result, Ok, Err, IfOk}
use Rattle.std.specs.List.{list_any}
use Rattle.std.specs.List.Sorted.{IsStrictlyIncreasing}
use Rattle.std.proofs.lemmas.Bool.Decides.{nat_tests}
use Rattle.std.proofs.lemmas.Option.{slice_get-map}
use Rattle.stm_terms.specs.declared.kinds.Ty.{Ty}
use Rattle.stm_terms.specs.declared.values.Value.{Value}
use Rattle.stm_terms.specs.declared.verdicts.Verdict.{Verdict}
use Rattle.stm_terms.specs.declared.verdicts.Verdict.TheVariants.{Commits, Throws, Blocks}
use Rattle.stm_terms.specs.Changes.{find, cell_value}
use Rattle.stm_terms.specs.Typing.{AllAbove, Rising}
use Rattle.stm_terms.specs.Value.{same_value}
use Rattle.stm_terms.proofs.SameValues.{value_equal, value_same}
use Rattle.stm_store.specs.declared.cell.Cell.{Cell}
use Rattle.stm_store.specs.Cells.{plain, plains, Fits, renumbered, counted, rewritten, with_write, with_writes, new_cell, applied, after_write, changes_value, changed_by}
use Rattle.stm_store.specs.Laws.{ChangedDiffer, UnchangedStay}
use Rattle.stm_store.proofs.Lookups.{before, write-here, write-other, is_applied}

-- the variables that these writes change, in a store that had n cells
changed : ℕ → List Cell → List (ℕ × Value) → List ℕ
changed n cells ws = map (λ w. w.0) (filter (λ w. changes_value n (slice_get cells w.0) w.1) ws)

-- ---- one that isn't changed
kept_cell : (n : ℕ) (v : Value) (c : Cell) (b : Bool) → same_value (renumbered n v) c.value ≡ b → not b ≡ false → rewritten n v c ≡ c
kept_cell n v c false e f = absurd (cc)
kept_cell n v c true e f =
    ap (λ (b : Bool). let d : Cell = record { kind = c.kind; value = renumbered n v; count = if b then c.count else counted c.count } in d) e
    ∙ ap (λ (x : Value). let d : Cell = record { kind = c.kind; value = x; count = c.count } in d) (value_equal (renumbered n v) c.value e)

same_cell : (n : ℕ) (v : Value) (c : Cell) → changes_value n (Some c) v ≡ false → rewritten n v c ≡ c
same_cell n v c e = kept_cell n v c (same_value (renumbered n v) c.value) refl e

or_left : (a b : Bool) → (a || b) ≡ false → a ≡ false
or_left false b e = refl
or_left true b e = e

or_right : (a b : Bool) → (a || b) ≡ false → b ≡ false
or_right false b e = e
or_right true b e = absurd (cc)

rising_cons : (n m : ℕ) (ks : List ℕ) → n < m → IsStrictlyIncreasing (m ∷ ks) → IsStrictlyIncreasing (n ∷ m ∷ ks)
rising_cons n m ks less rise zero h = less
rising_cons n m ks less rise (suc k) h = rw add-one (rw add-one at (rise k (omega arith)))

turned : (i j : ℕ) → nat_eq i j ≡ false → nat_eq j i ≡ false
turned i j e = grind (arith, nat_tests)

write_kept : (n : ℕ) (cells cs : List Cell) (i : ℕ) (w : ℕ × Value) (c : Cell) (a b : Bool) → changes_value n (slice_get cells w.0) w.1 ≡ a → nat_eq w.0 i ≡ b
    → (a ≡ true → nat_eq i w.0 ≡ false) → slice_get cells i ≡ Some c → slice_get cs i ≡ Some c → slice_get (with_write n cs w.0 w.1 (slice_get cs w.0)) i ≡ Some c
write_kept n cells cs i w c a false p q other e f = write-other n cs w.0 i w.1 (slice_get cs w.0) q ∙ f
write_kept n cells cs i w c true true p q other e f =
    let apart : nat_eq w.0 i ≡ false = turned i w.0 (other refl) in
    absurd (cc)
write_kept n cells cs i w c false true p q other e f =
    let same : w.0 ≡ i = eqb-true w.0 i q in
    let kept : changes_value n (Some c) w.1 ≡ false = ap (λ (o : Option Cell). changes_value n o w.1) (sym (ap (slice_get cells) same ∙ e)) ∙ p in
    let here : slice_get (with_write n cs w.0 w.1 (slice_get cs w.0)) i ≡ option_map (rewritten n w.1) (slice_get cs i) =
    subst (λ (j : ℕ). slice_get (with_write n cs w.0 w.1 (slice_get cs w.0)) j ≡ option_map (rewritten n w.1) (slice_get cs j)) same (write-here n cs w.0 w.1 (slice_get cs w.0) refl) in
    here ∙ ap (option_map (rewritten n w.1)) f ∙ ap Some (same_cell n w.1 c kept)

unchanged_step : (n : ℕ) (cells : List Cell) (w : ℕ × Value) (ws : List (ℕ × Value)) (cs : List Cell) (i : ℕ) (c : Cell) (a : Bool) → changes_value n (slice_get cells w.0) w.1 ≡ a
    → list_any (nat_eq i) (map (λ u. u.0) (if a then w ∷ filter (λ u. changes_value n (slice_get cells u.0) u.1) ws else filter (λ u. changes_value n (slice_get cells u.0) u.1) ws)) ≡ false
    → slice_get cells i ≡ Some c → slice_get cs i ≡ Some c
    → (list_any (nat_eq i) (changed n cells ws) ≡ false → slice_get (with_write n cs w.0 w.1 (slice_get cs w.0)) i ≡ Some c → slice_get (with_writes n (w ∷ ws) cs) i ≡ Some c)
    → slice_get (with_writes n (w ∷ ws) cs) i ≡ Some c
unfolding changed
unchanged_step n cells w ws cs i c false p none e f more =
    more none (write_kept n cells cs i w c false (nat_eq w.0 i) p refl (λ h. absurd (cc)) e f)
unchanged_step n cells w ws cs i c true p none e f more =
    more (or_right _ _ none) (write_kept n cells cs i w c true (nat_eq w.0 i) p refl (λ h. or_left _ _ none) e f)

unchanged_writes : (n : ℕ) (cells : List Cell) (ws : List (ℕ × Value)) (cs : List Cell) (i : ℕ) (c : Cell) → list_any (nat_eq i) (changed n cells ws) ≡ false
    → slice_get cells i ≡ Some c → slice_get cs i ≡ Some c → slice_get (with_writes n ws cs) i ≡ Some c
unfolding changed
unchanged_writes n cells [] cs i c none e f = f
unchanged_writes n cells (w ∷ ws) cs i c none e f =
    unchanged_step n cells w ws cs i c (changes_value n (slice_get cells w.0) w.1) refl none e f
    (λ more there. unchanged_writes n cells ws (with_write n cs w.0 w.1 (slice_get cs w.0)) i c more e there)

pub unchanged_stay : UnchangedStay
unfolding changed
unchanged_stay cells (Commits writes news v) i c none e =
    before (with_writes (length cells) writes cells) (map (new_cell (length cells)) news) i c (unchanged_writes (length cells) cells writes cells i c none e e)
unchanged_stay cells (Throws x) i c none e = e
unchanged_stay cells Blocks i c none e = e

-- ---- one that is changed is found among the writes, with its value
none_above : (n i : ℕ) (ws : List (ℕ × Value)) (p : ℕ × Value → Bool) → AllAbove n ws → i ≤ n → list_any (nat_eq i) (map (λ w. w.0) (filter p ws)) ≡ false
none_above n i [] p a l = refl
none_above n i (w ∷ ws) p a l =
    let rest = none_above n i ws p a.1 l in
    let other : nat_eq i w.0 ≡ false = (let less : n < w.0 = a.0 in grind (arith, nat_tests)) in
    elim (p w) as (λ b. list_any (nat_eq i) (map (λ w. w.0) (if b then w ∷ filter p ws else filter p ws)) ≡ false) [ true ↦ rw other rest | false ↦ rest ]

-- the value that is written to a variable, which the test takes
IsFound : ℕ → List (ℕ × Value) → (ℕ × Value → Bool) → Type 0
IsFound i ws p = (v : Value) × (find i ws ≡ Some v) × (p (i, v) ≡ true)

found_step : (i : ℕ) (w : ℕ × Value) (ws : List (ℕ × Value)) (p : ℕ × Value → Bool) (a b : Bool) → p w ≡ a → nat_eq w.0 i ≡ b → AllAbove w.0 ws
    → list_any (nat_eq i) (map (λ u. u.0) (if a then w ∷ filter p ws else filter p ws)) ≡ true
    → (list_any (nat_eq i) (map (λ u. u.0) (filter p ws)) ≡ true → IsFound i ws p)
    → (v : Value) × ((if b then Some w.1 else find i ws) ≡ Some v) × (p (i, v) ≡ true)
unfolding IsFound
found_step i w ws p true true e f above some more =
    (w.1, refl, subst (λ (j : ℕ). p (j, w.1) ≡ true) (eqb-true w.0 i f) e)
found_step i w ws p false true e f above some more =
    let same : w.0 ≡ i = eqb-true w.0 i f in
    let none : list_any (nat_eq i) (map (λ u. u.0) (filter p ws)) ≡ false = none_above w.0 i ws p above (omega arith) in
    absurd (cc)
found_step i w ws p true false e f above some more =
    let other : nat_eq i w.0 ≡ false = turned w.0 i f in
    more (rw other at some)
found_step i w ws p false false e f above some more = more some

found : (i : ℕ) (ws : List (ℕ × Value)) (p : ℕ × Value → Bool) → Rising ws → list_any (nat_eq i) (map (λ w. w.0) (filter p ws)) ≡ true → IsFound i ws p
unfolding IsFound
found i [] p r some = absurd (cc)
found i (w ∷ ws) p r some = found_step i w ws p (p w) (nat_eq w.0 i) refl refl r.0 some (found i ws p r.1)

-- ---- its value differs
values_differ : (n : ℕ) (v : Value) (o : Option Cell) → changes_value n o v ≡ true → option_map (λ c. c.value) (option_map (after_write n (Some v)) o) ≢ option_map (λ c. c.value) o
values_differ n v None e same = absurd (cc)
values_differ n v (Some c) e same =
    let one : renumbered n v ≡ c.value = cc in
    let two : same_value (renumbered n v) c.value ≡ true = subst (λ (x : Value). same_value (renumbered n v) x ≡ true) one (value_same (renumbered n v)) in
    absurd (cc)

value_of : (cells : List Cell) (i : ℕ) → cell_value (plains cells) i ≡ option_map (λ c. c.value) (slice_get cells i)
value_of cells i =
    ap (option_map (λ c. c.1)) (slice_get-map plain cells i)
    ∙ elim (slice_get cells i) as (λ o. option_map (λ c. c.1) (option_map plain o) ≡ option_map (λ c. c.value) o) [ None ↦ refl | Some c ↦ refl ]

written_differ : (cells : List Cell) (writes : List (ℕ × Value)) (news : List (Ty × Value)) (r : Value) (i : ℕ) → Fits (plains cells) (Commits writes news r) → i < length cells
    → list_any (nat_eq i) (changed_by cells (Commits writes news r)) ≡ true → cell_value (plains (applied cells (Commits writes news r))) i ≢ cell_value (plains cells) i
unfolding Fits IsFound
written_differ cells writes news r i fits less some same =
    let f = found i writes (λ w. changes_value (length cells) (slice_get cells w.0) w.1) fits.rising some in
    let there = (is_applied cells (Commits writes news r) fits).olds i less in
    values_differ (length cells) f.0 (slice_get cells i) f.2
    (ap (λ (o : Option Value). option_map (λ c. c.value) (option_map (after_write (length cells) o) (slice_get cells i))) (sym f.1)
    ∙ ap (option_map (λ c. c.value)) (sym there)
    ∙ sym (value_of (applied cells (Commits writes news r)) i) ∙ same ∙ value_of cells i)

differ_from : (cells : List Cell) (verdict : Verdict) (i : ℕ) → Fits (plains cells) verdict → i < length cells
    → list_any (nat_eq i) (changed_by cells verdict) ≡ true → cell_value (plains (applied cells verdict)) i ≢ cell_value (plains cells) i
differ_from cells (Commits writes news r) i fits less some = written_differ cells writes news r i fits less some
differ_from cells (Throws x) i fits less some = absurd (cc)
differ_from cells Blocks i fits less some = absurd (cc)

differ_to : (cells : List Cell) (verdict : Verdict) (i : ℕ) (c : Cell) (b : Bool) → list_any (nat_eq i) (changed_by cells verdict) ≡ b → slice_get cells i ≡ Some c
    → cell_value (plains (applied cells verdict)) i ≢ cell_value (plains cells) i → b ≡ true
differ_to cells verdict i c true none e differ = refl
differ_to cells verdict i c false none e differ =
    absurd (differ (value_of (applied cells verdict) i ∙ ap (option_map (λ c. c.value)) (unchanged_stay cells verdict i c none e ∙ sym e) ∙ sym (value_of cells i)))

cell_within : (cells : List Cell) (i : ℕ) → i < length cells → (c : Cell) × (slice_get cells i ≡ Some c)
cell_within [] i h = absurd (omega arith)
cell_within (c ∷ cells) zero h = (c, refl)
cell_within (c ∷ cells) (suc i) h = cell_within cells i (omega arith)

pub changed_differ : ChangedDiffer
changed_differ cells verdict i fits less =
    let there = cell_within cells i less in (
      differ_from cells verdict i fits less,
      differ_to cells verdict i there.0 (list_any (nat_eq i) (changed_by cells verdict)) refl there.1,
    )

-- ---- they ascend
rise_above : (n : ℕ) (ws : List (ℕ × Value)) (p : ℕ × Value → Bool) → AllAbove n ws → Rising ws → IsStrictlyIncreasing (n ∷ map (λ w. w.0) (filter p ws))
rise_above n [] p a r = λ k h. absurd (omega arith)
rise_above n (w ∷ ws) p a r =
    elim (p w) as (λ b. IsStrictlyIncreasing (n ∷ map (λ u. u.0) (if b then w ∷ filter p ws else filter p ws))) [
      | true ↦ rising_cons n w.0 (map (λ u. u.0) (filter p ws)) a.0 (rise_above w.0 ws p r.0 r.1)
      | false ↦ rise_above n ws p a.1 r.1
    ]

rise_all : (ws : List (ℕ × Value)) (p : ℕ × Value → Bool) → Rising ws → IsStrictlyIncreasing (map (λ w. w.0) (filter p ws))
rise_all [] p r = λ k h. absurd (omega arith)
rise_all (w ∷ ws) p r =
    elim (p w) as (λ b. IsStrictlyIncreasing (map (λ u. u.0) (if b then w ∷ filter p ws else filter p ws))) [
      | true ↦ rise_above w.0 ws p r.0 r.1
      | false ↦ rise_all ws p r.1
    ]

pub changed_rise : (cells : List Cell) (verdict : Verdict) → Fits (plains cells) verdict → IsStrictlyIncreasing (changed_by cells verdict)
unfolding Fits
changed_rise cells (Commits writes news r) fits = rise_all writes (λ w. changes_value (length cells) (slice_get cells w.0) w.1) fits.rising
changed_rise cells (Throws x) fits = λ k h. absurd (omega arith)
changed_rise cells Blocks fits = λ k h. absurd (omega arith)

-- the same of a list that a call gives, or none
pub rise_if : {V E : Type 0} (items : V → List ℕ) (cells : List Cell) (verdict : Verdict) (r : Result V E) → IfOk r (λ v. items v ≡ changed_by cells verdict) → Fits (plains cells) verdict
    → IfOk r (λ v. IsStrictlyIncreasing (items v))
rise_if items cells verdict (Ok v) same fits = subst IsStrictlyIncreasing (sym same) (changed_rise cells verdict fits)
rise_if items cells verdict (Err e) same fits = tt
