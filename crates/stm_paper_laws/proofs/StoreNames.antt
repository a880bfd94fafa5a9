-- The transitions of a block that give new cells the numbers that they get in the store.
use Rattle.std.proofs.Common.{◌≡◌, ◌≢◌, ℕ, zero, suc, ◌+◌, ◌-◌, ◌<◌, ◌≤◌, Bool, true, false, List, [], ◌∷◌, ◌++◌, length, Option, Some, None, Ok, refl, ap, sym, ◌∙◌, subst, arith, eqb-true}
use Rattle.std.specs.Prelude.{slice_get, option_map, map, nat_eq, nat_lt, if◌then◌else◌}
use Rattle.std.proofs.lemmas.Bool.Decides.{nat_tests}
use Rattle.std.proofs.lemmas.Bool.{ltb-false, ltb-true}
use Rattle.stm_terms.specs.declared.kinds.Ty.{Ty}
use Rattle.stm_terms.specs.declared.values.Ref.{Ref}
use Rattle.stm_terms.specs.declared.values.Ref.TheVariants.{Old, New}
use Rattle.stm_terms.specs.declared.values.Value.{Value}
use Rattle.stm_terms.specs.declared.values.Value.TheVariants.{Int, Bool as Truth, Unit as Nil, Var}
use Rattle.stm_terms.specs.declared.verdicts.Verdict.TheVariants.{Commits}
use Rattle.stm_terms.specs.Ast.{Term}
use Rattle.stm_terms.specs.Value.{Answer, value, same_ref}
use Rattle.stm_terms.specs.Changes.{Variables, Changes, no_changes, find, first_of, cell_value, view_at, made}
use Rattle.stm_terms.specs.Typing.{TypeEnv, var_ty, type_of, kind_of, HaveTypes}
use Rattle.stm_store.specs.declared.cell.Cell.{Cell}
use Rattle.stm_store.specs.Cells.{plains, kinds_of, StoreIsTyped, renumbered_ref, renumbered, after_write, new_cell, applied, IsApplied}
use Rattle.stm_check.proofs.ActionsSound.{mapped, if_some}
use Rattle.stm_paper_laws.specs.Transitions.{Heap, Allocations, updated}
use Rattle.stm_paper_laws.specs.Laws.{heap_of, Naming, IsSame, same_int, same_truth, same_unit, same_var, NamesGrow}
use Rattle.stm_paper_laws.specs.Atomic.{store_heap}
use Rattle.stm_paper_laws.proofs.Substitution.{closed_term, value_closed}
use Rattle.stm_paper_laws.proofs.Heaps.{made_types_of, written_there, made_heap, made_types, length_kinds, next_is_free}
use Rattle.stm_paper_laws.proofs.Names.{same_some, same_bools}
use Rattle.stm_paper_laws.proofs.LikeRuns.{LikeTerm, term_grows, term_applied, LikeAnswer, like_ok, like_err, like_none, value_like}
use Rattle.stm_paper_laws.proofs.Starts.{own_names, term_self}
use Rattle.stm_paper_laws.proofs.LeadToRun.{IsNamedHeap, renamed_answer}

-- ---- numbers
eqb_self : (n : ℕ) → nat_eq n n ≡ true
eqb_self n = grind (arith, nat_tests)

same_tests : (a b c d : ℕ) → (a ≡ b → c ≡ d) → (c ≡ d → a ≡ b) → nat_eq a b ≡ nat_eq c d
same_tests a b c d f g =
    same_bools _ _
    (λ e. subst (λ z. nat_eq c z ≡ true) (f (eqb-true a b e)) (eqb_self c))
    (λ e. subst (λ z. nat_eq a z ≡ true) (g (eqb-true c d e)) (eqb_self a))

unlike : (a b : ℕ) → a ≢ b → nat_eq a b ≡ false
unlike a b h = same_bools _ _ (λ e. absurd (h (eqb-true a b e))) (λ e. absurd (cc))

below_test : (i n : ℕ) → i < n → nat_lt i n ≡ true
below_test i n h = grind (arith, nat_tests)

past_test : (n k : ℕ) → nat_lt (n + k) n ≡ false
past_test n k = grind (arith, nat_tests)

back_again : (n k : ℕ) → n + k - n ≡ k
back_again n k = omega arith

pub there_again : (n j : ℕ) → n ≤ j → n + (j - n) ≡ j
there_again n j h = omega arith

-- ---- the reference that a variable of the new store has in a view
abbrev pub ref_at : ℕ → ℕ → Ref
ref_at n j = if nat_lt j n then Old j else New (j - n)

abbrev pub InRange : ℕ → Ref → Type 0
InRange n (Old i) = i < n
InRange n (New k) = Unit {0}

test_at : (n j : ℕ) (r : Ref) → InRange n r → same_ref (renumbered_ref n r) (Old j) ≡ same_ref r (ref_at n j)
test_at n j (Old i) h =
    elim (nat_lt j n) as (λ b. nat_lt j n ≡ b → nat_eq i j ≡ same_ref (Old i) (if b then Old j else New (j - n))) [
      | true ↦ λ lt. refl
      | false ↦ λ ge. let p : n ≤ j = ltb-false j n ge in unlike i j (λ e. omega (arith, e, h, p))
    ] refl
test_at n j (New m) h =
    elim (nat_lt j n) as (λ b. nat_lt j n ≡ b → nat_eq (n + m) j ≡ same_ref (New m) (if b then Old j else New (j - n))) [
      | true ↦ λ lt. let p : j < n = ltb-true j n lt in unlike (n + m) j (λ e. omega (arith, e, p))
      | false ↦ λ ge. let p : n ≤ j = ltb-false j n ge in same_tests (n + m) j m (j - n) (λ e. omega (arith, e, p)) (λ e. omega (arith, e, p))
    ] refl

pub old_at : (n i : ℕ) → i < n → ref_at n i ≡ Old i
old_at n i h = ap (λ b. if b then Old i else New (i - n)) (below_test i n h)

pub new_at : (n k : ℕ) → ref_at n (n + k) ≡ New k
new_at n k = ap (λ b. if b then Old (n + k) else New (n + k - n)) (past_test n k) ∙ ap New (back_again n k)

-- ---- the heap of a view, with the numbers of the store
abbrev pub numbered_heap : Variables → ℕ → Changes → Heap
numbered_heap under n h (Old j) = option_map (renumbered n) (view_at under h (ref_at n j))
numbered_heap under n h (New k) = None

abbrev pub numbered_types : ℕ → List Ty → Allocations
numbered_types n [] = []
numbered_types n (t ∷ ts) = (Old n, t) ∷ numbered_types (suc n) ts

if_mapped : (b : Bool) (f : Value → Value) (v : Value) (o : Option Value) → (if b then Some (f v) else option_map f o) ≡ option_map f (if b then Some v else o)
if_mapped true f v o = refl
if_mapped false f v o = refl

never_new : (n : ℕ) (r : Ref) (k : ℕ) → same_ref (renumbered_ref n r) (New k) ≡ false
never_new n (Old i) k = refl
never_new n (New m) k = refl

moved_at : (under : Variables) (n : ℕ) (h k : Changes) (r : Ref) (v : Value) → InRange n r → updated (heap_of under h) r v ≡ heap_of under k → (s : Ref)
    → updated (numbered_heap under n h) (renumbered_ref n r) (renumbered n v) s ≡ numbered_heap under n k s
moved_at under n h k r v i p (Old j) =
    ap (λ b. if b then Some (renumbered n v) else option_map (renumbered n) (view_at under h (ref_at n j))) (test_at n j r i)
    ∙ if_mapped (same_ref r (ref_at n j)) (renumbered n) v (view_at under h (ref_at n j))
    ∙ ap (λ z. option_map (renumbered n) (z (ref_at n j))) p
moved_at under n h k r v i p (New m) = ap (λ b. if b then Some (renumbered n v) else None) (never_new n r m)

moved : (under : Variables) (n : ℕ) (h k : Changes) (r : Ref) (v : Value) → InRange n r → updated (heap_of under h) r v ≡ heap_of under k
    → updated (numbered_heap under n h) (renumbered_ref n r) (renumbered n v) ≡ numbered_heap under n k
moved under n h k r v i p = λ j s. moved_at under n h k r v i p s j

found_at : (under : Variables) (n : ℕ) (h : Changes) (r : Ref) (o : Option Value) → InRange n r → view_at under h r ≡ o → numbered_heap under n h (renumbered_ref n r) ≡ option_map (renumbered n) o
found_at under n h (Old i) o p e = ap (λ r. option_map (renumbered n) (view_at under h r)) (old_at n i p) ∙ ap (option_map (renumbered n)) e
found_at under n h (New k) o p e = ap (λ r. option_map (renumbered n) (view_at under h r)) (new_at n k) ∙ ap (option_map (renumbered n)) e

no_more : (n : ℕ) → n + 0 ≡ n
no_more n = omega arith

one_on : (n m : ℕ) → n + suc m ≡ suc n + m
one_on n m = omega arith

push_types : (ts : List Ty) (n : ℕ) (t : Ty) → numbered_types n ts ++ (Old (n + length ts), t) ∷ [] ≡ numbered_types n (ts ++ t ∷ [])
push_types [] n t = ap (λ m. (Old m, t) ∷ []) (no_more n)
push_types (u ∷ ts) n t =
    ap (λ m. (Old n, u) ∷ (numbered_types (suc n) ts ++ (Old m, t) ∷ [])) (one_on n (length ts)) ∙ ap (λ l. (Old n, u) ∷ l) (push_types ts (suc n) t)

-- ---- names
abbrev store_names : ℕ → Naming
store_names n (Old i) = if nat_lt i n then Some (Old i) else None
store_names n (New k) = Some (Old (n + k))

store_called : (n : ℕ) (r s : Ref) → store_names n r ≡ Some s → InRange n r × (s ≡ renumbered_ref n r)
store_called n (Old i) s e = let p = if_some (nat_lt i n) (Some (Old i)) s e in (ltb-true i n p.0, sym (same_some _ _ p.1))
store_called n (New k) s e = (tt, sym (same_some _ _ e))

in_range_called : (n : ℕ) (r : Ref) → InRange n r → store_names n r ≡ Some (renumbered_ref n r)
in_range_called n (Old i) h = ap (λ b. if b then Some (Old i) else None) (below_test i n h)
in_range_called n (New k) h = refl

agree_at : (n : ℕ) (q r : Ref) → InRange n q → InRange n r → same_ref q r ≡ same_ref (renumbered_ref n q) (renumbered_ref n r)
agree_at n (Old i) (Old j) p q = refl
agree_at n (Old i) (New k) p q = sym (unlike i (n + k) (λ e. omega (arith, e, p)))
agree_at n (New m) (Old j) p q = sym (unlike (n + m) j (λ e. omega (arith, e, q)))
agree_at n (New m) (New k) p q = same_tests m k (n + m) (n + k) (λ e. omega (arith, e)) (λ e. omega (arith, e))

agree : (n : ℕ) (q r s t : Ref) → store_names n q ≡ Some s → store_names n r ≡ Some t → same_ref q r ≡ same_ref s t
agree n q r s t e f =
    let a = store_called n q s e in
    let b = store_called n r t f in
    agree_at n q r a.0 b.0 ∙ (λ i. same_ref (sym a.1 i) (sym b.1 i))

same_renumbered : (n : ℕ) {v w : Value} → IsSame (store_names n) v w → w ≡ renumbered n v
same_renumbered n same_int = refl
same_renumbered n same_truth = refl
same_renumbered n same_unit = refl
same_renumbered n (same_var {r} {s} p) = ap Var (store_called n r s p).1

answer_renumbered : (n : ℕ) {a b : Answer} → LikeAnswer (store_names n) a b → b ≡ renamed_answer (renumbered n) a
answer_renumbered n (like_ok p) = ap (λ v. Some (Ok v)) (same_renumbered n p)
answer_renumbered n like_err = refl
answer_renumbered n like_none = refl

-- values in place of locals, and the same ones
pub data AreSame (f : Naming) : List Value → List Value → Type 0 where
  no_values : AreSame f [] []
  one_more_same : {v w : Value} {vs ws : List Value} → IsSame f v w → AreSame f vs ws → AreSame f (v ∷ vs) (w ∷ ws)

like_closed : {f : Naming} {d e : Term} {vs ws : List Value} → AreSame f vs ws → LikeTerm f d e → LikeTerm f (closed_term d vs) (closed_term e ws)
like_closed no_values l = l
like_closed (one_more_same p q) l = like_closed q (term_applied l p)

-- ---- a store
pub kind_below : (store : List Cell) (i : ℕ) (t : Ty) → kinds_of (plains store) i ≡ Some t → i < length store
kind_below [] i t e = absurd (cc)
kind_below (c ∷ cs) zero t e = omega arith
kind_below (c ∷ cs) (suc i) t e = let p = kind_below cs i t e in omega (arith, p)

module _ (store : List Cell) where
  abbrev kinds_here : TypeEnv
  kinds_here = kinds_of (plains store)

  abbrev under_here : Variables
  under_here = cell_value (plains store)

  in_range : (h : Changes) (r : Ref) (u : Ty) → kind_of kinds_here h r ≡ Some u → InRange (length store) r
  in_range h (Old i) u e = kind_below store i u e
  in_range h (New k) u e = tt

  typed_same : (h : Changes) (v : Value) (t : Ty) → type_of kinds_here h v ≡ Some t → IsSame (store_names (length store)) v (renumbered (length store) v)
  typed_same h (Int n) t e = same_int
  typed_same h (Truth b) t e = same_truth
  typed_same h Nil t e = same_unit
  typed_same h (Var r) t e = let m = mapped var_ty (kind_of kinds_here h r) t e in same_var (in_range_called (length store) r (in_range h r m.0 m.1))

  locals_same : (h : Changes) (locals : List Value) (types : List Ty) → HaveTypes kinds_here h locals types → AreSame (store_names (length store)) locals (map (renumbered (length store)) locals)
  locals_same h [] [] p = no_values
  locals_same h (v ∷ vs) [] p = absurd p
  locals_same h [] (t ∷ ts) p = absurd p
  locals_same h (v ∷ vs) (t ∷ ts) p = one_more_same (typed_same h v t p.0) (locals_same h vs ts p.1)

  own_grows : NamesGrow (own_names (plains store)) (store_names (length store))
  own_grows (Old i) s e =
      let m = mapped (λ c. Old i) (slice_get (plains store) i) s e in
      in_range_called (length store) (Old i) (kind_below store i m.0.0 (ap (λ o. option_map (λ c. c.0) o) m.1)) ∙ ap Some m.2
  own_grows (New k) s e = absurd (cc)

  pub by_store : IsNamedHeap kinds_here under_here (renumbered (length store)) (numbered_heap under_here (length store)) (λ h. numbered_types (length store) (made_types_of h))
  by_store = record {
    ints = λ n. refl;
    truths = λ b. refl;
    units = refl;
    values = λ e locals types t h l p.
        answer_renumbered (length store)
        (subst (λ a. LikeAnswer (store_names (length store)) a (value (closed_term e (map (renumbered (length store)) locals)) [])) (value_closed e locals)
        (value_like (agree (length store)) (like_closed (locals_same h locals types l) (term_grows own_grows (term_self (plains store) e types t p)))));
    reads = λ h r v u w e p. (renumbered_ref (length store) r, refl, found_at under_here (length store) h r (Some v) (in_range h r u e) p);
    writes = λ h r v w u t e p.
        let k = written_there under_here h r v w p in (
          k.0,
          renumbered_ref (length store) r,
          k.1,
          refl,
          found_at under_here (length store) h r (Some w) (in_range h r u e) p,
          moved under_here (length store) h k.0 r v (in_range h r u e) k.2,
          ap (numbered_types (length store)) k.4,
        );
    makes = λ h t v. (
      Old (length store + length h.news),
      refl,
      found_at under_here (length store) h (New (length h.news)) None tt (next_is_free under_here h),
      moved under_here (length store) h (made h t v) (New (length h.news)) v tt (made_heap under_here h t v),
      ap (λ m. numbered_types (length store) (made_types_of h) ++ (Old (length store + m), t) ∷ []) (sym (length_kinds h.news))
          ∙ push_types (made_types_of h) (length store) t ∙ ap (numbered_types (length store)) (made_types h t v),
    );
  }

-- ---- the heaps at the begin and at the end
plain_value : (cs : List Cell) (j : ℕ) → cell_value (plains cs) j ≡ option_map (λ c. c.value) (slice_get cs j)
plain_value [] j = refl
plain_value (c ∷ cs) zero = refl
plain_value (c ∷ cs) (suc j) = plain_value cs j

pub none_past : (cs : List Cell) (j : ℕ) → length cs ≤ j → cell_value (plains cs) j ≡ None
none_past [] j h = refl
none_past (c ∷ cs) zero h = absurd (omega (arith, h))
none_past (c ∷ cs) (suc j) h = none_past cs j (omega (arith, h))

some_below : (cs : List Cell) (j : ℕ) → j < length cs → (c : Cell) × (slice_get cs j ≡ Some c)
some_below [] j h = absurd (omega (arith, h))
some_below (c ∷ cs) zero h = (c, refl)
some_below (c ∷ cs) (suc j) h = some_below cs j (omega (arith, h))

stays : (kinds : TypeEnv) (n : ℕ) (v : Value) (t : Ty) → type_of kinds no_changes v ≡ Some t → renumbered n v ≡ v
stays kinds n (Int z) t e = refl
stays kinds n (Truth b) t e = refl
stays kinds n Nil t e = refl
stays kinds n (Var (Old i)) t e = refl
stays kinds n (Var (New k)) t e = absurd (cc)

module _ (store : List Cell) (typed : StoreIsTyped (plains store)) where
  cell_stays : (j : ℕ) (o : Option (Ty × Value)) → slice_get (plains store) j ≡ o → option_map (renumbered (length store)) (option_map (λ c. c.1) o) ≡ option_map (λ c. c.1) o
  cell_stays j None e = refl
  cell_stays j (Some c) e = ap Some (stays (kinds_of (plains store)) (length store) c.1 c.0 (typed j c e))

  begins_at : (s : Ref) → numbered_heap (cell_value (plains store)) (length store) no_changes s ≡ store_heap store s
  begins_at (Old j) =
      elim (nat_lt j (length store)) as (λ b. nat_lt j (length store) ≡ b → option_map (renumbered (length store)) (view_at (cell_value (plains store)) no_changes (if b then Old j else New (j - length store))) ≡ cell_value (plains store) j) [
        | true ↦ λ lt. cell_stays j (slice_get (plains store) j) refl
        | false ↦ λ ge. sym (none_past store j (ltb-false j (length store) ge))
      ] refl
  begins_at (New k) = refl

  pub begins : numbered_heap (cell_value (plains store)) (length store) no_changes ≡ store_heap store
  begins = λ i s. begins_at s i

  value_stays : (j : ℕ) (c : Cell) → slice_get store j ≡ Some c → renumbered (length store) c.value ≡ c.value
  value_stays j c e =
      let p : cell_value (plains store) j ≡ Some c.value = plain_value store j ∙ ap (λ o. option_map (λ c. c.value) o) e in
      let q : option_map (renumbered (length store)) (cell_value (plains store) j) ≡ cell_value (plains store) j = cell_stays j (slice_get (plains store) j) refl in
      same_some _ _ (sym (ap (option_map (renumbered (length store))) p) ∙ q ∙ p)

  written_value : (n : ℕ) (o : Option Value) (c : Cell) → renumbered n c.value ≡ c.value → option_map (renumbered n) (first_of o (Some c.value)) ≡ Some (after_write n o c).value
  written_value n (Some v) c e = refl
  written_value n None c e = ap Some e

  made_value : (n : ℕ) (o : Option (Ty × Value)) → option_map (renumbered n) (option_map (λ c. c.1) o) ≡ option_map (λ c. c.value) (option_map (new_cell n) o)
  made_value n (Some c) = refl
  made_value n None = refl

  module _ (h : Changes) (result : Value) (is : IsApplied store (Commits h.writes h.news result) (applied store (Commits h.writes h.news result))) where
    ends_at : (s : Ref) → numbered_heap (cell_value (plains store)) (length store) h s ≡ store_heap (applied store (Commits h.writes h.news result)) s
    ends_at (Old j) =
        let n : ℕ = length store in
        let next : List Cell = applied store (Commits h.writes h.news result) in
        elim (nat_lt j n) as (λ b. nat_lt j n ≡ b → option_map (renumbered n) (view_at (cell_value (plains store)) h (if b then Old j else New (j - n))) ≡ cell_value (plains next) j) [
          | true ↦ λ lt.
              let c = some_below store j (ltb-true j n lt) in
              let there : cell_value (plains store) j ≡ Some c.0.value = plain_value store j ∙ ap (λ o. option_map (λ c. c.value) o) c.1 in
              ap (λ o. option_map (renumbered n) (first_of (find j h.writes) o)) there
              ∙ written_value n (find j h.writes) c.0 (value_stays j c.0 c.1)
              ∙ sym (plain_value next j ∙ ap (λ o. option_map (λ c. c.value) o) (is.olds j (ltb-true j n lt) ∙ ap (λ o. option_map (after_write n (find j h.writes)) o) c.1))
          | false ↦ λ ge.
              made_value n (slice_get h.news (j - n))
              ∙ sym (plain_value next j ∙ ap (λ o. option_map (λ c. c.value) o) (ap (slice_get next) (sym (there_again n j (ltb-false j n ge))) ∙ is.news (j - n)))
        ] refl
    ends_at (New k) = refl

    pub ends : numbered_heap (cell_value (plains store)) (length store) h ≡ store_heap (applied store (Commits h.writes h.news result))
    ends = λ i s. ends_at s i
