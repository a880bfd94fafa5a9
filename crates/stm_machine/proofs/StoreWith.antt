-- A store with the values of variables written over its own.
use Rattle.std.proofs.Common.{◌≡◌, ℕ, zero, suc, ◌+◌, ◌-◌, ◌<◌, ◌≤◌, Bool, true, false, ◌||◌, List, [], ◌∷◌, map, length, Option, Some, None, refl, sym, ap, subst, ◌∙◌, arith}
use Rattle.std.specs.Prelude.{nat_eq, nat_lt, slice_get, option_map}
use Rattle.std.specs.List.{list_any}
use Rattle.std.proofs.lemmas.Bool.Decides.{nat_tests}
use Rattle.std.proofs.lemmas.Option.{slice_get-map}
use Rattle.stm_terms.specs.declared.kinds.Ty.{Ty}
use Rattle.stm_terms.specs.declared.values.Ref.TheVariants.{Old, New}
use Rattle.stm_terms.specs.declared.values.Value.{Value}
use Rattle.stm_terms.specs.declared.values.Value.TheVariants.{Int, Bool as Truth, Unit as Nil, Var}
use Rattle.stm_terms.specs.declared.verdicts.Verdict.TheVariants.{Commits}
use Rattle.stm_terms.specs.Changes.{find, no_changes}
use Rattle.stm_terms.specs.Typing.{TypeEnv, Rising, type_of, unit_ty}
use Rattle.stm_store.specs.declared.cell.Cell.{Cell}
use Rattle.stm_store.specs.Cells.{plain, plains, kinds_of, StoreIsTyped, Fits, IsApplied, renumbered, after_write}
use Rattle.stm_store.proofs.Lookups.{is_applied}
use Rattle.stm_store.proofs.Typed.{old_type}
use Rattle.stm_eval.specs.Messages.{Agrees}
use Rattle.stm_events.specs.SlowDesk.{under}
use Rattle.stm_machine.specs.Checkpoints.{store_with}

-- ---- one variable
value_at : (cells : List Cell) (i : ℕ) → under cells i ≡ option_map (λ c. c.value) (slice_get cells i)
value_at cells i = ap (option_map (λ c. c.1)) (slice_get-map plain cells i) ∙ twice (slice_get cells i) where
  twice : (o : Option Cell) → option_map (λ c. c.1) (option_map plain o) ≡ option_map (λ c. c.value) o
  twice None = refl
  twice (Some c) = refl

kind_at : (cells : List Cell) (i : ℕ) → kinds_of (plains cells) i ≡ option_map (λ c. c.kind) (slice_get cells i)
kind_at cells i = ap (option_map (λ c. c.0)) (slice_get-map plain cells i) ∙ twice (slice_get cells i) where
  twice : (o : Option Cell) → option_map (λ c. c.0) (option_map plain o) ≡ option_map (λ c. c.kind) o
  twice None = refl
  twice (Some c) = refl

there : (cells : List Cell) (i : ℕ) (c : Cell) → slice_get cells i ≡ Some c → i < length cells
there [] i c e = absurd (cc)
there (d ∷ cells) zero c e = omega arith
there (d ∷ cells) (suc i) c e = let h = there cells i c e in omega arith

-- a value that has a type where no variable is new isn't renumbered
not_renumbered : (k : TypeEnv) (reads : List (ℕ × Value)) (n : ℕ) (v : Value) (t : Ty) → type_of k (record { writes = reads; news = [] }) v ≡ Some t → renumbered n v ≡ v
not_renumbered k reads n (Int z) t e = refl
not_renumbered k reads n (Truth b) t e = refl
not_renumbered k reads n Nil t e = refl
not_renumbered k reads n (Var (Old i)) t e = refl
not_renumbered k reads n (Var (New i)) t e = absurd (cc)

-- without new variables it is of the same type
same_type : (k : TypeEnv) (reads : List (ℕ × Value)) (v : Value) (t : Ty) → type_of k no_changes v ≡ Some t → type_of k (record { writes = reads; news = [] }) v ≡ Some t
same_type k reads (Int z) t e = e
same_type k reads (Truth b) t e = e
same_type k reads Nil t e = e
same_type k reads (Var (Old i)) t e = e
same_type k reads (Var (New i)) t e = absurd (cc)

module _ (store : List Cell) (reads : List (ℕ × Value)) (fits : Fits (plains store) (Commits reads [] Nil)) where
  new_applied : IsApplied store (Commits reads [] Nil) (store_with reads store)
  new_applied = is_applied store (Commits reads [] Nil) fits

  typed_read : (i : ℕ) (v : Value) → find i reads ≡ Some v → (t : Ty) × (kinds_of (plains store) i ≡ Some t) × (type_of (kinds_of (plains store)) (record { writes = reads; news = [] }) v ≡ Some t)
  unfolding Fits
  typed_read i v e = fits.writes i v e

  cell_by : (i : ℕ) (v : Value) (t : Ty) (o : Option Cell) → slice_get store i ≡ o → find i reads ≡ Some v → option_map (λ c. c.kind) o ≡ Some t → renumbered (length store) v ≡ v
      → under (store_with reads store) i ≡ Some v
  cell_by i v t None at e k r = cc
  cell_by i v t (Some c) at e k r =
      value_at (store_with reads store) i
      ∙ ap (option_map (λ c. c.value)) (new_applied.olds i (there store i c at) ∙ ap (option_map (after_write (length store) (find i reads))) at ∙ ap (λ (o : Option Value). Some (after_write (length store) o c)) e)
      ∙ ap Some r

  -- each variable has its value
  pub has_values : Agrees reads (under (store_with reads store))
  has_values i v e =
      let p = typed_read i v e in
      cell_by i v p.0 (slice_get store i) refl e (sym (kind_at store i) ∙ p.1) (not_renumbered (kinds_of (plains store)) reads (length store) v p.0 p.2)

  past : (i : ℕ) → nat_lt i (length store) ≡ false → slice_get (store_with reads store) i ≡ None
  past i h =
      let n = length store in
      let k : n + (i - n) ≡ i = (let l : n ≤ i = grind (arith, nat_tests) in omega arith) in
      subst (λ (j : ℕ). slice_get (store_with reads store) j ≡ None) k (new_applied.news (i - n))

  unread_cell : (i : ℕ) (o : Option Cell) → option_map (after_write (length store) None) o ≡ o
  unread_cell i None = refl
  unread_cell i (Some c) = refl

  other_by : (b : Bool) (i : ℕ) (x : Value) → nat_lt i (length store) ≡ b → find i reads ≡ None → under (store_with reads store) i ≡ Some x → under store i ≡ Some x
  other_by true i x h e u =
      let l : i < length store = grind (arith, nat_tests) in
      let same : slice_get (store_with reads store) i ≡ slice_get store i =
      new_applied.olds i l ∙ ap (λ (o : Option Value). option_map (after_write (length store) o) (slice_get store i)) e ∙ unread_cell i (slice_get store i) in
      value_at store i ∙ ap (option_map (λ c. c.value)) (sym same) ∙ sym (value_at (store_with reads store) i) ∙ u
  other_by false i x h e u = let n = value_at (store_with reads store) i ∙ ap (option_map (λ c. c.value)) (past i h) in cc

  -- and each other one the value that it had
  pub other_value : (i : ℕ) (x : Value) → find i reads ≡ None → under (store_with reads store) i ≡ Some x → under store i ≡ Some x
  other_value i x = other_by (nat_lt i (length store)) i x refl

  read_or_not : (i : ℕ) (x : Value) (o : Option Value) → find i reads ≡ o → Agrees reads (under store) → under (store_with reads store) i ≡ Some x → under store i ≡ Some x
  read_or_not i x None e a u = other_value i x e u
  read_or_not i x (Some v) e a u =
      let same : v ≡ x = (let p = has_values i v e in cc) in
      subst (λ (y : Value). under store i ≡ Some y) same (a i v e)

  -- if the store had these values, nothing is another one
  pub same_values : Agrees reads (under store) → (i : ℕ) (x : Value) → under (store_with reads store) i ≡ Some x → under store i ≡ Some x
  same_values a i x = read_or_not i x (find i reads) refl a

  kind_stays : (n : ℕ) (v : Option Value) (o : Option Cell) → option_map (λ c. c.kind) (option_map (after_write n v) o) ≡ option_map (λ c. c.kind) o
  kind_stays n v None = refl
  kind_stays n None (Some c) = refl
  kind_stays n (Some v) (Some c) = refl

  kind_by : (b : Bool) (i : ℕ) (k : Ty) → nat_lt i (length store) ≡ b → kinds_of (plains (store_with reads store)) i ≡ Some k → kinds_of (plains store) i ≡ Some k
  kind_by true i k h e =
      let l : i < length store = grind (arith, nat_tests) in
      kind_at store i ∙ sym (kind_stays (length store) (find i reads) (slice_get store i)) ∙ ap (option_map (λ c. c.kind)) (sym (new_applied.olds i l)) ∙ sym (kind_at (store_with reads store) i) ∙ e
  kind_by false i k h e = let n = kind_at (store_with reads store) i ∙ ap (option_map (λ c. c.kind)) (past i h) in cc

  -- no variable is new, and each has its type
  pub same_kinds : (i : ℕ) (k : Ty) → kinds_of (plains (store_with reads store)) i ≡ Some k → kinds_of (plains store) i ≡ Some k
  same_kinds i k = kind_by (nat_lt i (length store)) i k refl

-- ---- variables that aren't among those written
or_left : (a b : Bool) → (a || b) ≡ false → a ≡ false
or_left true b h = cc
or_left false b h = refl

or_right : (a b : Bool) → (a || b) ≡ false → b ≡ false
or_right true b h = cc
or_right false b h = h

turned : (i j : ℕ) → nat_eq i j ≡ false → nat_eq j i ≡ false
turned i j e = grind (arith, nat_tests)

pub not_found : (ws : List (ℕ × Value)) (i : ℕ) → list_any (nat_eq i) (map (λ w. w.0) ws) ≡ false → find i ws ≡ None
not_found [] i h = refl
not_found (w ∷ ws) i h =
    let here : nat_eq w.0 i ≡ false = turned i w.0 (or_left (nat_eq i w.0) (list_any (nat_eq i) (map (λ x. x.0) ws)) h) in
    rw here (not_found ws i (or_right (nat_eq i w.0) (list_any (nat_eq i) (map (λ x. x.0) ws)) h))

-- ---- values that a typed store had fit a later one
fitting_by : (then : List Cell) (store : List Cell) (reads : List (ℕ × Value)) (i : ℕ) (v : Value) (o : Option Cell) → StoreIsTyped (plains then)
    → ((j : ℕ) (k : Ty) → kinds_of (plains then) j ≡ Some k → kinds_of (plains store) j ≡ Some k) → slice_get then i ≡ o → option_map (λ c. c.value) o ≡ Some v
    → (t : Ty) × (kinds_of (plains store) i ≡ Some t) × (type_of (kinds_of (plains store)) (record { writes = reads; news = [] }) v ≡ Some t)
fitting_by then store reads i v None typed stay at e = cc
fitting_by then store reads i v (Some c) typed stay at e =
    let there : slice_get (plains then) i ≡ Some (plain c) = slice_get-map plain then i ∙ ap (option_map plain) at in
    let value : c.value ≡ v = cc in
    let type : type_of (kinds_of (plains then)) no_changes v ≡ Some c.kind = subst (λ (x : Value). type_of (kinds_of (plains then)) no_changes x ≡ Some c.kind) value (typed i (plain c) there) in
    (c.kind, stay i c.kind (kind_at then i ∙ ap (option_map (λ d. d.kind)) at), same_type (kinds_of (plains store)) reads v c.kind (old_type (kinds_of (plains then)) (kinds_of (plains store)) stay v c.kind type))

pub values_fit : (then : List Cell) (store : List Cell) (reads : List (ℕ × Value)) → StoreIsTyped (plains then)
    → ((j : ℕ) (k : Ty) → kinds_of (plains then) j ≡ Some k → kinds_of (plains store) j ≡ Some k) → Rising reads → Agrees reads (under then) → Fits (plains store) (Commits reads [] Nil)
unfolding Fits
values_fit then store reads typed stay rising agrees = record {
  rising = rising;
  writes = λ i v e. fitting_by then store reads i v (slice_get then i) typed stay refl (sym (value_at then i) ∙ agrees i v e);
  news = λ k c e. absurd (cc);
  result = (unit_ty, refl);
}
