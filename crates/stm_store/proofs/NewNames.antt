-- Names with one more.
use Rattle.std.proofs.Common.{◌≡◌, inl, inr, ℕ, zero, suc, ◌<◌, ◌≤◌, Bool, true, false, List, [], ◌∷◌, ◌++◌, Option, Some, None, String, cond, map, take, string_bytes, refl, sym, ap, subst, ◌∙◌, arith}
use Rattle.std.specs.Prelude.{slice_get, option_map, nat_eq, IsTrue, if◌then◌else◌}
use Rattle.std.specs.Global.{Global}
use Rattle.std.specs.Str.{bytes_eq}
use Rattle.std.specs.Map.{lookup}
use Rattle.std.proofs.lemmas.Bool.Decides.{nat_tests}
use Rattle.std.proofs.lemmas.List.{take-append-le}
use Rattle.std.proofs.lemmas.Option.{slice_get_within}
use Rattle.std.proofs.lemmas.Slice.Eq.{bytes_eq-Decides}
use Rattle.std.proofs.Math.Seq.{take-append_seam}
use Rattle.indexmap.specs.IndexMap.{insert_entry}
use Rattle.stm_terms.specs.declared.kinds.Ty.{Ty}
use Rattle.stm_terms.specs.Names.{is_name_text}
use Rattle.stm_terms.specs.Typing.{TypeEnv}
use Rattle.stm_store.specs.NameEntries.{named_of}
use Rattle.stm_store.specs.Naming.{Named, known_kinds, number_named, with_kind, variable_named, MayHaveType, NumbersAreBelow, AreKnown}
use Rattle.stm_store.proofs.HeldTypes.{low_of_held}
use Rattle.stm_store.proofs.Naming.{number_stays, known_stay}
use Rattle.stm_store.proofs.Places.{same_bytes}
use Rattle.stm_store.proofs.Typed.{added_cases}

abbrev Entry : Type 0
Entry = String Global × (ℕ × Ty)

-- ---- looking a name up
number_by : (b : Bool) (v : ℕ × Ty) (o : Option (ℕ × Ty)) (p : Option ℕ) → option_map (λ w. w.0) o ≡ p → option_map (λ w. w.0) (cond b (Some v) o) ≡ (if b then Some v.0 else p)
number_by true v o p e = refl
number_by false v o p e = e

pub number_looked : (name : List ℕ) (es : List Entry) → option_map (λ v. v.0) (lookup (λ k. bytes_eq name (string_bytes k)) es) ≡ number_named name (map named_of es)
number_looked name [] = refl
number_looked name (e ∷ es) =
    let q : bytes_eq (string_bytes e.0) name ≡ bytes_eq name (string_bytes e.0) = same_bytes (string_bytes e.0) name in
    rw q (number_by (bytes_eq name (string_bytes e.0)) e.1 (lookup (λ k. bytes_eq name (string_bytes k)) es) (number_named name (map named_of es)) (number_looked name es))

-- what is found is at some place
pub record IsPlaced (es : List Entry) (v : ℕ × Ty) : Type 0 where
  pub place : ℕ
  pub key : String Global
  pub there : slice_get (map named_of es) place ≡ Some (named_of (key, v))

placed_by : (b : Bool) (e : Entry) (es : List Entry) (o : Option (ℕ × Ty)) (v : ℕ × Ty) → (o ≡ Some v → IsPlaced es v) → cond b (Some e.1) o ≡ Some v → IsPlaced (e ∷ es) v
placed_by true e es o v more h = let p : e.1 ≡ v = cc in record { place = zero; key = e.0; there = ap (λ (w : ℕ × Ty). Some (named_of (e.0, w))) p }
placed_by false e es o v more h = let p = more h in record { place = suc p.place; key = p.key; there = p.there }

pub placed : (test : String Global → Bool) (es : List Entry) (v : ℕ × Ty) → lookup test es ≡ Some v → IsPlaced es v
placed test [] v h = absurd (cc)
placed test (e ∷ es) v h = placed_by (test e.0) e es (lookup test es) v (placed test es v) h

kind_looked : (test : String Global → Bool) (es : List Entry) (v : ℕ × Ty) → AreKnown (map named_of es) → lookup test es ≡ Some v → known_kinds (map named_of es) v.0 ≡ Some v.1
kind_looked test es v k h = let p = placed test es v h in k.typed p.place (named_of (p.key, v)) p.there

-- a variable that is found by its number, with the type of that number's cell
found_by : (kinds : TypeEnv) (o : Option (ℕ × Ty)) (n : Option ℕ) → option_map (λ v. v.0) o ≡ n → ((v : ℕ × Ty) → o ≡ Some v → kinds v.0 ≡ Some v.1) → o ≡ with_kind kinds n
found_by kinds (Some v) (Some i) e k =
    let p : v.0 ≡ i = cc in
    ap (λ (t : Option Ty). option_map (λ u. (v.0, u)) t) (sym (k v refl)) ∙ ap (λ (j : ℕ). with_kind kinds (Some j)) p
found_by kinds (Some v) None e k = absurd (cc)
found_by kinds None (Some i) e k = absurd (cc)
found_by kinds None None e k = refl

pub found_looked : (name : List ℕ) (es : List Entry) → AreKnown (map named_of es) → lookup (λ k. bytes_eq name (string_bytes k)) es ≡ variable_named name (map named_of es)
found_looked name es k =
    found_by (known_kinds (map named_of es)) (lookup (λ k. bytes_eq name (string_bytes k)) es) (number_named name (map named_of es)) (number_looked name es) (λ v. kind_looked (λ k. bytes_eq name (string_bytes k)) es v k)

pub low_looked : (test : String Global → Bool) (es : List Entry) (v : ℕ × Ty) → AreKnown (map named_of es) → lookup test es ≡ Some v → v.1.refs ≤ 8
low_looked test es v k h = let p = placed test es v h in low_of_held (take p.place (map named_of es)) v.1 (k.held p.place (named_of (p.key, v)) p.there)

-- ---- adding one
last_number : (ns : List Named) (d : Named) → number_named d.name ns ≡ None → number_named d.name (ns ++ d ∷ []) ≡ Some d.number
last_number [] d e = let same : bytes_eq d.name d.name ≡ true = (bytes_eq-Decides d.name d.name).1 refl in rw same refl
last_number (n ∷ ns) d e = by_name (bytes_eq n.name d.name) (number_named d.name ns) (number_named d.name (ns ++ d ∷ [])) e (last_number ns d) where
  by_name : (b : Bool) (o p : Option ℕ) → (if b then Some n.number else o) ≡ None → (o ≡ None → p ≡ Some d.number) → (if b then Some n.number else p) ≡ Some d.number
  by_name true o p e more = absurd (cc)
  by_name false o p e more = more e

other : (m n : ℕ) → m < n → nat_eq m n ≡ false
other m n h = grind (arith, nat_tests)

itself : (n : ℕ) → nat_eq n n ≡ true
itself n = grind (arith, nat_tests)

last_kind : (ns : List Named) (d : Named) → NumbersAreBelow d.number ns → known_kinds (ns ++ d ∷ []) d.number ≡ Some d.kind
last_kind [] d b = let same = itself d.number in rw same refl
last_kind (n ∷ ns) d b =
    let apart : nat_eq n.number d.number ≡ false = other n.number d.number (b zero n refl) in
    rw apart (last_kind ns d (λ i x e. b (suc i) x e))

-- the last number is above all others
ascending_added : (ns : List Named) (d : Named) → AreKnown ns → NumbersAreBelow d.number ns → (i j : ℕ) (x y : Named)
    → slice_get (ns ++ d ∷ []) i ≡ Some x → slice_get (ns ++ d ∷ []) j ≡ Some y → i < j → x.number < y.number
ascending_added ns d k above i j x y f g l =
    elim (added_cases ns d i x f) [
      | inl p ↦
          elim (added_cases ns d j y g) [
            | inl q ↦ k.ascending i j x y p q l
            | inr q ↦ subst (λ (z : Named). x.number < z.number) q.1 (above i x p)
          ]
      | inr p ↦
          elim (added_cases ns d j y g) [
            | inl q ↦ let r = slice_get_within ns j y q in absurd (omega (arith, r, p.0))
            | inr q ↦ absurd (omega (arith, q.0, p.0))
          ]
    ]

-- the names before a place stay
held_added : (ns : List Named) (d : Named) → AreKnown ns → MayHaveType ns d.kind → (i : ℕ) (x : Named) → slice_get (ns ++ d ∷ []) i ≡ Some x → MayHaveType (take i (ns ++ d ∷ [])) x.kind
held_added ns d k h i x f =
    elim (added_cases ns d i x f) [
      | inl p ↦ let l = slice_get_within ns i x p in subst (λ (few : List Named). MayHaveType few x.kind) (sym (take-append-le i ns (d ∷ []) (omega (arith, l)))) (k.held i x p)
      | inr p ↦
          let few : take i (ns ++ d ∷ []) ≡ ns = ap (λ (n : ℕ). take n (ns ++ d ∷ [])) p.0 ∙ take-append_seam ns (d ∷ []) in
          subst (λ (few : List Named). MayHaveType few x.kind) (sym few) (subst (λ (y : Named). MayHaveType ns y.kind) p.1 h)
    ]

pub known-added : (ns : List Named) (d : Named) → AreKnown ns → IsTrue (is_name_text d.name) → number_named d.name ns ≡ None → NumbersAreBelow d.number ns → MayHaveType ns d.kind → AreKnown (ns ++ d ∷ [])
known-added ns d k name fresh above held = record {
  named = λ i x f. elim (added_cases ns d i x f) [ inl p ↦ k.named i x p | inr p ↦ subst (λ (y : Named). IsTrue (is_name_text y.name)) p.1 name ];
  ascending = ascending_added ns d k above;
  distinct = λ i x f.
      elim (added_cases ns d i x f) [
        | inl p ↦ number_stays x.name ns (d ∷ []) x.number (k.distinct i x p)
        | inr p ↦ subst (λ (y : Named). number_named y.name (ns ++ d ∷ []) ≡ Some y.number) p.1 (last_number ns d fresh)
      ];
  typed = λ i x f.
      elim (added_cases ns d i x f) [
        | inl p ↦ known_stay ns (d ∷ []) x.number x.kind (k.typed i x p)
        | inr p ↦ subst (λ (y : Named). known_kinds (ns ++ d ∷ []) y.number ≡ Some y.kind) p.1 (last_kind ns d above)
      ];
  held = held_added ns d k held;
}

-- a key that the map lacks goes last
pub inserted : (es : List Entry) (key : String Global) (v : ℕ × Ty) → number_named (string_bytes key) (map named_of es) ≡ None
    → map named_of (insert_entry (λ a b. bytes_eq (string_bytes a) (string_bytes b)) es key v) ≡ map named_of es ++ named_of (key, v) ∷ []
inserted [] key v h = refl
inserted (x ∷ es) key v h =
    let q : bytes_eq (string_bytes key) (string_bytes x.0) ≡ bytes_eq (string_bytes x.0) (string_bytes key) = same_bytes (string_bytes key) (string_bytes x.0) in
    rw q (by_name (bytes_eq (string_bytes x.0) (string_bytes key)) (number_named (string_bytes key) (map named_of es)) (insert_entry (λ a b. bytes_eq (string_bytes a) (string_bytes b)) es key v) h (inserted es key v)) where
      by_name : (b : Bool) (o : Option ℕ) (fs : List Entry) → (if b then Some x.1.0 else o) ≡ None → (o ≡ None → map named_of fs ≡ map named_of es ++ named_of (key, v) ∷ [])
          → map named_of (cond b ((x.0, v) ∷ es) (x ∷ fs)) ≡ named_of x ∷ (map named_of es ++ named_of (key, v) ∷ [])
      by_name true o fs h more = absurd (cc)
      by_name false o fs h more = ap (λ (l : List Named). named_of x ∷ l) (more h)
