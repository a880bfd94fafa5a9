-- Heaps with other names for new cells: what a write and a new cell do to both.
use Rattle.std.proofs.Common.{◌≡◌, ◌+◌, arith, ℕ, zero, suc, Bool, true, false, List, [], ◌∷◌, ◌++◌, length, ◌⊎◌, inl, inr, Option, Some, None, refl, ap, sym, ◌∙◌, subst, ⊎_elim, eqb-true}
use Rattle.std.specs.Prelude.{slice_get, option_map, nat_eq, map, if◌then◌else◌}
use Rattle.std.proofs.Math.Dec.{eqb-suc-suc, eqb-suc-zero, eqb-zero-suc}
use Rattle.stm_terms.specs.declared.kinds.Ty.{Ty}
use Rattle.stm_terms.specs.declared.values.Ref.{Ref}
use Rattle.stm_terms.specs.declared.values.Ref.TheVariants.{Old, New}
use Rattle.stm_terms.specs.declared.values.Value.{Value}
use Rattle.stm_terms.specs.Value.{same_ref}
use Rattle.stm_paper_laws.specs.Transitions.{Heap, Allocations, updated}
use Rattle.stm_paper_laws.specs.Laws.{numbered_cells, Naming, IsSame, same_int, same_truth, same_unit, same_var, HoldSame, AreSameHeaps, AreSameCells, NamesGrow}

-- ---- tests of names
pub same_some : {A : Type 0} (x y : A) → Some x ≡ Some y → x ≡ y
same_some x y e = cc

pub nothing : {A B : Type 0} (o : Option A) (x : A) → o ≡ None → o ≡ Some x → B
nothing o x p q = let r : None ≡ Some x = sym p ∙ q in absurd (cc)

head_same : {A : Type 0} (x y : A) (xs ys : List A) → x ∷ xs ≡ y ∷ ys → x ≡ y
head_same x y xs ys e = cc

tail_same : {A : Type 0} (x y : A) (xs ys : List A) → x ∷ xs ≡ y ∷ ys → xs ≡ ys
tail_same x y xs ys e = cc

no_more : (n : ℕ) → n + 0 ≡ n
no_more n = omega arith

one_on : (n m : ℕ) → n + suc m ≡ suc n + m
one_on n m = omega arith

from_zero : (n : ℕ) → n ≡ 0 + n
from_zero n = omega arith

pub eqb_self : (n : ℕ) → nat_eq n n ≡ true
eqb_self zero = refl
eqb_self (suc n) = eqb-suc-suc n n ∙ eqb_self n

pub ref_self : (r : Ref) → same_ref r r ≡ true
ref_self (Old i) = eqb_self i
ref_self (New i) = eqb_self i

pub ref_true : (r s : Ref) → same_ref r s ≡ true → r ≡ s
ref_true (Old i) (Old j) e = ap Old (eqb-true i j e)
ref_true (New i) (New j) e = ap New (eqb-true i j e)
ref_true (Old i) (New j) e = absurd (cc)
ref_true (New i) (Old j) e = absurd (cc)

pub true_or_false : (b : Bool) → (b ≡ true) ⊎ (b ≡ false)
true_or_false true = inl refl
true_or_false false = inr refl

pub same_bools : (b c : Bool) → (b ≡ true → c ≡ true) → (c ≡ true → b ≡ true) → b ≡ c
same_bools true c f g = sym (f refl)
same_bools false true f g = g refl
same_bools false false f g = refl

is_then : {A : Type 0} (b : Bool) (x y : A) → b ≡ true → (if b then x else y) ≡ x
is_then b x y e = ap (λ c. if c then x else y) e

is_else : {A : Type 0} (b : Bool) (x y : A) → b ≡ false → (if b then x else y) ≡ y
is_else b x y e = ap (λ c. if c then x else y) e

-- ---- heaps
-- the heap of a view, with its new cells by the names and the types of Δ, and the same one but for names
pub record IsRenamed (called : Naming) (here : Heap) (types : List Ty) (Θ : Heap) (Δ : Allocations) : Type 0 where
  -- new cells have the names and the types of Δ, in order
  pub news : (k : ℕ) → called (New k) ≡ option_map (λ c. c.0) (slice_get Δ k)
  pub types_are : map (λ c. c.1) Δ ≡ types
  -- and it is the same heap
  pub apart : (q r s : Ref) → called q ≡ Some s → called r ≡ Some s → q ≡ r
  pub holds : (r s : Ref) → called r ≡ Some s → HoldSame called (here r) (Θ s)
  pub all : (r : Ref) (v : Value) → here r ≡ Some v → (s : Ref) × (called r ≡ Some s)
  pub only : (s : Ref) (w : Value) → Θ s ≡ Some w → (r : Ref) × (called r ≡ Some s)

pub same_heaps : {called : Naming} {here : Heap} {types : List Ty} {Θ : Heap} {Δ : Allocations} → IsRenamed called here types Θ Δ → AreSameHeaps called here Θ
same_heaps n = record { apart = n.apart; holds = n.holds; all = n.all; only = n.only }

-- the cells that are numbered from m on
cells_from : (called : Naming) (cells : List (Ty × Value)) (m : ℕ) (Δ : Allocations) → ((k : ℕ) → called (New (m + k)) ≡ option_map (λ c. c.0) (slice_get Δ k))
    → map (λ c. c.1) Δ ≡ map (λ c. c.0) cells → AreSameCells called (numbered_cells m cells) Δ
cells_from called [] m [] n e = tt
cells_from called [] m (d ∷ Δ) n e = absurd (cc)
cells_from called (c ∷ cs) m [] n e = absurd (cc)
cells_from called (c ∷ cs) m (d ∷ Δ) n e =
    let t : d.1 ≡ c.0 = head_same d.1 c.0 _ _ e in
    let r : map (λ c. c.1) Δ ≡ map (λ c. c.0) cs = tail_same d.1 c.0 _ _ e in
    (ap (λ j. called (New j)) (sym (no_more m)) ∙ n 0, sym t, cells_from called cs (suc m) Δ (λ k. ap (λ j. called (New j)) (sym (one_on m k)) ∙ n (suc k)) r)

pub same_cells : {called : Naming} {here : Heap} {Θ : Heap} {Δ : Allocations} (cells : List (Ty × Value)) → IsRenamed called here (map (λ c. c.0) cells) Θ Δ → AreSameCells called (numbered_cells 0 cells) Δ
same_cells {called} {Δ} cells n = cells_from called cells 0 Δ (λ k. ap (λ j. called (New j)) (sym (from_zero k)) ∙ n.news k) n.types_are

-- ---- more names
pub same_grows : {f g : Naming} → NamesGrow f g → {v w : Value} → IsSame f v w → IsSame g v w
same_grows m same_int = same_int
same_grows m same_truth = same_truth
same_grows m same_unit = same_unit
same_grows m (same_var {r} {s} p) = same_var (m r s p)

module _ {called : Naming} {here : Heap} {types : List Ty} {Θ : Heap} {Δ : Allocations} (n : IsRenamed called here types Θ Δ) where
  -- one name for one cell
  pub tests_agree : (q r s t : Ref) → called q ≡ Some s → called r ≡ Some t → same_ref q r ≡ same_ref s t
  tests_agree q r s t e f =
      same_bools _ _
      (λ h. let p : Some s ≡ Some t = sym e ∙ ap called (ref_true q r h) ∙ f in subst (λ z. same_ref s z ≡ true) (same_some s t p) (ref_self s))
      (λ h. let p : q ≡ r = n.apart q r t (e ∙ ap Some (ref_true s t h)) f in subst (λ z. same_ref q z ≡ true) p (ref_self q))

  held : (f : Naming) (b c : Bool) (v w : Value) (o p : Option Value) → b ≡ c → IsSame f v w → HoldSame f o p → HoldSame f (if b then Some v else o) (if c then Some w else p)
  held f true c v w o p e s h = subst (λ z. HoldSame f (Some v) (if z then Some w else p)) e (v, w, refl, refl, s)
  held f false c v w o p e s h = subst (λ z. HoldSame f o (if z then Some w else p)) e h

  pub write_renamed : (r s : Ref) (v w : Value) → called r ≡ Some s → IsSame called v w → IsRenamed called (updated here r v) types (updated Θ s w) Δ
  write_renamed r s v w e same = record {
    news = n.news;
    types_are = n.types_are;
    apart = n.apart;
    holds = λ q t p. held called (same_ref r q) (same_ref s t) v w (here q) (Θ t) (tests_agree r q s t e p) same (n.holds q t p);
    all = λ q x p. ⊎_elim
        (λ yes. (s, ap called (sym (ref_true r q yes)) ∙ e))
        (λ other. n.all q x (sym (is_else (same_ref r q) (Some v) (here q) other) ∙ p))
        (true_or_false (same_ref r q));
    only = λ t x p. ⊎_elim
        (λ yes. (r, e ∙ ap Some (ref_true s t yes)))
        (λ other. n.only t x (sym (is_else (same_ref s t) (Some w) (Θ t) other) ∙ p))
        (true_or_false (same_ref s t));
  }

push_name : (Δ : Allocations) (c : Ref × Ty) (k : ℕ) → (if nat_eq (length Δ) k then Some c.0 else option_map (λ c. c.0) (slice_get Δ k)) ≡ option_map (λ c. c.0) (slice_get (Δ ++ c ∷ []) k)
push_name [] c zero = refl
push_name [] c (suc k) = is_else _ _ _ (eqb-zero-suc k)
push_name (d ∷ Δ) c zero = is_else _ _ _ (eqb-suc-zero (length Δ))
push_name (d ∷ Δ) c (suc k) = ap (λ b. if b then Some c.0 else option_map (λ c. c.0) (slice_get Δ k)) (eqb-suc-suc (length Δ) k) ∙ push_name Δ c k

push_type : (Δ : Allocations) (c : Ref × Ty) → map (λ c. c.1) (Δ ++ c ∷ []) ≡ map (λ c. c.1) Δ ++ c.1 ∷ []
push_type [] c = refl
push_type (d ∷ Δ) c = ap (λ l. d.1 ∷ l) (push_type Δ c)

-- a name for one more cell
abbrev pub with_name : Naming → Ref → Ref → Naming
with_name called r s q = if same_ref r q then Some s else called q

pub self_named : (called : Naming) (r s : Ref) → with_name called r s r ≡ Some s
self_named called r s = is_then (same_ref r r) (Some s) (called r) (ref_self r)

module _ {called : Naming} {here : Heap} {types : List Ty} {Θ : Heap} {Δ : Allocations} (n : IsRenamed called here types Θ Δ) (k : ℕ) (k_is : k ≡ length Δ) (free : here (New k) ≡ None) (s : Ref) (fresh : Θ s ≡ None) where
  unnamed : (q : Ref) → called q ≡ Some s → ⊥
  unnamed q e = let h = n.holds q s e in nothing (Θ s) h.1 fresh h.3

  nameless : (q : Ref) → called (New k) ≡ Some q → ⊥
  nameless q e = let h = n.holds (New k) q e in nothing (here (New k)) h.0 free h.2

  pub name_grows : NamesGrow called (with_name called (New k) s)
  name_grows q t e = ⊎_elim
      (λ yes. absurd (nameless t (ap called (ref_true (New k) q yes) ∙ e)))
      (λ other. is_else (same_ref (New k) q) (Some s) (called q) other ∙ e)
      (true_or_false (same_ref (New k) q))

  -- what is called so
  named_by : (q t : Ref) → with_name called (New k) s q ≡ Some t → ((q ≡ New k) × (t ≡ s)) ⊎ (called q ≡ Some t)
  named_by q t e = ⊎_elim
      (λ yes. inl (sym (ref_true (New k) q yes), same_some t s (sym e ∙ is_then (same_ref (New k) q) (Some s) (called q) yes)))
      (λ other. inr (sym (is_else (same_ref (New k) q) (Some s) (called q) other) ∙ e))
      (true_or_false (same_ref (New k) q))

  pub new_renamed : (t : Ty) (v w : Value) → IsSame called v w → IsRenamed (with_name called (New k) s) (updated here (New k) v) (types ++ t ∷ []) (updated Θ s w) (Δ ++ (s, t) ∷ [])
  new_renamed t v w same = record {
    news = λ j. (λ i. if nat_eq (k_is i) j then Some s else n.news j i) ∙ push_name Δ (s, t) j;
    types_are = push_type Δ (s, t) ∙ ap (λ l. l ++ t ∷ []) n.types_are;
    apart = λ q r x e f. ⊎_elim
        (λ a. ⊎_elim (λ b. a.0 ∙ sym b.0) (λ b. absurd (unnamed r (b ∙ ap Some a.1))) (named_by r x f))
        (λ a. ⊎_elim (λ b. absurd (unnamed q (a ∙ ap Some b.1))) (λ b. n.apart q r x a b) (named_by r x f))
        (named_by q x e);
    holds = λ q x e. ⊎_elim
        (λ a. (
          v,
          w,
          is_then (same_ref (New k) q) (Some v) (here q) (ap (same_ref (New k)) a.0 ∙ ref_self (New k)),
          is_then (same_ref s x) (Some w) (Θ x) (ap (same_ref s) a.1 ∙ ref_self s),
          same_grows name_grows same,
        ))
        (λ a.
        let h = n.holds q x a in
        let other_q : same_ref (New k) q ≡ false = ⊎_elim (λ yes. absurd (nameless x (ap called (ref_true (New k) q yes) ∙ a))) (λ no. no) (true_or_false (same_ref (New k) q)) in
        let other_x : same_ref s x ≡ false = ⊎_elim (λ yes. absurd (unnamed q (a ∙ ap Some (sym (ref_true s x yes))))) (λ no. no) (true_or_false (same_ref s x)) in (
          h.0,
          h.1,
          is_else (same_ref (New k) q) (Some v) (here q) other_q ∙ h.2,
          is_else (same_ref s x) (Some w) (Θ x) other_x ∙ h.3,
          same_grows name_grows h.4,
        ))
        (named_by q x e);
    all = λ q x e. ⊎_elim
        (λ yes. (s, is_then (same_ref (New k) q) (Some s) (called q) yes))
        (λ other. let a = n.all q x (sym (is_else (same_ref (New k) q) (Some v) (here q) other) ∙ e) in (a.0, name_grows q a.0 a.1))
        (true_or_false (same_ref (New k) q));
    only = λ x y e. ⊎_elim
        (λ yes. (New k, is_then (same_ref (New k) (New k)) (Some s) (called (New k)) (ref_self (New k)) ∙ ap Some (ref_true s x yes)))
        (λ other. let a = n.only x y (sym (is_else (same_ref s x) (Some w) (Θ x) other) ∙ e) in (a.0, name_grows a.0 x a.1))
        (true_or_false (same_ref s x));
  }
