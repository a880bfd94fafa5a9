-- Types that a variable may be declared with, after some names.
use Rattle.std.proofs.Common.{◌≡◌, ◌≢◌, ℕ, zero, suc, ◌+◌, ◌<◌, ◌≤◌, Bool, true, false, ◌&&◌, List, [], ◌∷◌, Option, Some, None, length, refl, sym, ap, ◌∙◌, arith}
use Rattle.std.specs.Prelude.{slice_get, option_map, is_some, nat_eq, nat_le, nat_lt, pos, if◌then◌else◌}
use Rattle.std.proofs.lemmas.Bool.{false≢true}
use Rattle.std.proofs.lemmas.Bool.Decides.{nat_tests}
use Rattle.std.proofs.lemmas.Option.{slice_get_within}
use Rattle.stm_terms.specs.declared.kinds.Base.{Base as BaseTy}
use Rattle.stm_terms.specs.declared.kinds.Base.TheVariants.{Int as IntBase, Bool as BoolBase, Unit as UnitBase}
use Rattle.stm_terms.specs.declared.kinds.Ty.{Ty}
use Rattle.stm_terms.specs.declared.values.Ref.TheVariants.{Old, New}
use Rattle.stm_terms.specs.declared.values.Value.{Value}
use Rattle.stm_terms.specs.declared.values.Value.TheVariants as value
use Rattle.stm_terms.specs.Changes.{no_changes}
use Rattle.stm_terms.specs.Typing.{type_of, same_ty, var_ty}
use Rattle.stm_store.specs.Cells.{kinds_of}
use Rattle.stm_store.specs.Naming.{Named, known_kinds, named_from, named_in_table, MayHaveType, AreKnown}
use Rattle.stm_store.specs.Tables.{Declared, declared_cells, number_of, declare_refusal, is_type, may_hold}
use Rattle.stm_store.proofs.TypeTestsDecide.{and_left, and_right, both, kind_from, kind_to, le_true, true_le}

pub low_of_held : (known : List Named) (kind : Ty) → MayHaveType known kind → kind.refs ≤ 8
low_of_held known kind h = le_true _ _ (and_left _ _ h.1)

-- ---- the variables of a table
itself : (n : ℕ) → nat_eq n n ≡ true
itself n = grind (arith, nat_tests)

later : (n j : ℕ) → nat_eq n (n + suc j) ≡ false
later n j = grind (arith, nat_tests)

kinds_named : (n : ℕ) (table : List Declared) (j : ℕ) → known_kinds (named_from n table) (n + j) ≡ kinds_of (declared_cells table) j
kinds_named n [] j = refl
kinds_named n (d ∷ table) zero =
    let p : n + 0 ≡ n = omega arith in let same = itself n in
    rw (p, same) refl
kinds_named n (d ∷ table) (suc j) =
    let other = later n j in let p : n + suc j ≡ n + 1 + j = omega arith in
    rw other (ap (known_kinds (named_from (n + 1) table)) p ∙ kinds_named (n + 1) table j)

value_named : (table : List Declared) (v : Value) → type_of (known_kinds (named_in_table table)) no_changes v ≡ type_of (kinds_of (declared_cells table)) no_changes v
value_named table (value.Int n) = refl
value_named table (value.Bool b) = refl
value_named table value.Unit = refl
value_named table (value.Var (Old i)) =
    let zero_less : 0 + i ≡ i = omega arith in
    ap (option_map var_ty) (ap (known_kinds (named_in_table table)) (sym zero_less) ∙ kinds_named 0 table i)
value_named table (value.Var (New k)) = refl

held_by : (table : List Declared) (name : List ℕ) (kind : Ty) (v : Value) (taken holds : Bool) → is_some (number_of name table) ≡ taken → may_hold (declared_cells table) kind v ≡ holds → declare_refusal table name kind v ≡ None → holds ≡ true
held_by table name kind v true holds t h e = let q = rw t at e in absurd (cc (q))
held_by table name kind v false true t h e = refl
held_by table name kind v false false t h e = let q = rw (t, h) at e in absurd (cc (q))

pub held_in_table : (table : List Declared) (name : List ℕ) (kind : Ty) (v : Value) → declare_refusal table name kind v ≡ None → MayHaveType (named_in_table table) kind
held_in_table table name kind v e =
    (v, ap (λ (o : Option Ty). nat_le kind.refs 8 && is_type o kind) (value_named table v) ∙ held_by table name kind v _ _ refl refl e)

-- ---- the test
abbrev plain_value : BaseTy → Value
plain_value IntBase = value.Int (pos 0)
plain_value BoolBase = value.Bool false
plain_value UnitBase = value.Unit

plain_type : (known : List Named) (base : BaseTy) → type_of (known_kinds known) no_changes (plain_value base) ≡ Some (record { base = base; refs = 0 })
plain_type known IntBase = refl
plain_type known BoolBase = refl
plain_type known UnitBase = refl

pub plain_held : (known : List Named) (kind : Ty) → kind.refs ≡ 0 → MayHaveType known kind
plain_held known kind z =
    let whole : record { base = kind.base; refs = 0 } ≡ kind = λ i. record { base = kind.base; refs = sym z i } in
    (plain_value kind.base, both _ _ (true_le _ _ (omega (arith, z))) (kind_to _ _ (plain_type known kind.base ∙ ap Some whole)))

-- a reference to a variable that has a name
pub reference_held : (known : List Named) (number : ℕ) (inner kind : Ty) → known_kinds known number ≡ Some inner → same_ty (var_ty inner) kind ≡ true → kind.refs ≤ 8 → MayHaveType known kind
reference_held known number inner kind k s l = (value.Var (Old number), both _ _ (true_le _ _ l) (ap (λ (o : Option Ty). is_type (option_map var_ty o) kind) k ∙ s))

-- each variable of a number that is known is at some place
pub record IsPlacedKind (known : List Named) (kind : Ty) : Type 0 where
  pub place : ℕ
  pub variable : Named
  pub there : slice_get known place ≡ Some variable
  pub kind_is : variable.kind ≡ kind

kind_by : (b : Bool) (d : Named) (known : List Named) (kind : Ty) (o : Option Ty) → (o ≡ Some kind → IsPlacedKind known kind) → (if b then Some d.kind else o) ≡ Some kind → IsPlacedKind (d ∷ known) kind
kind_by true d known kind o more e = record { place = zero; variable = d; there = refl; kind_is = cc }
kind_by false d known kind o more e = let p = more e in record { place = suc p.place; variable = p.variable; there = p.there; kind_is = p.kind_is }

kind_placed : (known : List Named) (number : ℕ) (kind : Ty) → known_kinds known number ≡ Some kind → IsPlacedKind known kind
kind_placed [] number kind e = absurd (cc)
kind_placed (d ∷ known) number kind e = kind_by (nat_eq d.number number) d known kind (known_kinds known number) (kind_placed known number kind) e

-- no variable has the type that references of the type refer to
abbrev pub RefersNowhere : List Named → Ty → Type 0
RefersNowhere known kind = (i : ℕ) (d : Named) → slice_get known i ≡ Some d → same_ty (var_ty d.kind) kind ≡ false

refs_by : (b : BaseTy) (kind : Ty) → same_ty (record { base = b; refs = 0 }) kind ≡ true → kind.refs ≡ 0
refs_by b kind e =
    let p = kind_from (Some (record { base = b; refs = 0 })) kind e in
    let q : record { base = b; refs = 0 } ≡ kind = cc in
    ap (λ (t : Ty). t.refs) (sym q)

found_by : (known : List Named) (kind : Ty) (o : Option Ty) (number : ℕ) → known_kinds known number ≡ o → RefersNowhere known kind → is_type (option_map var_ty o) kind ≡ true → ⊥
found_by known kind None number e none t = false≢true t
found_by known kind (Some inner) number e none t =
    let p = kind_placed known number inner e in
    let q = none p.place p.variable p.there in
    false≢true (sym q ∙ ap (λ (k : Ty). same_ty (var_ty k) kind) p.kind_is ∙ t)

pub nowhere_held : (known : List Named) (kind : Ty) → kind.refs ≢ 0 → RefersNowhere known kind → MayHaveType known kind → ⊥
nowhere_held known kind z none (value.Int n, e) = z (refs_by IntBase kind (and_right _ _ e))
nowhere_held known kind z none (value.Bool b, e) = z (refs_by BoolBase kind (and_right _ _ e))
nowhere_held known kind z none (value.Unit, e) = z (refs_by UnitBase kind (and_right _ _ e))
nowhere_held known kind z none (value.Var (Old i), e) = found_by known kind (known_kinds known i) i refl none (and_right _ _ e)
nowhere_held known kind z none (value.Var (New k), e) = false≢true (and_right (nat_le kind.refs 8) _ e)

-- what references of the type refer to is the type of the variable at a place
held_by_place : (known : List Named) (place : ℕ) (inner kind : Ty) (o : Option Named) → slice_get known place ≡ o → AreKnown known → option_map (λ d. d.kind) o ≡ Some inner → same_ty (var_ty inner) kind ≡ true → kind.refs ≤ 8 → MayHaveType known kind
held_by_place known place inner kind None e k t s l = absurd (cc)
held_by_place known place inner kind (Some d) e k t s l =
    let p : d.kind ≡ inner = cc in
    reference_held known d.number inner kind (k.typed place d e ∙ ap Some p) s l

pub held_at_place : (known : List Named) (place : ℕ) (inner kind : Ty) → AreKnown known → option_map (λ d. d.kind) (slice_get known place) ≡ Some inner → same_ty (var_ty inner) kind ≡ true → kind.refs ≤ 8 → MayHaveType known kind
held_at_place known place inner kind = held_by_place known place inner kind (slice_get known place) refl

-- none so far, and no more of them
next_by : (known : List Named) (place i : ℕ) (inner kind : Ty) (d : Named) (b : Bool) → ((j : ℕ) (x : Named) → slice_get known j ≡ Some x → j < place → same_ty (var_ty x.kind) kind ≡ false) → option_map (λ x. x.kind) (slice_get known place) ≡ Some inner → same_ty (var_ty inner) kind ≡ false → slice_get known i ≡ Some d → i < place + 1 → nat_lt i place ≡ b → same_ty (var_ty d.kind) kind ≡ false
next_by known place i inner kind d true before t none e l b = before i d e (let r = b in grind (arith, nat_tests))
next_by known place i inner kind d false before t none e l b =
    let here : i ≡ place = (let r = b in let m = l in grind (arith, nat_tests)) in
    let p : option_map (λ (x : Named). x.kind) (Some d) ≡ Some inner = ap (option_map (λ (x : Named). x.kind)) (sym e ∙ ap (slice_get known) here) ∙ t in
    let q : d.kind ≡ inner = cc in
    ap (λ (t : Ty). same_ty (var_ty t) kind) q ∙ none

pub none_next : (known : List Named) (place : ℕ) (inner kind : Ty) → ((j : ℕ) (x : Named) → slice_get known j ≡ Some x → j < place → same_ty (var_ty x.kind) kind ≡ false) → option_map (λ x. x.kind) (slice_get known place) ≡ Some inner → same_ty (var_ty inner) kind ≡ false
    → (i : ℕ) (d : Named) → slice_get known i ≡ Some d → i < place + 1 → same_ty (var_ty d.kind) kind ≡ false
none_next known place inner kind before t none i d e l = next_by known place i inner kind d (nat_lt i place) before t none e l refl

pub none_at_all : (known : List Named) (place : ℕ) (kind : Ty) → length known ≤ place → ((j : ℕ) (x : Named) → slice_get known j ≡ Some x → j < place → same_ty (var_ty x.kind) kind ≡ false) → RefersNowhere known kind
none_at_all known place kind l before i d e = let w = slice_get_within known i d e in before i d e (omega (arith, w, l))
