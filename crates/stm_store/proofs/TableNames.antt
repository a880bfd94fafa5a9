-- The names of the variables of a table.
use Rattle.std.proofs.Common.{◌≡◌, ℕ, zero, suc, ◌+◌, ◌<◌, ◌≤◌, Bool, true, false, List, [], ◌∷◌, ◌++◌, Option, Some, None, String, map, take, length, refl, sym, ap, subst, ◌∙◌, arith}
use Rattle.std.specs.Prelude.{slice_get, option_map, is_some, IsTrue, if◌then◌else◌}
use Rattle.std.specs.Global.{Global}
use Rattle.std.specs.List.{AllZip}
use Rattle.std.specs.Str.{bytes_eq}
use Rattle.std.proofs.lemmas.Bool.{false≢true}
use Rattle.std.proofs.lemmas.List.{length-take-le}
use Rattle.stm_terms.specs.declared.kinds.Ty.{Ty}
use Rattle.stm_terms.specs.declared.values.Value.{Value}
use Rattle.stm_terms.specs.Names.{is_name_text}
use Rattle.stm_store.specs.Naming.{Named, named_from, named_in_table, number_named, MayHaveType, NumbersAreBelow}
use Rattle.stm_store.specs.NameEntries.{named_of}
use Rattle.stm_store.specs.Tables.{Declared, number_from, number_of, declare_refusal, AreDeclared}
use Rattle.std.specs.Prelude.{string_bytes}
use Rattle.stm_store.proofs.HeldTypes.{held_in_table}

-- an entry, by its parts
pub record IsEntry (table : List Declared) (i : ℕ) (name : List ℕ) (kind : Ty) : Type 0 where
  pub entry : Declared
  pub there : slice_get table i ≡ Some entry
  pub name_is : entry.name ≡ name
  pub kind_is : entry.kind ≡ kind

entry_by : (table : List Declared) (i : ℕ) (name : List ℕ) (kind : Ty) (o : Option Declared) → slice_get table i ≡ o → option_map (λ d. d.name) o ≡ Some name → option_map (λ d. d.kind) o ≡ Some kind → IsEntry table i name kind
entry_by table i name kind (Some d) e n k = record { entry = d; there = e; name_is = cc; kind_is = cc }
entry_by table i name kind None e n k = absurd (cc)

pub entry_at : (table : List Declared) (i : ℕ) (name : List ℕ) (kind : Ty) → option_map (λ d. d.name) (slice_get table i) ≡ Some name → option_map (λ d. d.kind) (slice_get table i) ≡ Some kind → IsEntry table i name kind
entry_at table i name kind n k = entry_by table i name kind (slice_get table i) refl n k

-- ---- the numbers
numbers_from : (name : List ℕ) (i : ℕ) (table : List Declared) → number_named name (named_from i table) ≡ number_from name i table
numbers_from name i [] = refl
numbers_from name i (d ∷ ds) = ap (λ (o : Option ℕ). if bytes_eq d.name name then Some i else o) (numbers_from name (i + 1) ds)

none_of : (o : Option ℕ) → is_some o ≡ false → o ≡ None
none_of (Some n) e = absurd (false≢true (sym e))
none_of None e = refl

refusal_none : (table : List Declared) (name : List ℕ) (kind : Ty) (value : Value) (taken : Bool) → is_some (number_of name table) ≡ taken → declare_refusal table name kind value ≡ None → is_some (number_of name table) ≡ false
refusal_none table name kind value true t e = let q = rw t at e in absurd (cc (q))
refusal_none table name kind value false t e = t

-- a declared name is none of those before it
pub fresh_name : (table : List Declared) (i : ℕ) (name : List ℕ) (kind : Ty) → AreDeclared table → IsEntry table i name kind → number_named name (named_in_table (take i table)) ≡ None
fresh_name table i name kind declared e =
    let free = (declared i e.entry e.there).1 in
    let none = none_of _ (refusal_none (take i table) e.entry.name e.entry.kind e.entry.value (is_some (number_of e.entry.name (take i table))) refl free) in
    subst (λ (n : List ℕ). number_named n (named_in_table (take i table)) ≡ None) e.name_is (numbers_from e.entry.name 0 (take i table) ∙ none)

pub is_name : (table : List Declared) (i : ℕ) (name : List ℕ) (kind : Ty) → AreDeclared table → IsEntry table i name kind → IsTrue (is_name_text name)
is_name table i name kind declared e = subst (λ (n : List ℕ). IsTrue (is_name_text n)) e.name_is (declared i e.entry e.there).0

pub held_kind : (table : List Declared) (i : ℕ) (name : List ℕ) (kind : Ty) → AreDeclared table → IsEntry table i name kind → MayHaveType (named_in_table (take i table)) kind
held_kind table i name kind declared e =
    let free = (declared i e.entry e.there).1 in
    subst (λ (k : Ty). MayHaveType (named_in_table (take i table)) k) e.kind_is (held_in_table (take i table) e.entry.name e.entry.kind e.entry.value free)

below_from : (n : ℕ) (xs : List Declared) (i : ℕ) (e : Named) → slice_get (named_from n xs) i ≡ Some e → e.number < n + length xs
below_from n [] i e h = absurd (cc)
below_from n (x ∷ xs) zero e h = let p : n ≡ e.number = cc in omega arith
below_from n (x ∷ xs) (suc i) e h = let p = below_from (n + 1) xs i e h in omega arith

pub numbers_below : (table : List Declared) (i : ℕ) → i ≤ length table → NumbersAreBelow i (named_in_table (take i table))
numbers_below table i l j e h = let p = below_from 0 (take i table) j e h in let q = length-take-le i table l in omega arith

-- ---- one more
next_from : (n : ℕ) (table : List Declared) (i : ℕ) (d : Declared) → slice_get table i ≡ Some d → named_from n (take (suc i) table) ≡ named_from n (take i table) ++ record { name = d.name; number = n + i; kind = d.kind } ∷ []
next_from n [] i d e = absurd (cc)
next_from n (x ∷ table) zero d e = let p : x ≡ d = cc in let q : n ≡ n + 0 = omega arith in λ j. record { name = (p j).name; number = q j; kind = (p j).kind } ∷ []
next_from n (x ∷ table) (suc i) d e =
    let q : n + 1 + i ≡ n + suc i = omega arith in
    ap (λ (xs : List Named). record { name = x.name; number = n; kind = x.kind } ∷ xs) (next_from (n + 1) table i d e ∙ ap (λ (m : ℕ). named_from (n + 1) (take i table) ++ record { name = d.name; number = m; kind = d.kind } ∷ []) q)

pub names_next : (table : List Declared) (i : ℕ) (name : List ℕ) (kind : Ty) → IsEntry table i name kind → named_in_table (take i table) ++ record { name = name; number = i; kind = kind } ∷ [] ≡ named_in_table (take (i + 1) table)
names_next table i name kind e =
    let s : suc i ≡ i + 1 = omega arith in
    let z : 0 + i ≡ i = omega arith in
    let next = next_from 0 table i e.entry e.there in
    (λ j. named_in_table (take i table) ++ record { name = sym e.name_is j; number = sym z j; kind = sym e.kind_is j } ∷ []) ∙ sym next ∙ ap (λ (k : ℕ). named_in_table (take k table)) s

-- ---- a copy
pub cloned : (es fs : List (String Global × (ℕ × Ty))) → AllZip (λ (e f : String Global × (ℕ × Ty)). (string_bytes f.0 ≡ string_bytes e.0) × ((f.1.0 ≡ e.1.0) × (f.1.1 ≡ e.1.1))) es fs → map named_of fs ≡ map named_of es
cloned [] [] h = refl
cloned [] (f ∷ fs) h = absurd h
cloned (e ∷ es) [] h = absurd h
cloned (e ∷ es) (f ∷ fs) h =
    let same : named_of f ≡ named_of e = cc in
    rw (same, cloned es fs h.1) refl
