-- Places of names, among the keys of the map and among the variables that callers see.
use Rattle.std.proofs.Common.{◌≡◌, ℕ, ◌+◌, Bool, List, [], ◌∷◌, ◌++◌, Option, Some, None, String, refl, sym, ap, ◌∙◌, cond, position, map, string_bytes, length, is_some, true, false, ◌≤◌, arith, suc, zero-add}
use Rattle.std.specs.Prelude.{not, nat_lt, if◌then◌else◌}
use Rattle.std.proofs.lemmas.Bool.Decides.{nat_tests, same_from_decides}
use Rattle.std.proofs.lemmas.Slice.Eq.{bytes_eq-Decides}
use Rattle.std.specs.List.{position_or_len, AllZip}
use Rattle.std.specs.Global.{Global}
use Rattle.std.specs.Str.{bytes_eq}
use Rattle.std.specs.Map.{keys_of}
use Rattle.indexmap.specs.IndexMap.{insert_entry}
use Rattle.stm_terms.specs.declared.kinds.Ty.{Ty}
use Rattle.stm_terms.specs.declared.values.Value.{Value}
use Rattle.stm_store.specs.Tables.{number_from, number_of}
use Rattle.stm_store.specs.Entries.{declared_of}

abbrev Entry : Type 0
Entry = String Global × (Ty × Value)

abbrev named : List ℕ → String Global → Bool
named name k = bytes_eq name (string_bytes k)

pub same_bytes : (a b : List ℕ) → bytes_eq a b ≡ bytes_eq b a
same_bytes a b =
    let d = bytes_eq-Decides b a in
    same_from_decides (bytes_eq a b) (bytes_eq b a) (bytes_eq-Decides a b) (λ e. sym (d.0 e), λ e. d.1 (sym e))

-- a number found from i on, at a first entry that has the name or not
step : (b : Bool) (i n l : ℕ) (o : Option ℕ) → o ≡ cond (nat_lt n l) (Some ((i + 1) + n)) None → (if b then Some i else o) ≡ cond (nat_lt (cond (not b) (1 + n) 0) (suc l)) (Some (i + cond (not b) (1 + n) 0)) None
step true i n l o e = grind (arith, nat_tests)
step false i n l o e = let s : i + 1 + n ≡ i + (1 + n) = omega arith in e ∙ grind (arith, nat_tests)

pub number-from_keys : (name : List ℕ) (i : ℕ) (es : List Entry) → number_from name i (map declared_of es) ≡ cond (nat_lt (position_or_len (named name) (keys_of es)) (length (keys_of es))) (Some (i + position_or_len (named name) (keys_of es))) None
number-from_keys name i [] = refl
number-from_keys name i (e ∷ es) =
    let q : bytes_eq (string_bytes e.0) name ≡ bytes_eq name (string_bytes e.0) = same_bytes (string_bytes e.0) name in
    rw q (step (bytes_eq name (string_bytes e.0)) i (position_or_len (named name) (keys_of es)) (length (keys_of es)) _ (number-from_keys name (i + 1) es))

pub number_of-keys : (name : List ℕ) (es : List Entry) → number_of name (map declared_of es) ≡ position (named name) (keys_of es)
number_of-keys name es =
    let n = position_or_len (named name) (keys_of es) in
    number-from_keys name 0 es ∙ ap (λ (k : ℕ). cond (nat_lt n (length (keys_of es))) (Some k) None) (zero-add n)

same-length : (es : List Entry) → length (keys_of es) ≡ length es
same-length [] = refl
same-length (e ∷ es) = ap suc (same-length es)

-- a key that the map lacks goes last
absent : (es : List Entry) (key : String Global) (cell : Ty × Value) → length es ≤ position_or_len (named (string_bytes key)) (keys_of es)
    → map declared_of (insert_entry (λ a b. bytes_eq (string_bytes a) (string_bytes b)) es key cell) ≡ map declared_of es ++ declared_of (key, cell) ∷ []
absent [] key cell h = refl
absent (x ∷ es) key cell h = elim (bytes_eq (string_bytes key) (string_bytes x.0)) as (λ t. suc (length es) ≤ cond (not t) (1 + position_or_len (named (string_bytes key)) (keys_of es)) 0
    → map declared_of (cond t ((x.0, cell) ∷ es) (x ∷ insert_entry (λ a b. bytes_eq (string_bytes a) (string_bytes b)) es key cell)) ≡ declared_of x ∷ (map declared_of es ++ declared_of (key, cell) ∷ [])) [
      | true ↦ λ h. absurd (omega arith)
      | false ↦ λ h. ap (λ l. declared_of x ∷ l) (absent es key cell (omega arith))
    ] h

not_below : (n m k : ℕ) → is_some (cond (nat_lt n m) (Some k) None) ≡ false → m ≤ n
not_below n m k h = grind (arith, nat_tests)

-- a name that has no number is no key
unplaced : (name : List ℕ) (es : List Entry) → is_some (number_of name (map declared_of es)) ≡ false → length es ≤ position_or_len (named name) (keys_of es)
unplaced name es h =
    let f = rw (number-from_keys name 0 es) at h in
    omega (arith, not_below _ _ _ f, same-length es)

-- a variable of a name that has no number is declared last
pub inserted : (name : List ℕ) (es : List Entry) (key : String Global) (kind : Ty) (value : Value) → string_bytes key ≡ name → is_some (number_of name (map declared_of es)) ≡ false
    → map declared_of (insert_entry (λ a b. bytes_eq (string_bytes a) (string_bytes b)) es key (kind, value)) ≡ map declared_of es ++ record { name = name; kind = kind; value = value } ∷ []
inserted name es key kind value same none =
    let none_there : is_some (number_of (string_bytes key) (map declared_of es)) ≡ false = rw same none in
    absent es key (kind, value) (unplaced (string_bytes key) es none_there)
    ∙ ap (λ (n : List ℕ). map declared_of es ++ record { name = n; kind = kind; value = value } ∷ []) same

-- the entries of a clone of the map are the same variables
pub cloned : (es fs : List Entry) → AllZip (λ (e f : Entry). (string_bytes f.0 ≡ string_bytes e.0) × ((f.1.0 ≡ e.1.0) × (f.1.1 ≡ e.1.1))) es fs → map declared_of fs ≡ map declared_of es
cloned [] [] h = refl
cloned [] (f ∷ fs) h = absurd h
cloned (e ∷ es) [] h = absurd h
cloned (e ∷ es) (f ∷ fs) h =
    let same : declared_of f ≡ declared_of e = cc in
    rw (same, cloned es fs h.1) refl
