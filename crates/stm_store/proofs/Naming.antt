-- Names that stay as others come after them.
use Rattle.std.proofs.Common.{◌≡◌, ℕ, Bool, true, false, List, [], ◌∷◌, ◌++◌, Option, Some}
use Rattle.std.specs.Prelude.{nat_eq, if◌then◌else◌}
use Rattle.std.specs.Str.{bytes_eq}
use Rattle.std.proofs.lemmas.List.{map-append}
use Rattle.stm_terms.specs.declared.kinds.Ty.{Ty}
use Rattle.stm_terms.specs.Typing.{kinds_in}
use Rattle.stm_store.specs.Naming.{Named, named_use, named_uses, known_kinds, number_named}

-- a name keeps its number
number_by : (b : Bool) (m n : ℕ) (o p : Option ℕ) → (o ≡ Some n → p ≡ Some n) → (if b then Some m else o) ≡ Some n → (if b then Some m else p) ≡ Some n
number_by true m n o p h e = e
number_by false m n o p h e = h e

pub number_stays : (name : List ℕ) (few more : List Named) (n : ℕ) → number_named name few ≡ Some n → number_named name (few ++ more) ≡ Some n
number_stays name [] more n e = absurd (cc)
number_stays name (d ∷ few) more n e =
    number_by (bytes_eq d.name name) d.number n (number_named name few) (number_named name (few ++ more)) (number_stays name few more n) e

-- a variable keeps its type
kind_by : (b : Bool) (t u : Ty) (o p : Option Ty) → (o ≡ Some u → p ≡ Some u) → (if b then Some t else o) ≡ Some u → (if b then Some t else p) ≡ Some u
kind_by true t u o p h e = e
kind_by false t u o p h e = h e

pub kinds_stay : (us vs : List (ℕ × Ty)) (i : ℕ) (t : Ty) → kinds_in us i ≡ Some t → kinds_in (us ++ vs) i ≡ Some t
kinds_stay [] vs i t e = absurd (cc)
kinds_stay (u ∷ us) vs i t e = kind_by (nat_eq u.0 i) u.1 t (kinds_in us i) (kinds_in (us ++ vs) i) (kinds_stay us vs i t) e

pub uses-append : (few more : List Named) → named_uses (few ++ more) ≡ named_uses few ++ named_uses more
uses-append few more = map-append named_use few more

pub known_stay : (few more : List Named) (i : ℕ) (t : Ty) → known_kinds few i ≡ Some t → known_kinds (few ++ more) i ≡ Some t
known_stay few more i t e = rw (uses-append few more) (kinds_stay (named_uses few) (named_uses more) i t e)
