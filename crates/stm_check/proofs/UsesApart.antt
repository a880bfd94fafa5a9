-- A block names each variable once.
use Rattle.std.proofs.Common.{◌≡◌, ℕ, Bool, true, false, List, [], ◌∷◌, ◌++◌, Option, Some, None, refl, arith}
use Rattle.std.specs.Prelude.{nat_eq, if◌then◌else◌}
use Rattle.std.proofs.lemmas.Bool.Decides.{nat_tests}
use Rattle.stm_terms.specs.declared.kinds.Ty.{Ty}
use Rattle.stm_terms.specs.Typing.{TypeEnv, kinds_in, named, record_use_as, record_use, record_uses}
use Rattle.stm_check.specs.Laws.{AreDistinct, UsesAreDistinct}

turned : (i j : ℕ) → nat_eq i j ≡ false → nat_eq j i ≡ false
turned i j e = grind (arith, nat_tests)

none_if : (b : Bool) (t : Ty) (o : Option Ty) → (if b then Some t else o) ≡ None → (b ≡ false) × (o ≡ None)
none_if true t o e = absurd (cc)
none_if false t o e = (refl, e)

if_none : (b : Bool) (t : Ty) (o : Option Ty) → b ≡ false → o ≡ None → (if b then Some t else o) ≡ None
if_none true t o p q = absurd (cc)
if_none false t o p q = q

none_end : (us : List (ℕ × Ty)) (i j : ℕ) (t : Ty) → nat_eq i j ≡ false → kinds_in us j ≡ None → kinds_in (us ++ (i, t) ∷ []) j ≡ None
none_end [] i j t e h = if_none (nat_eq i j) t None e refl
none_end (u ∷ us) i j t e h =
    let p = none_if (nat_eq u.0 j) u.1 (kinds_in us j) h in
    if_none (nat_eq u.0 j) u.1 (kinds_in (us ++ (i, t) ∷ []) j) p.0 (none_end us i j t e p.1)

apart_end : (us : List (ℕ × Ty)) (i : ℕ) (t : Ty) → AreDistinct us → kinds_in us i ≡ None → AreDistinct (us ++ (i, t) ∷ [])
apart_end [] i t h e = (refl, tt)
apart_end (u ∷ us) i t h e =
    let p = none_if (nat_eq u.0 i) u.1 (kinds_in us i) e in
    (none_end us i u.0 t (turned u.0 i p.0) h.0, apart_end us i t h.1 p.1)

distinct_recorded : (o p : Option Ty) (i : ℕ) (us : List (ℕ × Ty)) → kinds_in us i ≡ o → AreDistinct us → AreDistinct (record_use_as o p i us)
distinct_recorded (Some u) p i us e h = h
distinct_recorded None (Some t) i us e h = apart_end us i t h e
distinct_recorded None None i us e h = h

apart_all : (kinds : TypeEnv) (is : List ℕ) (us : List (ℕ × Ty)) → AreDistinct us → AreDistinct (record_uses kinds is us)
apart_all kinds [] us h = h
apart_all kinds (i ∷ is) us h = apart_all kinds is (record_use kinds i us) (distinct_recorded (kinds_in us i) (kinds i) i us refl h)

pub uses_are_apart : UsesAreDistinct
uses_are_apart kinds a = apart_all kinds (named a) [] tt
