-- The variables that a checked block names are in each store that has the named ones.
use Rattle.std.proofs.Common.{◌≡◌, ℕ, List, [], ◌∷◌, ◌++◌, Option, Some, None, refl, sym, subst}
use Rattle.stm_terms.specs.declared.kinds.Ty.{Ty}
use Rattle.stm_terms.specs.declared.values.Value.{Value}
use Rattle.stm_terms.specs.Ast.{Act}
use Rattle.stm_terms.specs.Typing.{TypeEnv, kinds_in, record_use_as, record_use, record_uses, named, uses_of}
use Rattle.stm_store.specs.Cells.{Covers, kinds_of}
use Rattle.stm_store.specs.Naming.{Named, named_uses, known_kinds}
use Rattle.stm_check.proofs.Weakening.{covered}

covers_more : (cells : List (Ty × Value)) (us : List (ℕ × Ty)) (i : ℕ) (t : Ty) → Covers cells us → kinds_of cells i ≡ Some t → Covers cells (us ++ (i, t) ∷ [])
covers_more cells [] i t c e = (e, tt)
covers_more cells (u ∷ us) i t c e = (c.0, covers_more cells us i t c.1 e)

module _ (k : TypeEnv) (cells : List (Ty × Value)) (known : (i : ℕ) (t : Ty) → k i ≡ Some t → kinds_of cells i ≡ Some t) where
  covers_as : (us : List (ℕ × Ty)) (i : ℕ) (o p : Option Ty) → Covers cells us → k i ≡ p → Covers cells (record_use_as o p i us)
  covers_as us i (Some u) p c e = c
  covers_as us i None (Some t) c e = covers_more cells us i t c (known i t e)
  covers_as us i None None c e = c

  covers_all : (is : List ℕ) (us : List (ℕ × Ty)) → Covers cells us → Covers cells (record_uses k is us)
  covers_all [] us c = c
  covers_all (i ∷ is) us c = covers_all is (record_use k i us) (covers_as us i (kinds_in us i) (k i) c refl)

pub named_cover : (known : List Named) (a : Act) (us : List (ℕ × Ty)) (cells : List (Ty × Value)) → us ≡ uses_of (known_kinds known) a → Covers cells (named_uses known) → Covers cells us
named_cover known a us cells e c = subst (Covers cells) (sym e) (covers_all (known_kinds known) cells (covered cells (named_uses known) c) (named a) [] tt)
