use Rattle.std.proofs.Common.{◌≡◌, ℕ, ◌<◌, Some, false}
use Rattle.std.specs.Prelude.{slice_get}
use Rattle.stm_terms.specs.Typing.{same_ty, var_ty}
use Rattle.stm_store.specs.Naming.{Named}
use Rattle.stm_store.proofs.names.Names.may_have_type.Given as goal

-- none so far has the type that references of the type refer to
abbrev pub invariant-loop-place : goal.invariant-loop-place
invariant-loop-place l = (i : ℕ) (d : Named) → slice_get l.self i ≡ Some d → i < l.place → same_ty (var_ty d.kind) l.kind ≡ false
