-- A type's text is read as the type.
use Rattle.std.proofs.Common.{◌≡◌, ◌≤◌, Some, ap}
use Rattle.std.specs.Result.{result_ok}
use Rattle.stm_terms.specs.declared.kinds.Ty.{Ty}
use Rattle.stm_terms.specs.Texts.{type_text}
use Rattle.stm_parse.proofs.TypesBack.{types_are_read_alone}
use Rattle.stm_event_lines.specs.Fields.{type_in}

pub type_back : (t : Ty) → t.refs ≤ 8 → type_in (type_text t) ≡ Some t
type_back t h = ap result_ok (types_are_read_alone t h)
