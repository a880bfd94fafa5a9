-- The entries of a table's map, as callers see them.
use Rattle.std.specs.Prelude.{string_bytes, String}
use Rattle.std.specs.Global.{Global}
use Rattle.stm_terms.specs.declared.kinds.Ty.{Ty}
use Rattle.stm_terms.specs.declared.values.Value.{Value}
use Rattle.stm_store.specs.Tables.{Declared}

-- the variable of an entry
abbrev pub declared_of : String Global × (Ty × Value) → Declared
declared_of e = record { name = string_bytes e.0; kind = e.1.0; value = e.1.1 }
