-- A variable that is declared late, as contracts see it.
use Rattle.std.specs.Prelude.{string_bytes}
use Rattle.stm_store.specs.Tables.{Declared}
use Rattle.stm_source.specs.declared.declaring.LateVariable.{LateVariable}

-- its name, its type and its first value
abbrev pub late_variable : LateVariable → Declared
late_variable v = record { name = string_bytes v.name; kind = v.kind; value = v.value }
