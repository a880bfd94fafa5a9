-- The entries of the map of names, as callers see them.
use Rattle.std.specs.Prelude.{ℕ, string_bytes, String}
use Rattle.std.specs.Global.{Global}
use Rattle.stm_terms.specs.declared.kinds.Ty.{Ty}
use Rattle.stm_store.specs.Naming.{Named}

-- the name of an entry
abbrev pub named_of : String Global × (ℕ × Ty) → Named
named_of e = record { name = string_bytes e.0; number = e.1.0; kind = e.1.1 }
