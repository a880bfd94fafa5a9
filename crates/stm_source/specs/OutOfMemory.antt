-- Which refusals of a block or a declaration say that memory ran out.
use Rattle.std.specs.Prelude.{◌≡◌}
use Rattle.stm_parse.specs.declared.fault.ParseFault.TheVariants as parse
use Rattle.stm_check.specs.declared.fault.TypeFault.TheVariants as typed
use Rattle.stm_store.specs.declared.table.DeclareError.TheVariants as declare
use Rattle.stm_source.specs.declared.refusal.Refusal.{Refusal}
use Rattle.stm_source.specs.declared.refusal.Refusal.TheVariants.{Parsing, Typing, Unknown, Declaring}

-- the refusal says that memory ran out, and no more
abbrev pub IsOutOfMemory : Refusal → Type 0
IsOutOfMemory (Parsing f) = f ≡ parse.NoMemory
IsOutOfMemory (Typing f) = f ≡ typed.NoMemory
IsOutOfMemory (Unknown place) = ⊥
IsOutOfMemory (Declaring e) = e ≡ declare.NoMemory
