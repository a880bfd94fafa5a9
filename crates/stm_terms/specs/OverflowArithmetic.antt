-- Arithmetic that std has checked, as a result of an expression.
use Rattle.std.specs.Prelude.{ℤ, Option, Some, None, Result, Ok, Err}
use Rattle.stm_terms.specs.declared.values.Value.{Value}
use Rattle.stm_terms.specs.declared.values.Value.TheVariants.{Int}
use Rattle.stm_terms.specs.declared.values.Fault.{Fault}
use Rattle.stm_terms.specs.declared.values.Fault.TheVariants.{Overflow}

-- a number that is in range, and an overflow if it was not
abbrev pub int_or_overflow : Option ℤ → Result Value Fault
int_or_overflow (Some z) = Ok (Int z)
int_or_overflow None = Err Overflow
