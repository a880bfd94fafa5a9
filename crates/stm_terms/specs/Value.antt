-- The value of an expression under the locals in scope.
use Rattle.std.specs.Prelude.{Bool, true, false, not, ◌&&◌, ◌||◌, ◌^◌, nat_lt, nat_eq, List, Option, Some, None, Result, Ok, Err, ℤ, pos, negsuc, ◌+ℤ◌, ◌-ℤ◌, ◌*ℤ◌, int_lt, int_le, slice_get, option_map, if◌then◌else◌}
use Rattle.std.specs.Ordering.{int_eq}
use Rattle.stm_terms.specs.declared.values.Ref.{Ref}
use Rattle.stm_terms.specs.declared.values.Ref.TheVariants.{Old, New}
use Rattle.stm_terms.specs.declared.values.Value.{Value}
use Rattle.stm_terms.specs.declared.values.Value.TheVariants.{Int, Bool as Truth, Unit as Nil, Var}
use Rattle.stm_terms.specs.declared.values.Fault.{Fault}
use Rattle.stm_terms.specs.declared.values.Fault.TheVariants.{Overflow}
use Rattle.stm_terms.specs.declared.expr.Op.{Op}
use Rattle.stm_terms.specs.declared.expr.Op.TheVariants.{Mul, Add, Sub, Eq, Lt, Le, And, Or}
use Rattle.stm_terms.specs.Ast.{Term, lit, local, global, bin}

-- what an expression gives: a value, a fault, or none if it has no meaning
abbrev pub Answer : Type 0
Answer = Option (Result Value Fault)

-- -9223372036854775808 to 9223372036854775807
abbrev pub fits_i64 : ℤ → Bool
fits_i64 (pos n) = nat_lt n (2 ^ 63)
fits_i64 (negsuc n) = nat_lt n (2 ^ 63)

-- a sum, difference or product; out of range it is an overflow
abbrev pub int_result : ℤ → Result Value Fault
int_result z = if fits_i64 z then Ok (Int z) else Err Overflow

-- references are compared by identity
abbrev pub same_ref : Ref → Ref → Bool
same_ref (Old i) (Old j) = nat_eq i j
same_ref (New i) (New j) = nat_eq i j
same_ref r s = false

-- what `==` gives
abbrev pub same_value : Value → Value → Bool
same_value (Int x) (Int y) = int_eq x y
same_value (Truth true) (Truth y) = y
same_value (Truth false) (Truth y) = not y
same_value Nil Nil = true
same_value (Var r) (Var s) = same_ref r s
same_value x y = false

-- the left side alone decides `&&` if it is false, and `||` if it is true
abbrev pub decides : Op → Value → Bool
decides And (Truth b) = not b
decides Or (Truth b) = b
decides op v = false

-- an operator at two values; none if it doesn't take them
abbrev pub apply_op : Op → Value → Value → Answer
apply_op Mul (Int x) (Int y) = Some (int_result (x *ℤ y))
apply_op Add (Int x) (Int y) = Some (int_result (x +ℤ y))
apply_op Sub (Int x) (Int y) = Some (int_result (x -ℤ y))
apply_op Lt (Int x) (Int y) = Some (Ok (Truth (int_lt x y)))
apply_op Le (Int x) (Int y) = Some (Ok (Truth (int_le x y)))
apply_op And (Truth x) (Truth y) = Some (Ok (Truth (x && y)))
apply_op Or (Truth x) (Truth y) = Some (Ok (Truth (x || y)))
apply_op Eq x y = Some (Ok (Truth (same_value x y)))
apply_op op x y = None

-- goes on with a value
abbrev pub with_value : Answer → (Value → Answer) → Answer
with_value (Some (Ok v)) go = go v
with_value (Some (Err f)) go = Some (Err f)
with_value None go = None

-- the value of an expression under its locals, or overflow, from left to right; none if a local is missing or an
-- operator meets a value of a wrong kind
abbrev pub value : Term → List Value → Answer
value (lit v) locals = Some (Ok v)
value (local i) locals = option_map Ok (slice_get locals i)
value (global i) locals = Some (Ok (Var (Old i)))
value (bin op a b) locals =
    with_value (value a locals) (λ x. if decides op x then Some (Ok x) else with_value (value b locals) (apply_op op x))
