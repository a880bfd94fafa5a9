-- The laws of `catch`.
use Rattle.std.proofs.Common.{◌≡◌, ℕ, Bool, true, false, refl, ap, Option, Some, None, Ok, Err, List, [], ◌∷◌, ◌++◌}
use Rattle.std.specs.Prelude.{ℤ, ◌+ℤ◌, ◌-ℤ◌, ◌*ℤ◌, slice_get, option_map, if◌then◌else◌, ⊤}
use Rattle.stm_terms.specs.declared.values.Value.{Value}
use Rattle.stm_terms.specs.declared.values.Value.TheVariants.{Int, Bool as Truth}
use Rattle.stm_terms.specs.declared.values.Fault.TheVariants.{Thrown, Overflow}
use Rattle.stm_terms.specs.declared.expr.Op.{Op}
use Rattle.stm_terms.specs.declared.expr.Op.TheVariants.{Mul, Add, Sub, Eq, Lt, Le, And, Or}
use Rattle.stm_terms.specs.Ast.{Term, lit, local, global, bin}
use Rattle.stm_terms.specs.Value.{Answer, fits_i64, decides, apply_op, with_value, value}
use Rattle.stm_terms.specs.Changes.{Changes}
use Rattle.stm_terms.specs.Semantics.{Outcome, Returned, on_answer, catch_run, run}
use Rattle.stm_terms.specs.ReadSet.{catch_look}
use Rattle.stm_eval.specs.Laws.{CatchOfThrow, CatchOfReturn, CatchOfRetry, HandlerSeesNoWrites}

-- ---- the value of an expression fails by an overflow alone
abbrev NeverThrows : Answer → Type 0
NeverThrows (Some (Ok v)) = ⊤
NeverThrows (Some (Err (Thrown n))) = ⊥
NeverThrows (Some (Err Overflow)) = ⊤
NeverThrows None = ⊤

of_local : (o : Option Value) → NeverThrows (option_map Ok o)
of_local (Some v) = tt
of_local None = tt

of_result : (b : Bool) (z : ℤ) → NeverThrows (Some (if b then Ok (Int z) else Err Overflow))
of_result true z = tt
of_result false z = tt

-- an operator at two values
of_op : (op : Op) (v w : Value) → NeverThrows (apply_op op v w)
of_op Mul (Int x) (Int y) = of_result (fits_i64 (x *ℤ y)) (x *ℤ y)
of_op Add (Int x) (Int y) = of_result (fits_i64 (x +ℤ y)) (x +ℤ y)
of_op Sub (Int x) (Int y) = of_result (fits_i64 (x -ℤ y)) (x -ℤ y)
of_op Lt (Int x) (Int y) = tt
of_op Le (Int x) (Int y) = tt
of_op And (Truth x) (Truth y) = tt
of_op Or (Truth x) (Truth y) = tt
of_op Eq x y = tt
of_op op x y = tt

of_value : (o : Answer) (go : Value → Answer) → NeverThrows o → ((v : Value) → NeverThrows (go v)) → NeverThrows (with_value o go)
of_value (Some (Ok v)) go p f = f v
of_value (Some (Err (Thrown n))) go p f = p
of_value (Some (Err Overflow)) go p f = tt
of_value None go p f = tt

either : (b : Bool) (o p : Answer) → NeverThrows o → NeverThrows p → NeverThrows (if b then o else p)
either true o p h k = h
either false o p h k = k

never_throws : (e : Term) (locals : List Value) → NeverThrows (value e locals)
never_throws (lit v) locals = tt
never_throws (local i) locals = of_local (slice_get locals i)
never_throws (global i) locals = tt
never_throws (bin op a b) locals =
    of_value (value a locals) _ (never_throws a locals)
    (λ x. either (decides op x) (Some (Ok x)) (with_value (value b locals) (apply_op op x)) tt
    (of_value (value b locals) (apply_op op x) (never_throws b locals) (of_op op x)))

-- ---- the laws
ends_alone : (o : Answer) (h : Changes) (handler : Value → Outcome) → NeverThrows o → catch_run (on_answer o (λ v. Returned v h)) handler ≡ on_answer o (λ v. Returned v h)
ends_alone (Some (Ok v)) h handler p = refl
ends_alone (Some (Err (Thrown n))) h handler p = absurd p
ends_alone (Some (Err Overflow)) h handler p = refl
ends_alone None h handler p = refl

reads_alone : (o : Answer) (h : Changes) (handler : Value → List ℕ) → NeverThrows o → catch_look (on_answer o (λ v. Returned v h)) handler ≡ []
reads_alone (Some (Ok v)) h handler p = refl
reads_alone (Some (Err (Thrown n))) h handler p = absurd p
reads_alone (Some (Err Overflow)) h handler p = refl
reads_alone None h handler p = refl

pub of_throw : CatchOfThrow
of_throw n b locals S h = record { ends = refl; reads = refl }

pub of_return : CatchOfReturn
of_return e b locals S h = record {
  ends = ends_alone (value e locals) h _ (never_throws e locals);
  reads = reads_alone (value e locals) h _ (never_throws e locals);
}

pub of_retry : CatchOfRetry
of_retry b locals S h = record { ends = refl; reads = refl }

pub no_writes_seen : HandlerSeesNoWrites
no_writes_seen a b n locals S h threw = ap (λ (o : Outcome). catch_run o (λ m. run S b (locals ++ m ∷ []) h)) threw
