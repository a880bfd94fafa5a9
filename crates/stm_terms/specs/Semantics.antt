-- What an action does, run alone in a view.
use Rattle.std.specs.Prelude.{true, false, List, [], ◌∷◌, ◌++◌, Option, Some, None, Ok, Err, length}
use Rattle.stm_terms.specs.declared.values.Ref.TheVariants.{New}
use Rattle.stm_terms.specs.declared.values.Value.{Value}
use Rattle.stm_terms.specs.declared.values.Value.TheVariants.{Int, Bool as Truth, Unit as Nil, Var}
use Rattle.stm_terms.specs.declared.values.Fault.{Fault}
use Rattle.stm_terms.specs.declared.values.Fault.TheVariants.{Thrown, Overflow}
use Rattle.stm_terms.specs.Ast.{Act, return, read, write, make, retry, throw, if_else, or_else, bind, let_in, seq, catch}
use Rattle.stm_terms.specs.Value.{Answer, value}
use Rattle.stm_terms.specs.Changes.{Variables, Changes, view_at, written, made}

-- how an action ends; only a return keeps what was changed. Stuck: the action has no meaning in this view
pub data Outcome : Type 0 where
  Returned : Value → Changes → Outcome
  Threw : Fault → Outcome
  Retried : Outcome
  Stuck : Outcome

-- goes on with the value of an expression
abbrev pub on_answer : Answer → (Value → Outcome) → Outcome
on_answer (Some (Ok v)) go = go v
on_answer (Some (Err f)) go = Threw f
on_answer None go = Stuck

-- goes on in the view that the first part returned; a throw and a retry of it are those of the whole
abbrev pub then_run : Outcome → (Value → Changes → Outcome) → Outcome
then_run (Returned v h) go = go v h
then_run (Threw f) go = Threw f
then_run Retried go = Retried
then_run Stuck go = Stuck

-- the handler's run, of the number, where the action threw one; an overflow and a retry are those of the whole
abbrev pub catch_run : Outcome → (Value → Outcome) → Outcome
catch_run (Returned v h) handler = Returned v h
catch_run (Threw (Thrown n)) handler = handler (Int n)
catch_run (Threw Overflow) handler = Threw Overflow
catch_run Retried handler = Retried
catch_run Stuck handler = Stuck

-- the right branch where the left one retried
abbrev pub else_run : Outcome → Outcome → Outcome
else_run (Returned v h) right = Returned v h
else_run (Threw f) right = Threw f
else_run Retried right = right
else_run Stuck right = Stuck

-- a read returns the value that it finds, and changes nothing
abbrev pub returned_value : Option Value → Changes → Outcome
returned_value (Some v) h = Returned v h
returned_value None h = Stuck

-- a write returns `()` in the changed view
abbrev pub returned_unit : Option Changes → Outcome
returned_unit (Some h) = Returned Nil h
returned_unit None = Stuck

-- what `readTVar` does at a value; stuck unless it is a reference
abbrev pub read_at : Variables → Changes → Value → Outcome
read_at under h (Var r) = returned_value (view_at under h r) h
read_at under h v = Stuck

-- what `writeTVar` does at a value; stuck unless it is a reference
abbrev pub write_at : Changes → Value → Value → Outcome
write_at h (Var r) v = returned_unit (written h r v)
write_at h w v = Stuck

-- what `throw` does with a value; stuck unless it is a number
abbrev pub thrown : Value → Outcome
thrown (Int n) = Threw (Thrown n)
thrown v = Stuck

-- the branch that a condition chooses
abbrev pub chosen : Value → Outcome → Outcome → Outcome
chosen (Truth true) a b = a
chosen (Truth false) a b = b
chosen v a b = Stuck

-- an action under its locals, over the variables underneath and what was changed so far
abbrev pub run : Variables → Act → List Value → Changes → Outcome
run under (return e) locals h = on_answer (value e locals) (λ v. Returned v h)
run under (read e) locals h = on_answer (value e locals) (read_at under h)
run under (write r e) locals h = on_answer (value r locals) (λ w. on_answer (value e locals) (write_at h w))
run under (make t e) locals h = on_answer (value e locals) (λ v. Returned (Var (New (length h.news))) (made h t v))
run under retry locals h = Retried
run under (throw e) locals h = on_answer (value e locals) thrown
run under (if_else e a b) locals h = on_answer (value e locals) (λ v. chosen v (run under a locals h) (run under b locals h))
run under (or_else a b) locals h = else_run (run under a locals h) (run under b locals h)
run under (bind a b) locals h = then_run (run under a locals h) (λ v k. run under b (locals ++ v ∷ []) k)
run under (let_in e b) locals h = on_answer (value e locals) (λ v. run under b (locals ++ v ∷ []) h)
run under (seq a b) locals h = then_run (run under a locals h) (λ v k. run under b locals k)
run under (catch a b) locals h = catch_run (run under a locals h) (λ n. run under b (locals ++ n ∷ []) h)
