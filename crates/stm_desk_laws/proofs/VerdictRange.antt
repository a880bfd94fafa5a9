-- The verdict of a block in range on variables in range is in range.
use Rattle.std.proofs.Common.{◌≡◌, ℕ, zero, suc, Bool, true, false, cond, ℤ, ◌+ℤ◌, ◌-ℤ◌, ◌*ℤ◌, List, [], ◌∷◌, ◌++◌, Option, Some, None, Ok, Err, refl, subst}
use Rattle.std.specs.Prelude.{IfSome, option_map, slice_get, slice_set, nat_eq, nat_lt, ⊤}
use Rattle.stm_terms.specs.declared.kinds.Ty.{Ty}
use Rattle.stm_terms.specs.declared.values.Ref.{Ref}
use Rattle.stm_terms.specs.declared.values.Ref.TheVariants.{Old, New}
use Rattle.stm_terms.specs.declared.values.Value.{Value}
use Rattle.stm_terms.specs.declared.values.Value.TheVariants.{Int, Bool as Truth, Var}
use Rattle.stm_terms.specs.declared.values.Fault.TheVariants.{Thrown, Overflow}
use Rattle.stm_terms.specs.declared.expr.Op.{Op}
use Rattle.stm_terms.specs.declared.expr.Op.TheVariants.{Mul, Add, Sub, Eq, Lt, Le, And, Or}
use Rattle.stm_terms.specs.declared.verdicts.Verdict.{Verdict}
use Rattle.stm_terms.specs.Ast.{Term, lit, local, global, bin, Act, return, read, write, make, retry, throw, if_else, or_else, bind, let_in, seq, catch}
use Rattle.stm_terms.specs.Value.{Answer, fits_i64, decides, apply_op, with_value, value}
use Rattle.stm_terms.specs.Changes.{Variables, Changes, no_changes, find, put, first_of, cell_value, view_at, cell_written}
use Rattle.stm_terms.specs.Semantics.{Outcome, Returned, Threw, Retried, Stuck, on_answer, then_run, catch_run, else_run, returned_value, returned_unit, read_at, write_at, thrown, chosen, run}
use Rattle.stm_terms.specs.Verdict.{verdict_from}
use Rattle.stm_desk_laws.specs.IntegerRange.{Is64Bit, IsTerm64Bit, IsAct64Bit, AreVariables64Bit, AreWrites64Bit, AreNews64Bit, IsFault64Bit, IsVerdict64Bit, VerdictsAre64Bit}

-- ---- expressions
abbrev IsAnswer64Bit : Answer → Type 0
IsAnswer64Bit (Some (Ok v)) = Is64Bit v
IsAnswer64Bit (Some (Err f)) = IsFault64Bit f
IsAnswer64Bit None = ⊤

abbrev AreLocals64Bit : List Value → Type 0
AreLocals64Bit [] = ⊤
AreLocals64Bit (v ∷ vs) = Is64Bit v × AreLocals64Bit vs

result_fits : (z : ℤ) (b : Bool) → fits_i64 z ≡ b → IsAnswer64Bit (Some (cond b (Ok (Int z)) (Err Overflow)))
result_fits z true e = e
result_fits z false e = tt

applied_fits : (op : Op) (x y : Value) → IsAnswer64Bit (apply_op op x y)
applied_fits Mul (Int x) (Int y) = result_fits (x *ℤ y) (fits_i64 (x *ℤ y)) refl
applied_fits Add (Int x) (Int y) = result_fits (x +ℤ y) (fits_i64 (x +ℤ y)) refl
applied_fits Sub (Int x) (Int y) = result_fits (x -ℤ y) (fits_i64 (x -ℤ y)) refl
applied_fits Lt (Int x) (Int y) = tt
applied_fits Le (Int x) (Int y) = tt
applied_fits And (Truth x) (Truth y) = tt
applied_fits Or (Truth x) (Truth y) = tt
applied_fits Eq x y = tt
applied_fits op x y = tt

local_fits : (locals : List Value) (i : ℕ) → AreLocals64Bit locals → IsAnswer64Bit (option_map Ok (slice_get locals i))
local_fits [] i l = tt
local_fits (v ∷ vs) zero l = l.0
local_fits (v ∷ vs) (suc i) l = local_fits vs i l.1

local_more : (locals : List Value) (v : Value) → AreLocals64Bit locals → Is64Bit v → AreLocals64Bit (locals ++ v ∷ [])
local_more [] v l p = (p, tt)
local_more (w ∷ ws) v l p = (l.0, local_more ws v l.1 p)

with_value_fits : (a : Answer) (go : Value → Answer) → IsAnswer64Bit a → ((v : Value) → Is64Bit v → IsAnswer64Bit (go v)) → IsAnswer64Bit (with_value a go)
with_value_fits (Some (Ok v)) go p f = f v p
with_value_fits (Some (Err e)) go p f = p
with_value_fits None go p f = tt

either_fits : (b : Bool) (x : Value) (a : Answer) → Is64Bit x → IsAnswer64Bit a → IsAnswer64Bit (cond b (Some (Ok x)) a)
either_fits true x a p q = p
either_fits false x a p q = q

value_fits : (e : Term) (locals : List Value) → IsTerm64Bit e → AreLocals64Bit locals → IsAnswer64Bit (value e locals)
value_fits (lit v) locals t l = t
value_fits (local i) locals t l = local_fits locals i l
value_fits (global i) locals t l = tt
value_fits (bin op a b) locals t l =
    with_value_fits (value a locals) _ (value_fits a locals t.0 l)
    (λ x p. either_fits (decides op x) x _ p (with_value_fits (value b locals) _ (value_fits b locals t.1 l) (λ y q. applied_fits op x y)))

-- ---- views
abbrev AreChanges64Bit : Changes → Type 0
AreChanges64Bit h = AreWrites64Bit h.writes × AreNews64Bit h.news

found_fits : (b : Bool) (v : Value) (o : Option Value) → Is64Bit v → IfSome o Is64Bit → IfSome (cond b (Some v) o) Is64Bit
found_fits true v o p q = p
found_fits false v o p q = q

pub find_fits : (k : ℕ) (es : List (ℕ × Value)) → AreWrites64Bit es → IfSome (find k es) Is64Bit
find_fits k [] h = tt
find_fits k (e ∷ es) h = found_fits (nat_eq e.0 k) e.1 (find k es) h.0 (find_fits k es h.1)

pub put_fits : (k : ℕ) (v : Value) (es : List (ℕ × Value)) → Is64Bit v → AreWrites64Bit es → AreWrites64Bit (put k v es)
put_fits k v [] p h = (p, tt)
put_fits k v (e ∷ es) p h = by (nat_lt e.0 k) (nat_eq e.0 k) (put_fits k v es p h.1)
  where
    by : (b c : Bool) → AreWrites64Bit (put k v es) → AreWrites64Bit (cond b (e ∷ put k v es) (cond c ((k, v) ∷ es) ((k, v) ∷ e ∷ es)))
    by true c more = (h.0, more)
    by false true more = (p, h.1)
    by false false more = (p, h)

cell_fits : (cells : List (Ty × Value)) (k : ℕ) → AreNews64Bit cells → IfSome (cell_value cells k) Is64Bit
cell_fits [] k h = tt
cell_fits (c ∷ cs) zero h = h.0
cell_fits (c ∷ cs) (suc k) h = cell_fits cs k h.1

set_fits : (cells : List (Ty × Value)) (k : ℕ) (c : Ty × Value) → Is64Bit c.1 → AreNews64Bit cells → AreNews64Bit (slice_set cells k c)
set_fits [] k c p h = h
set_fits (d ∷ ds) zero c p h = (p, h.1)
set_fits (d ∷ ds) (suc k) c p h = (h.0, set_fits ds k c p h.1)

push_fits : (cells : List (Ty × Value)) (c : Ty × Value) → Is64Bit c.1 → AreNews64Bit cells → AreNews64Bit (cells ++ c ∷ [])
push_fits [] c p h = (p, tt)
push_fits (d ∷ ds) c p h = (h.0, push_fits ds c p h.1)

first_fits : (o p : Option Value) → IfSome o Is64Bit → IfSome p Is64Bit → IfSome (first_of o p) Is64Bit
first_fits (Some v) p h k = h
first_fits None p h k = k

view_fits : (under : Variables) (h : Changes) (r : Ref) → AreVariables64Bit under → AreChanges64Bit h → IfSome (view_at under h r) Is64Bit
view_fits under h (Old i) u c = first_fits (find i h.writes) (under i) (find_fits i h.writes c.0) (u i)
view_fits under h (New k) u c = cell_fits h.news k c.1

-- ---- actions
abbrev IsOutcome64Bit : Outcome → Type 0
IsOutcome64Bit (Returned v h) = Is64Bit v × AreChanges64Bit h
IsOutcome64Bit (Threw f) = IsFault64Bit f
IsOutcome64Bit Retried = ⊤
IsOutcome64Bit Stuck = ⊤

answer_runs : (a : Answer) (go : Value → Outcome) → IsAnswer64Bit a → ((v : Value) → Is64Bit v → IsOutcome64Bit (go v)) → IsOutcome64Bit (on_answer a go)
answer_runs (Some (Ok v)) go p f = f v p
answer_runs (Some (Err e)) go p f = p
answer_runs None go p f = tt

then_runs : (o : Outcome) (go : Value → Changes → Outcome) → IsOutcome64Bit o → ((v : Value) (k : Changes) → Is64Bit v → AreChanges64Bit k → IsOutcome64Bit (go v k)) → IsOutcome64Bit (then_run o go)
then_runs (Returned v k) go p f = f v k p.0 p.1
then_runs (Threw e) go p f = p
then_runs Retried go p f = tt
then_runs Stuck go p f = tt

catch_runs : (o : Outcome) (handler : Value → Outcome) → IsOutcome64Bit o → ((v : Value) → Is64Bit v → IsOutcome64Bit (handler v)) → IsOutcome64Bit (catch_run o handler)
catch_runs (Returned v k) handler p f = p
catch_runs (Threw (Thrown n)) handler p f = f (Int n) p
catch_runs (Threw Overflow) handler p f = tt
catch_runs Retried handler p f = tt
catch_runs Stuck handler p f = tt

else_runs : (o right : Outcome) → IsOutcome64Bit o → IsOutcome64Bit right → IsOutcome64Bit (else_run o right)
else_runs (Returned v k) right p q = p
else_runs (Threw e) right p q = p
else_runs Retried right p q = q
else_runs Stuck right p q = tt

chosen_runs : (v : Value) (a b : Outcome) → IsOutcome64Bit a → IsOutcome64Bit b → IsOutcome64Bit (chosen v a b)
chosen_runs (Truth true) a b p q = p
chosen_runs (Truth false) a b p q = q
chosen_runs v a b p q = tt

returned_runs : (o : Option Value) (h : Changes) → IfSome o Is64Bit → AreChanges64Bit h → IsOutcome64Bit (returned_value o h)
returned_runs (Some v) h p c = (p, c)
returned_runs None h p c = tt

read_runs : (under : Variables) (h : Changes) (v : Value) → AreVariables64Bit under → AreChanges64Bit h → IsOutcome64Bit (read_at under h v)
read_runs under h (Var r) u c = returned_runs (view_at under h r) h (view_fits under h r u c) c
read_runs under h v u c = tt

cell_runs : (h : Changes) (k : ℕ) (v : Value) (o : Option (Ty × Value)) → Is64Bit v → AreChanges64Bit h → IsOutcome64Bit (returned_unit (cell_written h k v o))
cell_runs h k v (Some d) p c = (tt, (c.0, set_fits h.news k (d.0, v) p c.1))
cell_runs h k v None p c = tt

write_runs : (h : Changes) (w v : Value) → Is64Bit v → AreChanges64Bit h → IsOutcome64Bit (write_at h w v)
write_runs h (Var (Old i)) v p c = (tt, (put_fits i v h.writes p c.0, c.1))
write_runs h (Var (New k)) v p c = cell_runs h k v (slice_get h.news k) p c
write_runs h w v p c = tt

throw_runs : (v : Value) → Is64Bit v → IsOutcome64Bit (thrown v)
throw_runs (Int n) p = p
throw_runs v p = tt

module _ (under : Variables) (u : AreVariables64Bit under) where
  run_fits : (a : Act) (locals : List Value) (h : Changes) → IsAct64Bit a → AreLocals64Bit locals → AreChanges64Bit h → IsOutcome64Bit (run under a locals h)
  run_fits (return e) locals h t l c = answer_runs (value e locals) _ (value_fits e locals t l) (λ v p. (p, c))
  run_fits (read e) locals h t l c = answer_runs (value e locals) _ (value_fits e locals t l) (λ v p. read_runs under h v u c)
  run_fits (write r e) locals h t l c =
      answer_runs (value r locals) _ (value_fits r locals t.0 l)
      (λ w p. answer_runs (value e locals) _ (value_fits e locals t.1 l) (λ v q. write_runs h w v q c))
  run_fits (make k e) locals h t l c =
      answer_runs (value e locals) _ (value_fits e locals t l) (λ v p. (tt, (c.0, push_fits h.news (k, v) p c.1)))
  run_fits retry locals h t l c = tt
  run_fits (throw e) locals h t l c = answer_runs (value e locals) _ (value_fits e locals t l) throw_runs
  run_fits (if_else e a b) locals h t l c =
      answer_runs (value e locals) _ (value_fits e locals t.0 l)
      (λ v p. chosen_runs v _ _ (run_fits a locals h t.1 l c) (run_fits b locals h t.2 l c))
  run_fits (or_else a b) locals h t l c = else_runs _ _ (run_fits a locals h t.0 l c) (run_fits b locals h t.1 l c)
  run_fits (bind a b) locals h t l c =
      then_runs _ _ (run_fits a locals h t.0 l c) (λ v k p d. run_fits b (locals ++ v ∷ []) k t.1 (local_more locals v l p) d)
  run_fits (let_in e b) locals h t l c =
      answer_runs (value e locals) _ (value_fits e locals t.0 l) (λ v p. run_fits b (locals ++ v ∷ []) h t.1 (local_more locals v l p) c)
  run_fits (seq a b) locals h t l c = then_runs _ _ (run_fits a locals h t.0 l c) (λ v k p d. run_fits b locals k t.1 l d)
  run_fits (catch a b) locals h t l c =
      catch_runs _ _ (run_fits a locals h t.0 l c) (λ n p. run_fits b (locals ++ n ∷ []) h t.1 (local_more locals n l p) c)

verdict_fits : (o : Outcome) → IsOutcome64Bit o → IfSome (verdict_from o) IsVerdict64Bit
verdict_fits (Returned v h) p = (p.1.0, p.1.1, p.0)
verdict_fits (Threw f) p = p
verdict_fits Retried p = tt
verdict_fits Stuck p = tt

pub verdicts_are_64_bit : VerdictsAre64Bit
verdicts_are_64_bit under block found u t e =
    subst (λ (o : Option Verdict). IfSome o IsVerdict64Bit) e (verdict_fits _ (run_fits under u block [] no_changes t tt (tt, tt)))
