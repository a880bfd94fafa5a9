-- A run makes at most as many variables as `newTVar` stands in the block.
use Rattle.std.proofs.Common.{◌≡◌, ℕ, zero, suc, ◌+◌, ◌≤◌, true, false, List, [], ◌∷◌, ◌++◌, length, Option, Some, None, Ok, Err, refl, ap, subst, arith, length-append}
use Rattle.std.specs.Prelude.{⊤, IfSome, slice_get, slice_set}
use Rattle.stm_terms.specs.declared.kinds.Ty.{Ty}
use Rattle.stm_terms.specs.declared.values.Ref.TheVariants.{Old, New}
use Rattle.stm_terms.specs.declared.values.Value.{Value}
use Rattle.stm_terms.specs.declared.values.Value.TheVariants.{Int, Bool as Truth, Var}
use Rattle.stm_terms.specs.declared.values.Fault.TheVariants.{Thrown, Overflow}
use Rattle.stm_terms.specs.declared.verdicts.Verdict.{Verdict}
use Rattle.stm_terms.specs.Ast.{Act, return, read, write, make, retry, throw, if_else, or_else, bind, let_in, seq, catch}
use Rattle.stm_terms.specs.Changes.{Variables, Changes, no_changes, view_at, cell_written}
use Rattle.stm_terms.specs.Semantics.{Outcome, Returned, Threw, Retried, Stuck, on_answer, then_run, catch_run, else_run, returned_value, returned_unit, read_at, write_at, thrown, chosen, run}
use Rattle.stm_terms.specs.Typing.{makes}
use Rattle.stm_terms.specs.Value.{Answer, value}
use Rattle.stm_terms.specs.Verdict.{verdict_from, verdict}
use Rattle.stm_store.specs.Cells.{made_by}

abbrev MadeAtMost : ℕ → Outcome → Type 0
MadeAtMost n (Returned v h) = length h.news ≤ n
MadeAtMost n (Threw f) = ⊤
MadeAtMost n Retried = ⊤
MadeAtMost n Stuck = ⊤

-- ---- the parts of a run
answer_makes : (n : ℕ) (a : Answer) (go : Value → Outcome) → ((v : Value) → MadeAtMost n (go v)) → MadeAtMost n (on_answer a go)
answer_makes n (Some (Ok v)) go f = f v
answer_makes n (Some (Err e)) go f = tt
answer_makes n None go f = tt

then_makes : (m n : ℕ) (o : Outcome) (go : Value → Changes → Outcome) → MadeAtMost m o → ((v : Value) (k : Changes) → length k.news ≤ m → MadeAtMost n (go v k)) → MadeAtMost n (then_run o go)
then_makes m n (Returned v k) go p f = f v k p
then_makes m n (Threw e) go p f = tt
then_makes m n Retried go p f = tt
then_makes m n Stuck go p f = tt

catch_makes : (n : ℕ) (o : Outcome) (handler : Value → Outcome) → MadeAtMost n o → ((v : Value) → MadeAtMost n (handler v)) → MadeAtMost n (catch_run o handler)
catch_makes n (Returned v k) handler p f = p
catch_makes n (Threw (Thrown z)) handler p f = f (Int z)
catch_makes n (Threw Overflow) handler p f = tt
catch_makes n Retried handler p f = tt
catch_makes n Stuck handler p f = tt

else_makes : (n : ℕ) (o right : Outcome) → MadeAtMost n o → MadeAtMost n right → MadeAtMost n (else_run o right)
else_makes n (Returned v k) right p q = p
else_makes n (Threw e) right p q = tt
else_makes n Retried right p q = q
else_makes n Stuck right p q = tt

chosen_makes : (n : ℕ) (v : Value) (a b : Outcome) → MadeAtMost n a → MadeAtMost n b → MadeAtMost n (chosen v a b)
chosen_makes n (Truth true) a b p q = p
chosen_makes n (Truth false) a b p q = q
chosen_makes n v a b p q = tt

returned_makes : (n : ℕ) (o : Option Value) (h : Changes) → length h.news ≤ n → MadeAtMost n (returned_value o h)
returned_makes n (Some v) h l = l
returned_makes n None h l = tt

read_makes : (n : ℕ) (under : Variables) (h : Changes) (v : Value) → length h.news ≤ n → MadeAtMost n (read_at under h v)
read_makes n under h (Var r) l = returned_makes n (view_at under h r) h l
read_makes n under h v l = tt

set_length : (cells : List (Ty × Value)) (k : ℕ) (c : Ty × Value) → length (slice_set cells k c) ≡ length cells
set_length [] k c = refl
set_length (d ∷ ds) zero c = refl
set_length (d ∷ ds) (suc k) c = ap suc (set_length ds k c)

cell_makes : (n : ℕ) (h : Changes) (k : ℕ) (v : Value) (o : Option (Ty × Value)) → length h.news ≤ n → MadeAtMost n (returned_unit (cell_written h k v o))
cell_makes n h k v (Some d) l = omega (arith, l, set_length h.news k (d.0, v))
cell_makes n h k v None l = tt

write_makes : (n : ℕ) (h : Changes) (w v : Value) → length h.news ≤ n → MadeAtMost n (write_at h w v)
write_makes n h (Var (Old i)) v l = l
write_makes n h (Var (New k)) v l = cell_makes n h k v (slice_get h.news k) l
write_makes n h w v l = tt

throw_makes : (n : ℕ) (v : Value) → MadeAtMost n (thrown v)
throw_makes n (Int z) = tt
throw_makes n v = tt

-- ---- the run
module _ (under : Variables) where
  run_makes : (a : Act) (locals : List Value) (h : Changes) (n : ℕ) → length h.news + makes a ≤ n → MadeAtMost n (run under a locals h)
  run_makes (return e) locals h n l = answer_makes n (value e locals) _ (λ v. omega (arith, l))
  run_makes (read e) locals h n l = answer_makes n (value e locals) _ (λ v. read_makes n under h v (omega (arith, l)))
  run_makes (write r e) locals h n l =
      answer_makes n (value r locals) _ (λ w. answer_makes n (value e locals) _ (λ v. write_makes n h w v (omega (arith, l))))
  run_makes (make t e) locals h n l = answer_makes n (value e locals) _ (λ v. omega (arith, l, length-append h.news ((t, v) ∷ [])))
  run_makes retry locals h n l = tt
  run_makes (throw e) locals h n l = answer_makes n (value e locals) _ (throw_makes n)
  run_makes (if_else e a b) locals h n l =
      answer_makes n (value e locals) _ (λ v. chosen_makes n v _ _ (run_makes a locals h n (omega (arith, l))) (run_makes b locals h n (omega (arith, l))))
  run_makes (or_else a b) locals h n l = else_makes n _ _ (run_makes a locals h n (omega (arith, l))) (run_makes b locals h n (omega (arith, l)))
  run_makes (bind a b) locals h n l =
      then_makes (length h.news + makes a) n _ _ (run_makes a locals h (length h.news + makes a) (omega arith))
      (λ v k p. run_makes b (locals ++ v ∷ []) k n (omega (arith, l, p)))
  run_makes (let_in e b) locals h n l = answer_makes n (value e locals) _ (λ v. run_makes b (locals ++ v ∷ []) h n l)
  run_makes (seq a b) locals h n l =
      then_makes (length h.news + makes a) n _ _ (run_makes a locals h (length h.news + makes a) (omega arith)) (λ v k p. run_makes b locals k n (omega (arith, l, p)))
  run_makes (catch a b) locals h n l =
      catch_makes n _ _ (run_makes a locals h n (omega (arith, l))) (λ z. run_makes b (locals ++ z ∷ []) h n (omega (arith, l)))

verdict_makes : (n : ℕ) (o : Outcome) → MadeAtMost n o → IfSome (verdict_from o) (λ v. length (made_by v) ≤ n)
verdict_makes n (Returned v h) p = p
verdict_makes n (Threw f) p = omega arith
verdict_makes n Retried p = omega arith
verdict_makes n Stuck p = tt

pub few_made : (under : Variables) (block : Act) (v : Verdict) → verdict under block ≡ Some v → length (made_by v) ≤ makes block
few_made under block v e =
    subst (λ (o : Option Verdict). IfSome o (λ x. length (made_by x) ≤ makes block)) e
    (verdict_makes (makes block) (run under block [] no_changes) (run_makes under block [] no_changes (makes block) (omega arith)))
