-- An action with values in place of its first locals runs as it does under these locals.
use Rattle.std.proofs.Common.{◌≡◌, zero, suc, List, [], ◌∷◌, ◌++◌, Some, Ok, refl, ap, ◌∙◌}
use Rattle.std.specs.Prelude.{length, if◌then◌else◌}
use Rattle.stm_terms.specs.declared.kinds.Ty.{Ty}
use Rattle.stm_terms.specs.declared.values.Ref.TheVariants.{New}
use Rattle.stm_terms.specs.declared.values.Value.{Value}
use Rattle.stm_terms.specs.declared.values.Value.TheVariants.{Var}
use Rattle.stm_terms.specs.Ast.{Term, lit, local, global, bin, Act, return, read, write, make, retry, throw, if_else, or_else, bind, let_in, seq, catch}
use Rattle.stm_terms.specs.Value.{value, with_value, apply_op, decides}
use Rattle.stm_terms.specs.Changes.{Variables, Changes, made}
use Rattle.stm_terms.specs.Semantics.{Returned, on_answer, then_run, catch_run, else_run, read_at, write_at, thrown, chosen, run}
use Rattle.stm_paper_laws.specs.Evaluation.{applied_term, applied_to}

pub value_applied : (e : Term) (v : Value) (locals : List Value) → value (applied_term e v) locals ≡ value e (v ∷ locals)
value_applied (lit w) v locals = refl
value_applied (local zero) v locals = refl
value_applied (local (suc i)) v locals = refl
value_applied (global i) v locals = refl
value_applied (bin op a b) v locals =
    λ i. with_value (value_applied a v locals i) (λ x. if decides op x then Some (Ok x) else with_value (value_applied b v locals i) (apply_op op x))

pub run_applied : (under : Variables) (a : Act) (v : Value) (locals : List Value) (h : Changes) → run under (applied_to a v) locals h ≡ run under a (v ∷ locals) h
run_applied under (return e) v locals h = ap (λ o. on_answer o (λ w. Returned w h)) (value_applied e v locals)
run_applied under (read e) v locals h = ap (λ o. on_answer o (read_at under h)) (value_applied e v locals)
run_applied under (write r e) v locals h =
    λ i. on_answer (value_applied r v locals i) (λ w. on_answer (value_applied e v locals i) (write_at h w))
run_applied under (make t e) v locals h =
    ap (λ o. on_answer o (λ w. Returned (Var (New (length h.news))) (made h t w))) (value_applied e v locals)
run_applied under retry v locals h = refl
run_applied under (throw e) v locals h = ap (λ o. on_answer o thrown) (value_applied e v locals)
run_applied under (if_else e a b) v locals h =
    λ i. on_answer (value_applied e v locals i) (λ w. chosen w (run_applied under a v locals h i) (run_applied under b v locals h i))
run_applied under (or_else a b) v locals h = λ i. else_run (run_applied under a v locals h i) (run_applied under b v locals h i)
run_applied under (bind a b) v locals h =
    λ i. then_run (run_applied under a v locals h i) (λ w k. run_applied under b v (locals ++ w ∷ []) k i)
run_applied under (let_in e b) v locals h =
    λ i. on_answer (value_applied e v locals i) (λ w. run_applied under b v (locals ++ w ∷ []) h i)
run_applied under (seq a b) v locals h = λ i. then_run (run_applied under a v locals h i) (λ w k. run_applied under b v locals k i)
run_applied under (catch a b) v locals h =
    λ i. catch_run (run_applied under a v locals h i) (λ n. run_applied under b v (locals ++ n ∷ []) h i)

-- ---- an action with all of its locals in place
abbrev pub closed_term : Term → List Value → Term
closed_term e [] = e
closed_term e (v ∷ vs) = closed_term (applied_term e v) vs

abbrev pub closed : Act → List Value → Act
closed a [] = a
closed a (v ∷ vs) = closed (applied_to a v) vs

pub value_closed : (e : Term) (vs : List Value) → value (closed_term e vs) [] ≡ value e vs
value_closed e [] = refl
value_closed e (v ∷ vs) = value_closed (applied_term e v) vs ∙ value_applied e v vs

pub applied_closed : (a : Act) (vs : List Value) (v : Value) → applied_to (closed a vs) v ≡ closed a (vs ++ v ∷ [])
applied_closed a [] v = refl
applied_closed a (w ∷ vs) v = applied_closed (applied_to a w) vs v

pub closed_return : (e : Term) (vs : List Value) → closed (return e) vs ≡ return (closed_term e vs)
closed_return e [] = refl
closed_return e (v ∷ vs) = closed_return (applied_term e v) vs

pub closed_read : (e : Term) (vs : List Value) → closed (read e) vs ≡ read (closed_term e vs)
closed_read e [] = refl
closed_read e (v ∷ vs) = closed_read (applied_term e v) vs

pub closed_write : (r e : Term) (vs : List Value) → closed (write r e) vs ≡ write (closed_term r vs) (closed_term e vs)
closed_write r e [] = refl
closed_write r e (v ∷ vs) = closed_write (applied_term r v) (applied_term e v) vs

pub closed_make : (t : Ty) (e : Term) (vs : List Value) → closed (make t e) vs ≡ make t (closed_term e vs)
closed_make t e [] = refl
closed_make t e (v ∷ vs) = closed_make t (applied_term e v) vs

pub closed_retry : (vs : List Value) → closed retry vs ≡ retry
closed_retry [] = refl
closed_retry (v ∷ vs) = closed_retry vs

pub closed_throw : (e : Term) (vs : List Value) → closed (throw e) vs ≡ throw (closed_term e vs)
closed_throw e [] = refl
closed_throw e (v ∷ vs) = closed_throw (applied_term e v) vs

pub closed_if : (e : Term) (a b : Act) (vs : List Value) → closed (if_else e a b) vs ≡ if_else (closed_term e vs) (closed a vs) (closed b vs)
closed_if e a b [] = refl
closed_if e a b (v ∷ vs) = closed_if (applied_term e v) (applied_to a v) (applied_to b v) vs

pub closed_or : (a b : Act) (vs : List Value) → closed (or_else a b) vs ≡ or_else (closed a vs) (closed b vs)
closed_or a b [] = refl
closed_or a b (v ∷ vs) = closed_or (applied_to a v) (applied_to b v) vs

pub closed_bind : (a b : Act) (vs : List Value) → closed (bind a b) vs ≡ bind (closed a vs) (closed b vs)
closed_bind a b [] = refl
closed_bind a b (v ∷ vs) = closed_bind (applied_to a v) (applied_to b v) vs

pub closed_let : (e : Term) (b : Act) (vs : List Value) → closed (let_in e b) vs ≡ let_in (closed_term e vs) (closed b vs)
closed_let e b [] = refl
closed_let e b (v ∷ vs) = closed_let (applied_term e v) (applied_to b v) vs

pub closed_seq : (a b : Act) (vs : List Value) → closed (seq a b) vs ≡ seq (closed a vs) (closed b vs)
closed_seq a b [] = refl
closed_seq a b (v ∷ vs) = closed_seq (applied_to a v) (applied_to b v) vs

pub closed_catch : (a b : Act) (vs : List Value) → closed (catch a b) vs ≡ catch (closed a vs) (closed b vs)
closed_catch a b [] = refl
closed_catch a b (v ∷ vs) = closed_catch (applied_to a v) (applied_to b v) vs
