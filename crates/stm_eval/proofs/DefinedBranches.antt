-- An action all of whose branches are defined is not stuck.
use Rattle.std.proofs.Common.{◌≢◌, true, false, List, [], ◌∷◌, ◌++◌, Some, None, Ok, Err}
use Rattle.stm_terms.specs.declared.values.Value.{Value}
use Rattle.stm_terms.specs.declared.values.Value.TheVariants.{Int, Bool as Truth, Unit as Nil, Var}
use Rattle.stm_terms.specs.declared.values.Fault.TheVariants.{Thrown, Overflow}
use Rattle.stm_terms.specs.Ast.{Act, return, read, write, make, retry, throw, if_else, or_else, bind, let_in, seq, catch}
use Rattle.stm_terms.specs.Value.{Answer, value}
use Rattle.stm_terms.specs.Changes.{Variables, Changes}
use Rattle.stm_terms.specs.Semantics.{Outcome, Returned, Threw, Retried, Stuck, on_answer, then_run, else_run, catch_run, chosen, run}
use Rattle.stm_eval.specs.BothBranches.{OnAnswer, OnCondition, OnReturn, OnThrow, AllBranchesDefined}

answered : (o : Answer) (go : Value → Type 0) (f : Value → Outcome) → ((v : Value) → go v → f v ≢ Stuck) → OnAnswer o go → on_answer o f ≢ Stuck
answered (Some (Ok v)) go f k m = k v m
answered (Some (Err x)) go f k m = λ e. cc
answered None go f k m = absurd m

choice : (v : Value) (A B : Type 0) (x y : Outcome) → (A → x ≢ Stuck) → (B → y ≢ Stuck) → OnCondition v A B → chosen v x y ≢ Stuck
choice (Truth true) A B x y p q m = p m
choice (Truth false) A B x y p q m = q m
choice (Int z) A B x y p q m = absurd m
choice Nil A B x y p q m = absurd m
choice (Var r) A B x y p q m = absurd m

ran : (o : Outcome) (go : Value → Changes → Type 0) (f : Value → Changes → Outcome) → ((v : Value) (h : Changes) → go v h → f v h ≢ Stuck) → OnReturn o go → then_run o f ≢ Stuck
ran (Returned v h) go f k m = k v h m
ran (Threw x) go f k m = λ e. cc
ran Retried go f k m = λ e. cc
ran Stuck go f k m = absurd m

one_of : (x y : Outcome) → x ≢ Stuck → y ≢ Stuck → else_run x y ≢ Stuck
one_of (Returned v h) y p q = p
one_of (Threw f) y p q = p
one_of Retried y p q = q
one_of Stuck y p q = p

handled : (o : Outcome) (go : Value → Type 0) (f : Value → Outcome) → ((n : Value) → go n → f n ≢ Stuck) → OnThrow o go → catch_run o f ≢ Stuck
handled (Returned v h) go f k m = λ e. cc
handled (Threw (Thrown n)) go f k m = k (Int n) m
handled (Threw Overflow) go f k m = λ e. cc
handled Retried go f k m = λ e. cc
handled Stuck go f k m = absurd m

pub not_stuck : (S : Variables) (a : Act) (locals : List Value) (h : Changes) → AllBranchesDefined S a locals h → run S a locals h ≢ Stuck
not_stuck S (return e) locals h m = m
not_stuck S (read e) locals h m = m
not_stuck S (write r e) locals h m = m
not_stuck S (make t e) locals h m = m
not_stuck S retry locals h m = λ e. cc
not_stuck S (throw e) locals h m = m
not_stuck S (if_else e a b) locals h m =
    answered (value e locals) _ _ (λ v n. choice v _ _ _ _ (not_stuck S a locals h) (not_stuck S b locals h) n) m
not_stuck S (or_else a b) locals h m = one_of _ _ (not_stuck S a locals h m.0) (not_stuck S b locals h m.1)
not_stuck S (bind a b) locals h m = ran (run S a locals h) _ _ (λ v k n. not_stuck S b (locals ++ v ∷ []) k n) m.1
not_stuck S (let_in e b) locals h m = answered (value e locals) _ _ (λ v n. not_stuck S b (locals ++ v ∷ []) h n) m
not_stuck S (seq a b) locals h m = ran (run S a locals h) _ _ (λ v k n. not_stuck S b locals k n) m.1
not_stuck S (catch a b) locals h m = handled (run S a locals h) _ _ (λ n q. not_stuck S b (locals ++ n ∷ []) h q) m.1
