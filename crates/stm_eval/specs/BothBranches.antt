-- What the branches of an `orElse` rest on if both are run, and what an action that was run has done to its log.
use Rattle.std.specs.Prelude.{◌≡◌, ◌≢◌, ◌⊎◌, ℕ, ◌+◌, ◌≤◌, ◌^◌, true, false, List, [], ◌∷◌, ◌++◌, length, Some, None, Ok, Err, ⊤}
use Rattle.stm_terms.specs.declared.values.Value.{Value}
use Rattle.stm_terms.specs.declared.values.Value.TheVariants.{Int, Bool as Truth}
use Rattle.stm_terms.specs.declared.values.Fault.TheVariants.{Thrown, Overflow}
use Rattle.stm_terms.specs.Ast.{Act, return, read, write, make, retry, throw, if_else, or_else, bind, let_in, seq, catch, act_of}
use Rattle.stm_terms.specs.Value.{Answer, value}
use Rattle.stm_terms.specs.Changes.{Variables, Changes, find}
use Rattle.stm_terms.specs.Semantics.{Returned, Threw, Retried, Stuck, run}
use Rattle.stm_terms.specs.Semantics as meaning
use Rattle.stm_terms.specs.ReadSet.{looks, insert_reads}
use Rattle.stm_terms.specs.Typing.{Rising, makes}
use Rattle.stm_log.specs.LogModel.{Logged}
use Rattle.stm_eval.specs.declared.outcome.Outcome.{Outcome}
use Rattle.stm_eval.specs.declared.outcome.Step.{Step}
use Rattle.stm_eval.specs.declared.outcome.Step.TheVariants.{On, Ended}
use Rattle.stm_eval.specs.InterpreterSteps.{outcome}

-- it holds of the value, if there is one; an expression that is undefined is none
abbrev pub OnAnswer : Answer → (Value → Type 0) → Type 0
OnAnswer (Some (Ok v)) go = go v
OnAnswer (Some (Err f)) go = ⊤
OnAnswer None go = ⊥

-- the first if the condition is true, the second if it is false
abbrev pub OnCondition : Value → Type 0 → Type 0 → Type 0
OnCondition (Truth true) first second = first
OnCondition (Truth false) first second = second
OnCondition v first second = ⊥

-- it holds of what was returned, if the run returned
abbrev pub OnReturn : meaning.Outcome → (Value → Changes → Type 0) → Type 0
OnReturn (Returned v h) go = go v h
OnReturn (Threw f) go = ⊤
OnReturn Retried go = ⊤
OnReturn Stuck go = ⊥

-- it holds of the number, if the run threw one
abbrev pub OnThrow : meaning.Outcome → (Value → Type 0) → Type 0
OnThrow (Returned v h) go = ⊤
OnThrow (Threw (Thrown n)) go = go (Int n)
OnThrow (Threw Overflow) go = ⊤
OnThrow Retried go = ⊤
OnThrow Stuck go = ⊥

-- no part of the action that is run is stuck; of an `orElse` both branches count, also if the left one doesn't retry
abbrev pub AllBranchesDefined : Variables → Act → List Value → Changes → Type 0
AllBranchesDefined under (return e) locals h = run under (return e) locals h ≢ Stuck
AllBranchesDefined under (read e) locals h = run under (read e) locals h ≢ Stuck
AllBranchesDefined under (write r e) locals h = run under (write r e) locals h ≢ Stuck
AllBranchesDefined under (make t e) locals h = run under (make t e) locals h ≢ Stuck
AllBranchesDefined under retry locals h = ⊤
AllBranchesDefined under (throw e) locals h = run under (throw e) locals h ≢ Stuck
AllBranchesDefined under (if_else e a b) locals h =
    OnAnswer (value e locals) (λ v. OnCondition v (AllBranchesDefined under a locals h) (AllBranchesDefined under b locals h))
AllBranchesDefined under (or_else a b) locals h = AllBranchesDefined under a locals h × AllBranchesDefined under b locals h
AllBranchesDefined under (bind a b) locals h =
    AllBranchesDefined under a locals h × OnReturn (run under a locals h) (λ v k. AllBranchesDefined under b (locals ++ v ∷ []) k)
AllBranchesDefined under (let_in e b) locals h = OnAnswer (value e locals) (λ v. AllBranchesDefined under b (locals ++ v ∷ []) h)
AllBranchesDefined under (seq a b) locals h =
    AllBranchesDefined under a locals h × OnReturn (run under a locals h) (λ v k. AllBranchesDefined under b locals k)
AllBranchesDefined under (catch a b) locals h =
    AllBranchesDefined under a locals h × OnThrow (run under a locals h) (λ n. AllBranchesDefined under b (locals ++ n ∷ []) h)

-- all branches of what a step leaves are defined
abbrev pub DefinedLeft : Variables → Step → List Value → Changes → Type 0
DefinedLeft under (On rest) locals h = AllBranchesDefined under (act_of rest.now) locals h
DefinedLeft under (Ended e) locals h = ⊤

-- the reads rise, and each variable among them has the value that is underneath
pub record IsReadSetOf (under : Variables) (reads : List (ℕ × Value)) : Type 0 where
  pub rising : Rising reads
  pub part : (i : ℕ) → (find i reads ≡ None) ⊎ (find i reads ≡ under i)

-- a log with one frame more
abbrev pub entered : Logged → Logged
entered log = record log { below = log.top ∷ log.below }

-- what an action needs to be run on a log
pub record CanRun (under : Variables) (a : Act) (locals : List Value) (log : Logged) : Type 0 where
  pub defined : AllBranchesDefined under a locals log.top
  pub room : length log.top.news + makes a ≤ 2 ^ 32
  pub reads : IsReadSetOf under log.reads

-- run on the log, the action ends so, and leaves these locals and this log; the frames below and the locals are as they were
pub record RunsTo (under : Variables) (a : Act) (locals : List Value) (old : Logged)
    (e : Outcome) (after : List Value) (new : Logged) : Type 0 where
  pub outcome : run under a locals old.top ≡ outcome e new.top
  pub reads : new.reads ≡ insert_reads under (looks under a locals old.top) old.reads
  pub made : length new.top.news ≤ length old.top.news + makes a
  pub below : new.below ≡ old.below
  pub locals_same : after ≡ locals
  pub read_set : IsReadSetOf under new.reads
