-- What the evaluator returns, by the definitions.
use Rattle.std.specs.Prelude.{◌≡◌, ℕ, ◌+◌, ◌≤◌, suc, List, [], length}
use Rattle.stm_terms.specs.declared.values.Value.{Value}
use Rattle.stm_terms.specs.Ast.{Act, if_else, or_else, bind, let_in, seq, catch, act_of}
use Rattle.stm_terms.specs.Typing.{makes}
use Rattle.stm_terms.specs.Changes.{Variables, Changes}
use Rattle.stm_terms.specs.Semantics as meaning
use Rattle.stm_terms.specs.ReadSet.{looks, insert_reads}
use Rattle.stm_log.specs.LogModel.{Logged}
use Rattle.stm_eval.specs.declared.outcome.Outcome.{Outcome}
use Rattle.stm_eval.specs.declared.outcome.Outcome.TheVariants.{Returned, Threw, Retried}
use Rattle.stm_eval.specs.declared.outcome.Step.{Step}
use Rattle.stm_eval.specs.declared.outcome.Step.TheVariants.{On, Ended}

-- only a return keeps what the log's top frame has
abbrev pub outcome : Outcome → Changes → meaning.Outcome
outcome (Returned v) h = meaning.Returned v h
outcome (Threw f) h = meaning.Threw f
outcome Retried h = meaning.Retried

-- how what is left ends
abbrev pub outcome_left : Variables → Step → List Value → Changes → meaning.Outcome
outcome_left under (On rest) locals h = meaning.run under (act_of rest.now) locals h
outcome_left under (Ended e) locals h = outcome e h

-- what is left to be read
abbrev pub looks_left : Variables → Step → List Value → Changes → List ℕ
looks_left under (On rest) locals h = looks under (act_of rest.now) locals h
looks_left under (Ended e) locals h = []

-- how many cells what is left may make
abbrev pub makes_left : Step → ℕ
makes_left (On rest) = makes (act_of rest.now)
makes_left (Ended e) = 0

-- how many actions stand in an action
abbrev pub size : Act → ℕ
size (if_else e a b) = suc (size a + size b)
size (or_else a b) = suc (size a + size b)
size (bind a b) = suc (size a + size b)
size (let_in e b) = suc (size b)
size (seq a b) = suc (size a + size b)
size (catch a b) = suc (size a + size b)
size a = 1

-- how many actions stand in what is left
abbrev pub size_left : Step → ℕ
size_left (On rest) = size (act_of rest.now)
size_left (Ended e) = 0

-- run on the log, a step leaves so much of the action, with these locals and this log: what is left ends as the action does,
-- and with what it reads and makes, the reads are the action's and the cells no more; the frames below are as they were
pub record StepsTo (under : Variables) (a : Act) (locals : List Value) (old : Logged)
    (s : Step) (after : List Value) (new : Logged) : Type 0 where
  pub outcome : meaning.run under a locals old.top ≡ outcome_left under s after new.top
  pub reads :
      insert_reads under (looks under a locals old.top) old.reads
      ≡ insert_reads under (looks_left under s after new.top) new.reads
  pub made : length new.top.news + makes_left s ≤ length old.top.news + makes a
  pub below : new.below ≡ old.below
