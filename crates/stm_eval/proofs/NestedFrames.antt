-- What an `orElse` and a `catch` come to once the part in a frame of its own has run.
use Rattle.std.proofs.Common.{◌≡◌, ℕ, ◌≤◌, ◌+◌, List, [], ◌∷◌, ◌++◌, length, sym, ap, ◌∙◌, subst, arith}
use Rattle.std.specs.Prelude.{Result, Ok, Err, OnOk, IfOk}
use Rattle.stm_terms.specs.declared.values.Value.{Value}
use Rattle.stm_terms.specs.declared.values.Value.TheVariants.{Int}
use Rattle.stm_terms.specs.declared.values.Fault.TheVariants.{Thrown, Overflow}
use Rattle.stm_terms.specs.Ast.{Act, or_else, catch}
use Rattle.stm_terms.specs.Typing.{makes}
use Rattle.stm_terms.specs.Changes.{Variables}
use Rattle.stm_terms.specs.Semantics.{run}
use Rattle.stm_terms.specs.Semantics as meaning
use Rattle.stm_terms.specs.ReadSet.{looks, insert_reads}
use Rattle.stm_log.specs.LogModel.{Logged}
use Rattle.stm_eval.specs.declared.outcome.Outcome.{Outcome}
use Rattle.stm_eval.specs.declared.outcome.Outcome.TheVariants.{Returned, Threw, Retried}
use Rattle.stm_eval.specs.declared.outcome.Step.{Step}
use Rattle.stm_eval.specs.declared.outcome.Step.TheVariants.{On, Ended}
use Rattle.stm_eval.specs.InterpreterSteps.{outcome, StepsTo}
use Rattle.stm_eval.specs.BothBranches.{AllBranchesDefined, DefinedLeft, OnThrow, IsReadSetOf, RunsTo, entered}
use Rattle.stm_eval.specs.NestedFrames.{AfterLeft, AfterAction}
use Rattle.stm_eval.proofs.InsertedReads.{reads_in_turn}

-- run on the log in a frame of its own, the action ended so, and left these locals and this log
pub record RanInside (under : Variables) (a : Act) (locals : List Value) (old : Logged)
    (e : Outcome) (after : List Value) (new : Logged) : Type 0 where
  pub outcome : run under a locals old.top ≡ outcome e new.top
  pub reads : new.reads ≡ insert_reads under (looks under a locals old.top) old.reads
  pub made : length new.top.news ≤ length old.top.news + makes a
  pub below : new.below ≡ old.top ∷ old.below
  pub locals_same : after ≡ locals

-- what the interpreter says of an action that it ran in a frame
pub ran_inside : (under : Variables) (a : Act) (locals : List Value) (old inner : Logged) (e : Outcome) (after : List Value) (new : Logged) → inner ≡ entered old
    → run under a locals inner.top ≡ outcome e new.top → new.reads ≡ insert_reads under (looks under a locals inner.top) inner.reads
    → length new.top.news ≤ length inner.top.news + makes a → new.below ≡ inner.below → after ≡ locals
    → RanInside under a locals old e after new
ran_inside under a locals old inner e after new is ends reads made below same =
    let top : inner.top ≡ old.top = ap (λ (l : Logged). l.top) is in
    record {
      outcome = rw top at ends;
      reads = rw (top, ap (λ (l : Logged). l.reads) is) at reads;
      made = rw top at made;
      below = below ∙ ap (λ (l : Logged). l.below) is;
      locals_same = same;
    }

-- and what the walk does
pub walked_inside : (under : Variables) (a : Act) (locals : List Value) (old inner : Logged) (e : Outcome) (after : List Value) (new : Logged) → inner ≡ entered old
    → RunsTo under a locals inner e after new → RanInside under a locals old e after new
walked_inside under a locals old inner e after new is r = ran_inside under a locals old inner e after new is r.outcome r.reads r.made r.below r.locals_same

module _ (under : Variables) (a b : Act) (locals : List Value) (old : Logged) (mine : List Value) (mid : Logged) where
  abbrev Ran : Outcome → Type 0
  Ran e = RanInside under a locals old e mine mid

  left_ran : (e : Outcome) (s : Step) (new : Logged) → Ran e → AfterLeft e b mid s new → StepsTo under (or_else a b) locals old s mine new
  left_ran (Returned v) (Ended e) new p q = record {
    outcome = grind (arith, p.outcome, q.0, q.1);
    reads = grind (arith, reads_in_turn, p.outcome, p.reads, q.0, q.1);
    made = grind (arith, p.made, q.1);
    below = grind (arith, p.below, q.1);
  }
  left_ran (Returned v) (On rest) new p q = absurd cc
  left_ran (Threw f) (Ended e) new p q = record {
    outcome = grind (arith, p.outcome, q.0);
    reads = grind (arith, reads_in_turn, p.outcome, p.reads, q.0, q.1);
    made = grind (arith, p.made, p.below, q.1);
    below = grind (arith, p.below, q.1);
  }
  left_ran (Threw f) (On rest) new p q = absurd cc
  left_ran Retried (On rest) new p q = record {
    outcome = grind (arith, p.outcome, p.below, p.locals_same, q.0, q.1);
    reads = grind (arith, reads_in_turn, p.outcome, p.reads, p.below, p.locals_same, q.0, q.1);
    made = grind (arith, p.made, p.below, q.0, q.1);
    below = grind (arith, p.below, q.1);
  }
  left_ran Retried (Ended e) new p q = absurd q.0

  action_ran : (e : Outcome) (s : Step) (after : List Value) (new : Logged) → Ran e → AfterAction e b mine mid s after new → StepsTo under (catch a b) locals old s after new
  action_ran (Returned v) (Ended e) after new p q = record {
    outcome = grind (arith, p.outcome, q.0, q.2);
    reads = grind (arith, reads_in_turn, p.outcome, p.reads, q.0, q.2);
    made = grind (arith, p.made, q.2);
    below = grind (arith, p.below, q.2);
  }
  action_ran (Returned v) (On rest) after new p q = absurd cc
  action_ran (Threw (Thrown n)) (On rest) after new p q = record {
    outcome = grind (arith, p.outcome, p.below, p.locals_same, q.0, q.1, q.2);
    reads = grind (arith, reads_in_turn, p.outcome, p.reads, p.below, p.locals_same, q.0, q.1, q.2);
    made = grind (arith, p.made, p.below, q.0, q.2);
    below = grind (arith, p.below, q.2);
  }
  action_ran (Threw (Thrown n)) (Ended e) after new p q = absurd q.0
  action_ran (Threw Overflow) (Ended e) after new p q = record {
    outcome = grind (arith, p.outcome, q.0);
    reads = grind (arith, reads_in_turn, p.outcome, p.reads, q.0, q.2);
    made = grind (arith, p.made, p.below, q.2);
    below = grind (arith, p.below, q.2);
  }
  action_ran (Threw Overflow) (On rest) after new p q = absurd cc
  action_ran Retried (Ended e) after new p q = record {
    outcome = grind (arith, p.outcome, q.0);
    reads = grind (arith, reads_in_turn, p.outcome, p.reads, q.0, q.2);
    made = grind (arith, p.made, p.below, q.2);
    below = grind (arith, p.below, q.2);
  }
  action_ran Retried (On rest) after new p q = absurd cc

  action_defined : (e : Outcome) (s : Step) (after : List Value) (new : Logged) → AllBranchesDefined under (catch a b) locals old.top → Ran e → AfterAction e b mine mid s after new → DefinedLeft under s after new.top
  action_defined e (Ended x) after new d p q = tt
  action_defined (Returned v) (On rest) after new d p q = absurd cc
  action_defined (Threw (Thrown n)) (On rest) after new d p q =
      let thrown : AllBranchesDefined under b (locals ++ Int n ∷ []) old.top = subst (λ (o : meaning.Outcome). OnThrow o (λ m. AllBranchesDefined under b (locals ++ m ∷ []) old.top)) p.outcome d.1 in
      let top : new.top ≡ old.top = cc in
      rw (q.0, q.1, p.locals_same, top) thrown
  action_defined (Threw Overflow) (On rest) after new d p q = absurd cc
  action_defined Retried (On rest) after new d p q = absurd cc

  reads_kept : (e : Outcome) (s : Step) (after : List Value) (new : Logged) → AfterAction e b mine mid s after new → new.reads ≡ mid.reads
  reads_kept (Returned v) s after new q = cc
  reads_kept (Threw (Thrown n)) s after new q = cc
  reads_kept (Threw Overflow) s after new q = cc
  reads_kept Retried s after new q = cc

  -- an `orElse` whose left branch ran so
  pub or_else_steps : {E : Type 0} (r : Result Step E) (e : Outcome) (new : Logged) → Ran e → IfOk r (λ s. AfterLeft e b mid s new)
      → IfOk r (λ s. StepsTo under (or_else a b) locals old s mine new)
  or_else_steps (Ok s) e new p q = left_ran e s new p q
  or_else_steps (Err x) e new p q = tt

  -- a `catch` whose action ran so
  pub catch_steps : {E : Type 0} (r : Result Step E) (e : Outcome) (after : List Value) (new : Logged) → Ran e → IfOk r (λ s. AfterAction e b mine mid s after new)
      → IfOk r (λ s. StepsTo under (catch a b) locals old s after new)
  catch_steps (Ok s) e after new p q = action_ran e s after new p q
  catch_steps (Err x) e after new p q = tt

  -- what is left of it is defined where all branches are
  pub catch_defined : {E : Type 0} (r : Result Step E) (e : Outcome) (after : List Value) (new : Logged) → AllBranchesDefined under (catch a b) locals old.top → Ran e → IfOk r (λ s. AfterAction e b mine mid s after new)
      → IfOk r (λ s. DefinedLeft under s after new.top)
  catch_defined (Ok s) e after new d p q = action_defined e s after new d p q
  catch_defined (Err x) e after new d p q = tt

  -- and what was read stays a read set
  pub catch_reads : {E : Type 0} (r : Result Step E) (e : Outcome) (after : List Value) (new : Logged) → IsReadSetOf under mid.reads → IfOk r (λ s. AfterAction e b mine mid s after new)
      → OnOk r (IsReadSetOf under new.reads)
  catch_reads (Ok s) e after new are q = subst (λ (rs : List (ℕ × Value)). IsReadSetOf under rs) (sym (reads_kept e s after new q)) are
  catch_reads (Err x) e after new are q = tt
