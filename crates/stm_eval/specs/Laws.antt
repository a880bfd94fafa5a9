-- Laws of what blocks do and read.
use Rattle.std.specs.Prelude.{◌≡◌, ◌↔◌, ◌⊎◌, ℕ, ℤ, Some, IsSome, List, [], ◌∷◌, ◌++◌}
use Rattle.stm_terms.specs.declared.values.Value.{Value}
use Rattle.stm_terms.specs.declared.values.Value.TheVariants.{Int}
use Rattle.stm_terms.specs.declared.values.Fault.TheVariants.{Thrown}
use Rattle.stm_terms.specs.declared.verdicts.Verdict.{Verdict}
use Rattle.stm_terms.specs.Ast.{Term, lit, Act, return, retry, throw, or_else, let_in, catch}
use Rattle.stm_terms.specs.Typing.{Rising}
use Rattle.stm_terms.specs.Changes.{Variables, Changes, find}
use Rattle.stm_terms.specs.Semantics.{Threw, run}
use Rattle.stm_terms.specs.ReadSet.{looks, looks_of, reads_of}
use Rattle.stm_terms.specs.Verdict.{verdict}
use Rattle.stm_eval.specs.Messages.{Agrees, MessageIsValid, Holds}

-- a variable is among those of a list
abbrev pub In : ℕ → List ℕ → Type 0
In i [] = ⊥
In i (j ∷ js) = (j ≡ i) ⊎ In i js

-- the two have the same value at each of these variables, or both have none there
abbrev pub AgreeOn : List ℕ → Variables → Variables → Type 0
AgreeOn variables S T = (i : ℕ) → In i variables → T i ≡ S i

-- over the one and over the other, in a view with the same changes, the action ends the same way, returns the same view,
-- and reads the same variables
pub record SameRun (a : Act) (locals : List Value) (S T : Variables) (h : Changes) : Type 0 where
  pub ends : run T a locals h ≡ run S a locals h
  pub reads : looks T a locals h ≡ looks S a locals h

-- the two actions end the same way, return the same view, and read the same variables in the same order
pub record Equivalent (a b : Act) (locals : List Value) (S : Variables) (h : Changes) : Type 0 where
  pub ends : run S a locals h ≡ run S b locals h
  pub reads : looks S a locals h ≡ looks S b locals h

-- what an action does depends on the variables that it reads, and on no others
abbrev pub ReadSetIndependence : Type 0
ReadSetIndependence =
    (a : Act) (locals : List Value) (S T : Variables) (h : Changes) →
    AgreeOn (looks S a locals h) S T → SameRun a locals S T h

-- what a block does on a store, it does on the fragment of what it read there, and it reads all of that fragment
abbrev pub StoreToFragment : Type 0
StoreToFragment =
    (block : Act) (S : Variables) (found : Verdict) →
    verdict S block ≡ Some found → MessageIsValid block (reads_of S block) found

-- what a block does on the fragment of what it read, it does on each store with these values
abbrev pub FragmentToStore : Type 0
FragmentToStore =
    (block : Act) (reads : List (ℕ × Value)) (found : Verdict) (S : Variables) →
    MessageIsValid block reads found → Agrees reads S → Holds block S reads found

-- what holds of a block on one store holds on each other one that has the values which it read
abbrev pub VerdictIsStable : Type 0
VerdictIsStable =
    (block : Act) (reads : List (ℕ × Value)) (found : Verdict) (S T : Variables) →
    Holds block S reads found → Agrees reads T → Holds block T reads found

-- the reads of a block rise, and have the values of the store
abbrev pub ReadsAgreeWithStore : Type 0
ReadsAgreeWithStore = (block : Act) (S : Variables) → Rising (reads_of S block) × Agrees (reads_of S block) S

-- the reads of a block that has a verdict are of exactly the variables that it looks at
abbrev pub ReadSetIsExact : Type 0
ReadSetIsExact =
    (block : Act) (S : Variables) (found : Verdict) → verdict S block ≡ Some found →
    (i : ℕ) → In i (looks_of S block) ↔ IsSome (find i (reads_of S block))

-- of three branches it makes no difference which two are taken together
abbrev pub OrElseIsAssociative : Type 0
OrElseIsAssociative =
    (a b c : Act) (locals : List Value) (S : Variables) (h : Changes) →
    Equivalent (or_else (or_else a b) c) (or_else a (or_else b c)) locals S h

-- a left branch that retries at once changes nothing
abbrev pub RetryIsLeftUnit : Type 0
RetryIsLeftUnit = (a : Act) (locals : List Value) (S : Variables) (h : Changes) → Equivalent (or_else retry a) a locals S h

-- and neither does a right one
abbrev pub RetryIsRightUnit : Type 0
RetryIsRightUnit = (a : Act) (locals : List Value) (S : Variables) (h : Changes) → Equivalent (or_else a retry) a locals S h

-- a thrown number is the handler's local
abbrev pub CatchOfThrow : Type 0
CatchOfThrow =
    (n : ℤ) (b : Act) (locals : List Value) (S : Variables) (h : Changes) →
    Equivalent (catch (throw (lit (Int n))) b) (let_in (lit (Int n)) b) locals S h

-- a `return` has no use for a handler, even if its value overflows
abbrev pub CatchOfReturn : Type 0
CatchOfReturn =
    (e : Term) (b : Act) (locals : List Value) (S : Variables) (h : Changes) →
    Equivalent (catch (return e) b) (return e) locals S h

-- and neither has a `retry`
abbrev pub CatchOfRetry : Type 0
CatchOfRetry = (b : Act) (locals : List Value) (S : Variables) (h : Changes) → Equivalent (catch retry b) retry locals S h

-- the handler runs in the view from before the action: it sees nothing that the action wrote or made
abbrev pub HandlerSeesNoWrites : Type 0
HandlerSeesNoWrites =
    (a b : Act) (n : ℤ) (locals : List Value) (S : Variables) (h : Changes) →
    run S a locals h ≡ Threw (Thrown n) → run S (catch a b) locals h ≡ run S b (locals ++ Int n ∷ []) h
