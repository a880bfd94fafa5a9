-- What an action reads of the variables underneath.
use Rattle.std.specs.Prelude.{ℕ, true, false, List, [], ◌∷◌, ◌++◌, Option, Some, None, Ok, Err}
use Rattle.stm_terms.specs.declared.values.Ref.{Ref}
use Rattle.stm_terms.specs.declared.values.Ref.TheVariants.{Old, New}
use Rattle.stm_terms.specs.declared.values.Value.{Value}
use Rattle.stm_terms.specs.declared.values.Value.TheVariants.{Int, Bool as Truth, Var}
use Rattle.stm_terms.specs.declared.values.Fault.TheVariants.{Thrown, Overflow}
use Rattle.stm_terms.specs.Ast.{Act, return, read, write, make, retry, throw, if_else, or_else, bind, let_in, seq, catch}
use Rattle.stm_terms.specs.Value.{Answer, value}
use Rattle.stm_terms.specs.Changes.{Variables, Changes, no_changes, find, put}
use Rattle.stm_terms.specs.Semantics.{Outcome, Returned, Threw, Retried, Stuck, run}

-- the variable, read underneath unless the block has a value of its own for it
abbrev pub unless_marked : ℕ → Option Value → List ℕ
unless_marked i (Some v) = []
unless_marked i None = i ∷ []

-- a read of a reference reads a variable underneath where that is unmarked
abbrev pub looked_at : Changes → Ref → List ℕ
looked_at h (Old i) = unless_marked i (find i h.writes)
looked_at h (New k) = []

-- what `readTVar` reads at a value
abbrev pub look_read : Changes → Value → List ℕ
look_read h (Var r) = looked_at h r
look_read h v = []

-- what is read after an expression that has a value; after a fault nothing is
abbrev pub look_answer : Answer → (Value → List ℕ) → List ℕ
look_answer (Some (Ok v)) go = go v
look_answer (Some (Err f)) go = []
look_answer None go = []

-- what is read by the branch that the condition chooses
abbrev pub look_chosen : Value → List ℕ → List ℕ → List ℕ
look_chosen (Truth true) is js = is
look_chosen (Truth false) is js = js
look_chosen v is js = []

-- what is read after a first part that returned
abbrev pub then_look : Outcome → (Value → Changes → List ℕ) → List ℕ
then_look (Returned v h) go = go v h
then_look (Threw f) go = []
then_look Retried go = []
then_look Stuck go = []

-- what the right branch reads, if the left one retried
abbrev pub else_look : Outcome → List ℕ → List ℕ
else_look (Returned v h) is = []
else_look (Threw f) is = []
else_look Retried is = is
else_look Stuck is = []

-- what the handler reads, if the action threw a number
abbrev pub catch_look : Outcome → (Value → List ℕ) → List ℕ
catch_look (Returned v h) handler = []
catch_look (Threw (Thrown n)) handler = handler (Int n)
catch_look (Threw Overflow) handler = []
catch_look Retried handler = []
catch_look Stuck handler = []

-- the variables that the action reads while they are unmarked, in the order of the reads; those of a left branch that
-- retried stay, and those of an action that threw to its handler
abbrev pub looks : Variables → Act → List Value → Changes → List ℕ
looks under (return e) locals h = []
looks under (read e) locals h = look_answer (value e locals) (look_read h)
looks under (write r e) locals h = []
looks under (make t e) locals h = []
looks under retry locals h = []
looks under (throw e) locals h = []
looks under (if_else e a b) locals h =
    look_answer (value e locals) (λ v. look_chosen v (looks under a locals h) (looks under b locals h))
looks under (or_else a b) locals h = looks under a locals h ++ else_look (run under a locals h) (looks under b locals h)
looks under (bind a b) locals h =
    looks under a locals h ++ then_look (run under a locals h) (λ v k. looks under b (locals ++ v ∷ []) k)
looks under (let_in e b) locals h = look_answer (value e locals) (λ v. looks under b (locals ++ v ∷ []) h)
looks under (seq a b) locals h = looks under a locals h ++ then_look (run under a locals h) (λ v k. looks under b locals k)
looks under (catch a b) locals h =
    looks under a locals h ++ catch_look (run under a locals h) (λ n. looks under b (locals ++ n ∷ []) h)

-- a variable with its value, put into its place in an ascending list
abbrev pub insert_read : ℕ → Option Value → List (ℕ × Value) → List (ℕ × Value)
insert_read i (Some v) reads = put i v reads
insert_read i None reads = reads

-- each variable that is underneath, with its value, put among the reads
abbrev pub insert_reads : Variables → List ℕ → List (ℕ × Value) → List (ℕ × Value)
insert_reads under [] reads = reads
insert_reads under (i ∷ is) reads = insert_reads under is (insert_read i (under i) reads)

-- the variables that a block reads, in the order of the reads
abbrev pub looks_of : Variables → Act → List ℕ
looks_of under block = looks under block [] no_changes

-- the variables that a block reads, rising, with their values
abbrev pub reads_of : Variables → Act → List (ℕ × Value)
reads_of under block = insert_reads under (looks_of under block) []
