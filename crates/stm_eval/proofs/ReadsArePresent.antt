-- A run that isn't stuck found each variable that it read.
use Rattle.std.proofs.Common.{ℕ, refl, subst, Option, Some, None, Ok, Err, IsSome, List, [], ◌∷◌, ◌++◌, true, false, inl, inr}
use Rattle.std.specs.Prelude.{⊤}
use Rattle.stm_terms.specs.declared.values.Ref.TheVariants.{Old, New}
use Rattle.stm_terms.specs.declared.values.Value.{Value}
use Rattle.stm_terms.specs.declared.values.Value.TheVariants.{Int, Bool as Truth, Unit as Nil, Var}
use Rattle.stm_terms.specs.declared.values.Fault.TheVariants.{Thrown, Overflow}
use Rattle.stm_terms.specs.Ast.{Act, return, read, write, make, retry, throw, if_else, or_else, bind, let_in, seq, catch}
use Rattle.stm_terms.specs.Value.{Answer, value}
use Rattle.stm_terms.specs.Changes.{Variables, Changes, find, first_of}
use Rattle.stm_terms.specs.Semantics.{Outcome, Returned, Threw, Retried, Stuck, on_answer, then_run, else_run, catch_run, returned_value, read_at, chosen, run}
use Rattle.stm_terms.specs.ReadSet.{unless_marked, look_read, look_answer, look_chosen, then_look, else_look, catch_look, looks}
use Rattle.stm_eval.specs.Laws.{In}

abbrev pub IsDefined : Outcome → Type 0
IsDefined (Returned v h) = ⊤
IsDefined (Threw f) = ⊤
IsDefined Retried = ⊤
IsDefined Stuck = ⊥

module _ (S : Variables) where
  abbrev pub ArePresent : List ℕ → Type 0
  ArePresent is = (i : ℕ) → In i is → IsSome (S i)

  both : (xs ys : List ℕ) → ArePresent xs → ArePresent ys → ArePresent (xs ++ ys)
  both [] ys p q i m = q i m
  both (x ∷ xs) ys p q i (inl e) = p i (inl e)
  both (x ∷ xs) ys p q i (inr m) = both xs ys (λ j n. p j (inr n)) q i m

  none : ArePresent []
  none i m = elim m [ ]

  some : (o : Option Value) (h : Changes) → IsDefined (returned_value o h) → IsSome o
  some (Some v) h d = refl
  some None h d = elim d [ ]

  own : (i : ℕ) (marked : Option Value) (h : Changes) → IsDefined (returned_value (first_of marked (S i)) h) → ArePresent (unless_marked i marked)
  own i (Some v) h d j m = elim m [ ]
  own i None h d j (inl e) = subst (λ k. IsSome (S k)) e (some (S i) h d)
  own i None h d j (inr m) = elim m [ ]

  at : (v : Value) (h : Changes) → IsDefined (read_at S h v) → ArePresent (look_read h v)
  at (Var (Old i)) h d = own i (find i h.writes) h d
  at (Var (New k)) h d = none
  at (Int n) h d = none
  at (Truth b) h d = none
  at Nil h d = none

  behind : (g : Answer) (k : Value → Outcome) (m : Value → List ℕ) → ((v : Value) → IsDefined (k v) → ArePresent (m v)) → IsDefined (on_answer g k) → ArePresent (look_answer g m)
  behind (Some (Ok v)) k m p d = p v d
  behind (Some (Err f)) k m p d = none
  behind None k m p d = none

  choice : (v : Value) (a b : Outcome) (x y : List ℕ) → (IsDefined a → ArePresent x) → (IsDefined b → ArePresent y) → IsDefined (chosen v a b) → ArePresent (look_chosen v x y)
  choice (Truth true) a b x y p q d = p d
  choice (Truth false) a b x y p q d = q d
  choice (Int n) a b x y p q d = none
  choice Nil a b x y p q d = none
  choice (Var r) a b x y p q d = none

  after : (o : Outcome) (w : List ℕ) (k : Value → Changes → Outcome) (m : Value → Changes → List ℕ) → (IsDefined o → ArePresent w) → ((v : Value) (h : Changes) → IsDefined (k v h) → ArePresent (m v h)) → IsDefined (then_run o k) → ArePresent (w ++ then_look o m)
  after (Returned v h) w k m p q d = both w (m v h) (p tt) (q v h d)
  after (Threw f) w k m p q d = both w [] (p tt) none
  after Retried w k m p q d = both w [] (p tt) none
  after Stuck w k m p q d = elim d [ ]

  other : (o b : Outcome) (w y : List ℕ) → (IsDefined o → ArePresent w) → (IsDefined b → ArePresent y) → IsDefined (else_run o b) → ArePresent (w ++ else_look o y)
  other (Returned v h) b w y p q d = both w [] (p tt) none
  other (Threw f) b w y p q d = both w [] (p tt) none
  other Retried b w y p q d = both w y (p tt) (q d)
  other Stuck b w y p q d = elim d [ ]

  handled : (o : Outcome) (w : List ℕ) (k : Value → Outcome) (m : Value → List ℕ) → (IsDefined o → ArePresent w) → ((n : Value) → IsDefined (k n) → ArePresent (m n)) → IsDefined (catch_run o k) → ArePresent (w ++ catch_look o m)
  handled (Returned v h) w k m p q d = both w [] (p tt) none
  handled (Threw (Thrown n)) w k m p q d = both w (m (Int n)) (p tt) (q (Int n) d)
  handled (Threw Overflow) w k m p q d = both w [] (p tt) none
  handled Retried w k m p q d = both w [] (p tt) none
  handled Stuck w k m p q d = elim d [ ]

  pub present : (a : Act) (locals : List Value) (h : Changes) → IsDefined (run S a locals h) → ArePresent (looks S a locals h)
  present (return e) locals h d = none
  present (read e) locals h d = behind (value e locals) _ _ (λ v. at v h) d
  present (write r e) locals h d = none
  present (make t e) locals h d = none
  present retry locals h d = none
  present (throw e) locals h d = none
  present (if_else e a b) locals h d = behind (value e locals) _ _ (λ v. choice v _ _ _ _ (present a locals h) (present b locals h)) d
  present (or_else a b) locals h d = other (run S a locals h) _ _ _ (present a locals h) (present b locals h) d
  present (bind a b) locals h d = after (run S a locals h) _ _ _ (present a locals h) (λ v g. present b (locals ++ v ∷ []) g) d
  present (let_in e a) locals h d = behind (value e locals) _ _ (λ v. present a (locals ++ v ∷ []) h) d
  present (seq a b) locals h d = after (run S a locals h) _ _ _ (present a locals h) (λ v g. present b locals g) d
  present (catch a b) locals h d = handled (run S a locals h) _ _ _ (present a locals h) (λ n. present b (locals ++ n ∷ []) h) d
