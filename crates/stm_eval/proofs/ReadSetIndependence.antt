-- Read-set independence, by induction on nested actions.
use Rattle.std.proofs.Common.{ℕ, ◌≡◌, refl, ◌∙◌, ap, ap₂, Option, Some, None, Ok, Err, List, [], ◌∷◌, ◌++◌, true, false, inl, inr}
use Rattle.stm_terms.specs.declared.values.Ref.TheVariants.{Old, New}
use Rattle.stm_terms.specs.declared.values.Value.{Value}
use Rattle.stm_terms.specs.declared.values.Value.TheVariants.{Int, Bool as Truth, Unit as Nil, Var}
use Rattle.stm_terms.specs.declared.values.Fault.TheVariants.{Thrown, Overflow}
use Rattle.stm_terms.specs.Ast.{Act, return, read, write, make, retry, throw, if_else, or_else, bind, let_in, seq, catch}
use Rattle.stm_terms.specs.Value.{Answer, value}
use Rattle.stm_terms.specs.Changes.{Variables, Changes, find, first_of}
use Rattle.stm_terms.specs.Semantics.{Outcome, Returned, Threw, Retried, Stuck, on_answer, then_run, else_run, catch_run, returned_value, read_at, chosen, run}
use Rattle.stm_terms.specs.ReadSet.{unless_marked, look_read, look_answer, look_chosen, then_look, else_look, catch_look, looks}
use Rattle.stm_eval.specs.Laws.{In, AgreeOn, SameRun}

pub In-left : (i : ℕ) (xs ys : List ℕ) → In i xs → In i (xs ++ ys)
In-left i [] ys m = elim m [ ]
In-left i (x ∷ xs) ys (inl e) = inl e
In-left i (x ∷ xs) ys (inr m) = inr (In-left i xs ys m)

pub In-right : (i : ℕ) (xs ys : List ℕ) → In i ys → In i (xs ++ ys)
In-right i [] ys m = m
In-right i (x ∷ xs) ys m = inr (In-right i xs ys m)

-- An end with its looks, which is like another one.
abbrev Alike : Outcome → Outcome → List ℕ → List ℕ → Type 0
Alike o o' w w' = (o' ≡ o) × (w' ≡ w)

module _ (S T : Variables) where
  own : (i : ℕ) (marked : Option Value) (h : Changes) → AgreeOn (unless_marked i marked) S T → returned_value (first_of marked (T i)) h ≡ returned_value (first_of marked (S i)) h
  own i (Some v) h agree = refl
  own i None h agree = ap (λ o. returned_value o h) (agree i (inl refl))

  at : (v : Value) (h : Changes) → AgreeOn (look_read h v) S T → read_at T h v ≡ read_at S h v
  at (Var (Old i)) h agree = own i (find i h.writes) h agree
  at (Var (New k)) h agree = refl
  at (Int n) h agree = refl
  at (Truth b) h agree = refl
  at Nil h agree = refl

  read_alike : (g : Answer) (h : Changes) → AgreeOn (look_answer g (look_read h)) S T → on_answer g (read_at T h) ≡ on_answer g (read_at S h)
  read_alike (Some (Ok v)) h agree = at v h agree
  read_alike (Some (Err f)) h agree = refl
  read_alike None h agree = refl

  choice : (v : Value) (a a' b b' : Outcome) (x x' y y' : List ℕ) → (AgreeOn x S T → Alike a a' x x') → (AgreeOn y S T → Alike b b' y y') → AgreeOn (look_chosen v x y) S T → Alike (chosen v a b) (chosen v a' b') (look_chosen v x y) (look_chosen v x' y')
  choice (Truth true) a a' b b' x x' y y' p q agree = p agree
  choice (Truth false) a a' b b' x x' y y' p q agree = q agree
  choice (Int n) a a' b b' x x' y y' p q agree = (refl, refl)
  choice Nil a a' b b' x x' y y' p q agree = (refl, refl)
  choice (Var r) a a' b b' x x' y y' p q agree = (refl, refl)

  -- what follows the value of an expression
  behind : (g : Answer) (k k' : Value → Outcome) (m m' : Value → List ℕ) → ((v : Value) → AgreeOn (m v) S T → Alike (k v) (k' v) (m v) (m' v)) → AgreeOn (look_answer g m) S T → Alike (on_answer g k) (on_answer g k') (look_answer g m) (look_answer g m')
  behind (Some (Ok v)) k k' m m' p agree = p v agree
  behind (Some (Err f)) k k' m m' p agree = (refl, refl)
  behind None k k' m m' p agree = (refl, refl)

  -- what follows an action, at an end of it
  after : (o : Outcome) (k k' : Value → Changes → Outcome) (m m' : Value → Changes → List ℕ) → ((v : Value) (h : Changes) → AgreeOn (m v h) S T → Alike (k v h) (k' v h) (m v h) (m' v h)) → AgreeOn (then_look o m) S T → Alike (then_run o k) (then_run o k') (then_look o m) (then_look o m')
  after (Returned v h) k k' m m' p agree = p v h agree
  after (Threw f) k k' m m' p agree = (refl, refl)
  after Retried k k' m m' p agree = (refl, refl)
  after Stuck k k' m m' p agree = (refl, refl)

  -- the right branch, at an end of the left one
  other : (o b b' : Outcome) (y y' : List ℕ) → (AgreeOn y S T → Alike b b' y y') → AgreeOn (else_look o y) S T → Alike (else_run o b) (else_run o b') (else_look o y) (else_look o y')
  other Retried b b' y y' p agree = p agree
  other (Returned v h) b b' y y' p agree = (refl, refl)
  other (Threw f) b b' y y' p agree = (refl, refl)
  other Stuck b b' y y' p agree = (refl, refl)

  -- the handler, at an end of the action
  handled : (o : Outcome) (k k' : Value → Outcome) (m m' : Value → List ℕ) → ((n : Value) → AgreeOn (m n) S T → Alike (k n) (k' n) (m n) (m' n)) → AgreeOn (catch_look o m) S T → Alike (catch_run o k) (catch_run o k') (catch_look o m) (catch_look o m')
  handled (Returned v h) k k' m m' p agree = (refl, refl)
  handled (Threw (Thrown n)) k k' m m' p agree = p (Int n) agree
  handled (Threw Overflow) k k' m m' p agree = (refl, refl)
  handled Retried k k' m m' p agree = (refl, refl)
  handled Stuck k k' m m' p agree = (refl, refl)

  -- a first part and what follows it: the looks of both are the looks of the whole
  joined : (o o' : Outcome) (w w' : List ℕ) (go : Outcome → Outcome) (go' : Outcome → Outcome) (look look' : Outcome → List ℕ) → (AgreeOn w S T → Alike o o' w w') → (AgreeOn (look o) S T → Alike (go o) (go' o) (look o) (look' o)) → AgreeOn (w ++ look o) S T → Alike (go o) (go' o') (w ++ look o) (w' ++ look' o')
  joined o o' w w' go go' look look' first second agree =
      let p : Alike o o' w w' = first (λ i m. agree i (In-left i w (look o) m)) in
      let q : Alike (go o) (go' o) (look o) (look' o) = second (λ i m. agree i (In-right i w (look o) m)) in
      (ap go' p.0 ∙ q.0, ap₂ (λ x y. x ++ y) p.1 (ap look' p.0 ∙ q.1))

  alike : (a : Act) (locals : List Value) (h : Changes) → AgreeOn (looks S a locals h) S T → Alike (run S a locals h) (run T a locals h) (looks S a locals h) (looks T a locals h)
  alike (return e) locals h agree = (refl, refl)
  alike (read e) locals h agree = (read_alike (value e locals) h agree, refl)
  alike (write r e) locals h agree = (refl, refl)
  alike (make t e) locals h agree = (refl, refl)
  alike retry locals h agree = (refl, refl)
  alike (throw e) locals h agree = (refl, refl)
  alike (if_else e a b) locals h agree =
      behind (value e locals) _ _ _ _ (λ v. choice v _ _ _ _ _ _ _ _ (alike a locals h) (alike b locals h)) agree
  alike (or_else a b) locals h agree =
      joined (run S a locals h) (run T a locals h) _ _
      (λ o. else_run o (run S b locals h)) (λ o. else_run o (run T b locals h))
      (λ o. else_look o (looks S b locals h)) (λ o. else_look o (looks T b locals h))
      (alike a locals h)
      (other (run S a locals h) _ _ _ _ (alike b locals h)) agree
  alike (bind a b) locals h agree =
      joined (run S a locals h) (run T a locals h) _ _
      (λ o. then_run o (λ v g. run S b (locals ++ v ∷ []) g)) (λ o. then_run o (λ v g. run T b (locals ++ v ∷ []) g))
      (λ o. then_look o (λ v g. looks S b (locals ++ v ∷ []) g)) (λ o. then_look o (λ v g. looks T b (locals ++ v ∷ []) g))
      (alike a locals h)
      (after (run S a locals h) _ _ _ _ (λ v g. alike b (locals ++ v ∷ []) g)) agree
  alike (let_in e a) locals h agree =
      behind (value e locals) _ _ _ _ (λ v. alike a (locals ++ v ∷ []) h) agree
  alike (seq a b) locals h agree =
      joined (run S a locals h) (run T a locals h) _ _
      (λ o. then_run o (λ v g. run S b locals g)) (λ o. then_run o (λ v g. run T b locals g))
      (λ o. then_look o (λ v g. looks S b locals g)) (λ o. then_look o (λ v g. looks T b locals g))
      (alike a locals h)
      (after (run S a locals h) _ _ _ _ (λ v g. alike b locals g)) agree
  alike (catch a b) locals h agree =
      joined (run S a locals h) (run T a locals h) _ _
      (λ o. catch_run o (λ n. run S b (locals ++ n ∷ []) h)) (λ o. catch_run o (λ n. run T b (locals ++ n ∷ []) h))
      (λ o. catch_look o (λ n. looks S b (locals ++ n ∷ []) h)) (λ o. catch_look o (λ n. looks T b (locals ++ n ∷ []) h))
      (alike a locals h)
      (handled (run S a locals h) _ _ _ _ (λ n. alike b (locals ++ n ∷ []) h)) agree

pub independent : (a : Act) (locals : List Value) (S T : Variables) (h : Changes) → AgreeOn (looks S a locals h) S T → SameRun a locals S T h
independent a locals S T h agree =
    let p : Alike (run S a locals h) (run T a locals h) (looks S a locals h) (looks T a locals h) = alike S T a locals h agree in
    record { ends = p.0; reads = p.1 }
