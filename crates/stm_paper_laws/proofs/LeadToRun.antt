-- The transitions of a well typed action lead to what its run says.
use Rattle.std.proofs.Common.{◌≡◌, Bool, true, false, List, [], ◌∷◌, ◌++◌, length, inl, inr, Option, Some, None, Ok, Err, refl, ap, sym, ◌∙◌, subst, ⊎_elim, ◌⊎◌}
use Rattle.std.specs.Prelude.{ℤ, slice_get, option_map, map, if◌then◌else◌, ⊤}
use Rattle.std.proofs.lemmas.List.{append_assoc, append-nil}
use Rattle.stm_terms.specs.declared.kinds.Ty.{Ty}
use Rattle.stm_terms.specs.declared.values.Ref.{Ref}
use Rattle.stm_terms.specs.declared.values.Ref.TheVariants.{Old, New}
use Rattle.stm_terms.specs.declared.values.Value.{Value}
use Rattle.stm_terms.specs.declared.values.Value.TheVariants.{Int, Bool as Truth, Unit as Nil, Var}
use Rattle.stm_terms.specs.declared.values.Fault.TheVariants.{Thrown, Overflow}
use Rattle.stm_terms.specs.Ast.{Term, lit, Act, return, read, write, make, retry, throw, if_else, or_else, bind, let_in, seq, catch}
use Rattle.stm_terms.specs.Value.{Answer, value}
use Rattle.stm_terms.specs.Changes.{Variables, Changes, find, first_of, view_at, written, made}
use Rattle.stm_terms.specs.Semantics.{Outcome, Returned, Threw, Retried, Stuck, on_answer, then_run, catch_run, else_run, returned_value, returned_unit, read_at, write_at, thrown, chosen, run}
use Rattle.stm_terms.specs.Typing.{TypeEnv, int_ty, bool_ty, unit_ty, var_ty, deref_ty, same_ty, kind_of, type_of, expr_type, with_type, ActionType, Gives, join_types, with_result, when, action_type, WellTyped, HaveTypes}
use Rattle.stm_check.proofs.ExpressionsSound.{IsOf, with_type_some, when_true, same_ty_equal, expr_fine}
use Rattle.stm_check.proofs.ActionsSound.{mapped, if_some, with_result_some, with_bound_some, locals_kept, one_more, Fine, HasResult, run_fine}
use Rattle.stm_paper_laws.specs.Transitions.{Heap, Allocations, Configuration, updated, □, ◌>>=◌, ◌>>◌, BIND, THROW, RETRY, BIND', THROW', RETRY', IF_TRUE, IF_FALSE, LET, FAULT, ◌⇒◌, READ, WRITE, NEW, AADMIN, OR1, OR2, OR3, XSTM1, XSTM2, XSTM2', XSTM3, ◌⇒*◌, none, more}
use Rattle.stm_paper_laws.specs.Laws.{heap_of, cells_of, Returns, Throws, Retries, Ends}
use Rattle.stm_paper_laws.specs.Evaluation.{applied_to, ◌⇓◌, raised, Needs, of_return, of_read, of_write, of_written, of_make, of_if, of_let}
use Rattle.stm_paper_laws.proofs.Substitution.{closed_term, closed, value_closed, applied_closed, closed_return, closed_read, closed_write, closed_make, closed_retry, closed_throw, closed_if, closed_or, closed_bind, closed_let, closed_seq, closed_catch}
use Rattle.stm_paper_laws.proofs.Heaps.{written_there, made_heap, made_cells, next_is_free}

-- ---- transitions in a context
abbrev in_bind : Act → Configuration → Configuration
in_bind K x = (bind x.0 K, x.1, x.2)

abbrev in_seq : Act → Configuration → Configuration
in_seq K x = (seq x.0 K, x.1, x.2)

step_in_bind : (K : Act) {x y : Configuration} → x ⇒ y → in_bind K x ⇒ in_bind K y
step_in_bind K (READ S p q) = READ (S >>= K) p q
step_in_bind K (WRITE S p m q) = WRITE (S >>= K) p m q
step_in_bind K (NEW S t r m q) = NEW (S >>= K) t r m q
step_in_bind K (AADMIN S s) = AADMIN (S >>= K) s
step_in_bind K (OR1 S b s) = OR1 (S >>= K) b s
step_in_bind K (OR2 S b s) = OR2 (S >>= K) b s
step_in_bind K (OR3 S b s) = OR3 (S >>= K) b s
step_in_bind K (XSTM1 S b s) = XSTM1 (S >>= K) b s
step_in_bind K (XSTM2 S b s r) = XSTM2 (S >>= K) b s r
step_in_bind K (XSTM2' S b s r) = XSTM2' (S >>= K) b s r
step_in_bind K (XSTM3 S b s) = XSTM3 (S >>= K) b s

step_in_seq : (K : Act) {x y : Configuration} → x ⇒ y → in_seq K x ⇒ in_seq K y
step_in_seq K (READ S p q) = READ (S >> K) p q
step_in_seq K (WRITE S p m q) = WRITE (S >> K) p m q
step_in_seq K (NEW S t r m q) = NEW (S >> K) t r m q
step_in_seq K (AADMIN S s) = AADMIN (S >> K) s
step_in_seq K (OR1 S b s) = OR1 (S >> K) b s
step_in_seq K (OR2 S b s) = OR2 (S >> K) b s
step_in_seq K (OR3 S b s) = OR3 (S >> K) b s
step_in_seq K (XSTM1 S b s) = XSTM1 (S >> K) b s
step_in_seq K (XSTM2 S b s r) = XSTM2 (S >> K) b s r
step_in_seq K (XSTM2' S b s r) = XSTM2' (S >> K) b s r
step_in_seq K (XSTM3 S b s) = XSTM3 (S >> K) b s

steps_in_bind : (K : Act) {x y : Configuration} → x ⇒* y → in_bind K x ⇒* in_bind K y
steps_in_bind K none = none
steps_in_bind K (more s t) = more (step_in_bind K s) (steps_in_bind K t)

steps_in_seq : (K : Act) {x y : Configuration} → x ⇒* y → in_seq K x ⇒* in_seq K y
steps_in_seq K none = none
steps_in_seq K (more s t) = more (step_in_seq K s) (steps_in_seq K t)

pub joined : {x y z : Configuration} → x ⇒* y → y ⇒* z → x ⇒* z
joined none t = t
joined (more s r) t = more s (joined r t)

one : {x y : Configuration} → x ⇒ y → x ⇒* y
one s = more s none

-- ---- what transitions add to the allocations, whichever were there
abbrev StepAdds : Configuration → Configuration → Type 0
StepAdds x y = (Δ : Allocations) × (y.2 ≡ x.2 ++ Δ) × ((D : Allocations) → (x.0, x.1, D) ⇒ (y.0, y.1, D ++ Δ))

abbrev StepsAdd : Configuration → Configuration → Type 0
StepsAdd x y = (Δ : Allocations) × (y.2 ≡ x.2 ++ Δ) × ((D : Allocations) → (x.0, x.1, D) ⇒* (y.0, y.1, D ++ Δ))

adds_none : {M N : Act} {Θ Θ' : Heap} (Δ : Allocations) → ((D : Allocations) → (M, Θ, D) ⇒ (N, Θ', D)) → StepAdds (M, Θ, Δ) (N, Θ', Δ)
adds_none {M} {N} {Θ} {Θ'} Δ s = ([], sym (append-nil Δ), λ D. subst (λ z. (M, Θ, D) ⇒ (N, Θ', z)) (sym (append-nil D)) (s D))

mutual
  step_adds : {x y : Configuration} → x ⇒ y → StepAdds x y
  step_adds (READ {Δ} S p q) = adds_none Δ (λ D. READ S p q)
  step_adds (WRITE {Δ} S p m q) = adds_none Δ (λ D. WRITE S p m q)
  step_adds (NEW S t r m q) = ((r, t) ∷ [], refl, λ D. NEW S t r m q)
  step_adds (AADMIN {Δ} S s) = adds_none Δ (λ D. AADMIN S s)
  step_adds (OR1 S b s) = let a = steps_add s in (a.0, a.1, λ D. OR1 S b (a.2 D))
  step_adds (OR2 S b s) = let a = steps_add s in (a.0, a.1, λ D. OR2 S b (a.2 D))
  step_adds (OR3 {Δ} S b s) = let a = steps_add s in adds_none Δ (λ D. OR3 S b (a.2 D))
  step_adds (XSTM1 {Δ'} S b s) = (Δ', refl, λ D. XSTM1 S b s)
  step_adds (XSTM2 {Δ} S b s r) = adds_none Δ (λ D. XSTM2 S b s r)
  step_adds (XSTM2' {Δ'} S b s r) = (Δ', refl, λ D. XSTM2' S b s r)
  step_adds (XSTM3 {Δ} S b s) = adds_none Δ (λ D. XSTM3 S b s)

  steps_add : {x y : Configuration} → x ⇒* y → StepsAdd x y
  steps_add (none {x}) = ([], sym (append-nil x.2), λ D. subst (λ z. (x.0, x.1, D) ⇒* (x.0, x.1, z)) (sym (append-nil D)) none)
  steps_add (more {x} {y} {z} s t) =
      let a = step_adds s in
      let b = steps_add t in (
        a.0 ++ b.0,
        b.1 ∙ ap (λ Δ. Δ ++ b.0) a.1 ∙ append_assoc x.2 a.0 b.0,
        λ D. subst (λ Δ. (x.0, x.1, D) ⇒* (z.0, z.1, Δ)) (append_assoc D a.0 b.0) (more (a.2 D) (b.2 (D ++ a.0))),
      )

-- ---- names for what a view has
-- an answer with its value renamed
abbrev pub renamed_answer : (Value → Value) → Answer → Answer
renamed_answer ren (Some (Ok v)) = Some (Ok (ren v))
renamed_answer ren (Some (Err f)) = Some (Err f)
renamed_answer ren None = None

-- a heap for each view in which values are renamed: what has to hold of it, so that transitions in it can do what is done in views
pub record IsNamedHeap (kinds : TypeEnv) (under : Variables) (ren : Value → Value) (heap : Changes → Heap) (cells : Changes → Allocations) : Type 0 where
  pub ints : (n : ℤ) → ren (Int n) ≡ Int n
  pub truths : (b : Bool) → ren (Truth b) ≡ Truth b
  pub units : ren Nil ≡ Nil
  pub values : (e : Term) (locals : List Value) (types : List Ty) (t : Ty) (h : Changes) → HaveTypes kinds h locals types → expr_type kinds types e ≡ Some t
      → value (closed_term e (map ren locals)) [] ≡ renamed_answer ren (value e locals)
  pub reads : (h : Changes) (r : Ref) (v : Value) (u : Ty) → WellTyped kinds under h → kind_of kinds h r ≡ Some u → view_at under h r ≡ Some v
      → (s : Ref) × (ren (Var r) ≡ Var s) × (heap h s ≡ Some (ren v))
  pub writes : (h : Changes) (r : Ref) (v w : Value) (u : Ty) → WellTyped kinds under h → kind_of kinds h r ≡ Some u → view_at under h r ≡ Some w
      → (k : Changes) × (s : Ref) × (written h r v ≡ Some k) × (ren (Var r) ≡ Var s) × (heap h s ≡ Some (ren w)) × (updated (heap h) s (ren v) ≡ heap k) × (cells h ≡ cells k)
  pub makes : (h : Changes) (t : Ty) (v : Value)
      → (s : Ref) × (ren (Var (New (length h.news))) ≡ Var s) × (heap h s ≡ None) × (updated (heap h) s (ren v) ≡ heap (made h t v)) × (cells h ++ (s, t) ∷ [] ≡ cells (made h t v))

map_push : (ren : Value → Value) (vs : List Value) (v : Value) → map ren (vs ++ v ∷ []) ≡ map ren vs ++ ren v ∷ []
map_push ren [] v = refl
map_push ren (w ∷ vs) v = ap (λ l. ren w ∷ l) (map_push ren vs v)

as_value : {e : Term} {v w : Value} → e ⇓ v → v ≡ w → e ⇓ w
as_value p q = record { value_is = p.value_is ∙ ap (λ x. Some (Ok x)) q }

module _ {kinds : TypeEnv} {under : Variables} {ren : Value → Value} {heap : Changes → Heap} {cells : Changes → Allocations} (N : IsNamedHeap kinds under ren heap cells) where
  -- an action in the heap of a view
  abbrev pub At : Act → Changes → Configuration
  At a h = (a, heap h, cells h)

  -- what the transitions lead to
  abbrev pub Leads : Configuration → Outcome → Type 0
  Leads x (Returned v k) = Ends x (Returns (ren v) (heap k) (cells k))
  Leads x (Threw f) = Ends x (Throws f)
  Leads x Retried = Ends x Retries
  Leads x Stuck = ⊤

  after_steps : {x y : Configuration} → x ⇒* y → (o : Outcome) → Leads y o → Leads x o
  after_steps s (Returned v k) p = (p.0, joined s p.1, p.2)
  after_steps s (Threw f) p = (p.0, p.1, p.2, joined s p.3, p.4)
  after_steps s Retried p = (p.0, p.1, joined s p.2)
  after_steps s Stuck p = tt

  answered : (M : Act) (e : Term) (h : Changes) (a : Answer) (go : Value → Outcome) → Needs M e → value e [] ≡ renamed_answer ren a
      → ((v : Value) → e ⇓ ren v → a ≡ Some (Ok v) → Leads (At M h) (go v)) → Leads (At M h) (on_answer a go)
  answered M e h (Some (Ok v)) go n p f = f v (record { value_is = p }) refl
  answered M e h (Some (Err f)) go n p _ = (e, heap h, cells h, one (AADMIN □ (FAULT n (record { fault_is = p }))), ap raised p)
  answered M e h None go n p f = tt

  throws : (e : Term) (h : Changes) (a : Answer) → value e [] ≡ renamed_answer ren a → Leads (At (throw e) h) (on_answer a thrown)
  throws e h (Some (Ok (Int n))) p = (e, heap h, cells h, none, ap raised (p ∙ ap (λ v. Some (Ok v)) (N.ints n)))
  throws e h (Some (Ok v)) p = tt
  throws e h (Some (Err f)) p = (e, heap h, cells h, none, ap raised p)
  throws e h None p = tt

  chooses : (e : Term) (a b : Act) (h : Changes) (v : Value) (o p : Outcome) → e ⇓ ren v → Leads (At a h) o → Leads (At b h) p
      → Leads (At (if_else e a b) h) (chosen v o p)
  chooses e a b h (Truth true) o p q x y = after_steps (one (AADMIN □ (IF_TRUE (as_value q (N.truths true))))) o x
  chooses e a b h (Truth false) o p q x y = after_steps (one (AADMIN □ (IF_FALSE (as_value q (N.truths false))))) p y
  chooses e a b h v o p q x y = tt

  binds : (a b : Act) (h : Changes) (o : Outcome) (go : Value → Changes → Outcome) → Leads (At a h) o
      → ((v : Value) (k : Changes) → o ≡ Returned v k → Leads (At (applied_to b (ren v)) k) (go v k))
      → Leads (At (bind a b) h) (then_run o go)
  binds a b h (Returned v k) go p f = after_steps (joined (steps_in_bind b p.1) (one (AADMIN □ (BIND p.2)))) (go v k) (f v k refl)
  binds a b h (Threw g) go p f = (p.0, p.1, p.2, joined (steps_in_bind b p.3) (one (AADMIN □ THROW)), p.4)
  binds a b h Retried go p f = (p.0, p.1, joined (steps_in_bind b p.2) (one (AADMIN □ RETRY)))
  binds a b h Stuck go p f = tt

  continues : (a b : Act) (h : Changes) (o : Outcome) (go : Value → Changes → Outcome) → Leads (At a h) o
      → ((v : Value) (k : Changes) → o ≡ Returned v k → Leads (At b k) (go v k))
      → Leads (At (seq a b) h) (then_run o go)
  continues a b h (Returned v k) go p f = after_steps (joined (steps_in_seq b p.1) (one (AADMIN □ (BIND' p.2)))) (go v k) (f v k refl)
  continues a b h (Threw g) go p f = (p.0, p.1, p.2, joined (steps_in_seq b p.3) (one (AADMIN □ THROW')), p.4)
  continues a b h Retried go p f = (p.0, p.1, joined (steps_in_seq b p.2) (one (AADMIN □ RETRY')))
  continues a b h Stuck go p f = tt

  tries : (a b : Act) (h : Changes) (o p : Outcome) → Leads (At a h) o → Leads (At b h) p → Leads (At (or_else a b) h) (else_run o p)
  tries a b h (Returned v k) p x y = (x.0, one (OR1 □ b x.1), x.2)
  tries a b h (Threw f) p x y = (x.0, x.1, x.2, one (OR2 □ b x.3), x.4)
  tries a b h Retried p x y = after_steps (one (OR3 □ b x.2)) p y
  tries a b h Stuck p x y = tt

  catches : (a b : Act) (h : Changes) (o : Outcome) (handler : Value → Outcome) → Leads (At a h) o
      → ((n : ℤ) → Leads (At (applied_to b (Int n)) h) (handler (Int n)))
      → Leads (At (catch a b) h) (catch_run o handler)
  catches a b h (Returned v k) handler x f =
      let m = steps_add x.1 in
      (x.0, subst (λ Δ. (catch a b, heap h, cells h) ⇒* (return x.0, heap k, Δ)) (sym m.1) (one (XSTM1 □ b (m.2 []))), x.2)
  catches a b h (Threw (Thrown n)) handler x f = after_steps (one (XSTM2 □ b ((steps_add x.3).2 []) x.4)) (handler (Int n)) (f n)
  catches a b h (Threw Overflow) handler x f = let m = steps_add x.3 in (x.0, x.1, cells h ++ m.0, one (XSTM2' □ b (m.2 []) x.4), x.4)
  catches a b h Retried handler x f = (heap h, cells h, one (XSTM3 □ b ((steps_add x.2).2 [])))
  catches a b h Stuck handler x f = tt

-- ---- the variable of a well typed write is there
some_or_none : {A : Type 0} (o : Option A) → (o ≡ None) ⊎ ((x : A) × (o ≡ Some x))
some_or_none None = inl refl
some_or_none (Some x) = inr (x, refl)

module _ (kinds : TypeEnv) (under : Variables) where
  pub seen : (h : Changes) → WellTyped kinds under h → (r : Ref) (u : Ty) → kind_of kinds h r ≡ Some u → (w : Value) × (view_at under h r ≡ Some w)
  seen h w (Old i) u e =
      ⊎_elim
      (λ none. let s = w.store i u e in (s.0, ap (λ o. first_of o (under i)) none ∙ s.1))
      (λ some. (some.0, ap (λ o. first_of o (under i)) some.1))
      (some_or_none (find i h.writes))
  seen h w (New k) u e = let m = mapped (λ c. c.0) (slice_get h.news k) u e in (m.0.1, ap (λ o. option_map (λ c. c.1) o) m.1)

-- the type of a value that an expression has
typed_value : (kinds : TypeEnv) (h : Changes) (e : Term) (locals : List Value) (t : Ty) (v : Value) → IsOf kinds h t (value e locals) → value e locals ≡ Some (Ok v) → type_of kinds h v ≡ Some t
typed_value kinds h e locals t v p q = subst (IsOf kinds h t) q p

module _ {kinds : TypeEnv} {under : Variables} {ren : Value → Value} {heap : Changes → Heap} {cells : Changes → Allocations} (N : IsNamedHeap kinds under ren heap cells) where
  reads_typed : (e : Term) (h : Changes) (x : Value) (t u : Ty) → WellTyped kinds under h → type_of kinds h x ≡ Some t → deref_ty t ≡ Some u
      → e ⇓ ren x → Leads N (At N (read e) h) (read_at under h x)
  reads_typed e h (Var r) t u w p d q =
      let k = mapped var_ty _ t p in
      let y : Some k.0 ≡ Some u = ap deref_ty k.2 ∙ d in
      let there = seen kinds under h w r u (k.1 ∙ y) in
      let s = N.reads h r there.0 u w (k.1 ∙ y) there.1 in
      subst (λ o. Leads N (At N (read e) h) (returned_value o h)) (sym there.1)
      (lit (ren there.0), one (READ □ (as_value q s.1) s.2), record { value_is = refl })
  reads_typed e h x t u w p d q = tt

  writes_typed : (e m : Term) (h : Changes) (x v : Value) (t u : Ty) → WellTyped kinds under h → type_of kinds h x ≡ Some t → deref_ty t ≡ Some u
      → e ⇓ ren x → m ⇓ ren v → Leads N (At N (write e m) h) (write_at h x v)
  writes_typed e m h (Var r) v t u w p d q y =
      let k = mapped var_ty _ t p in
      let z : Some k.0 ≡ Some u = ap deref_ty k.2 ∙ d in
      let there = seen kinds under h w r u (k.1 ∙ z) in
      let s = N.writes h r v there.0 u w (k.1 ∙ z) there.1 in
      subst (λ o. Leads N (At N (write e m) h) (returned_unit o)) (sym s.2) (
        lit Nil,
        subst (λ z. (write e m, heap h, cells h) ⇒* (return (lit Nil), z, cells s.0)) s.5
            (subst (λ d. (write e m, heap h, cells h) ⇒* (return (lit Nil), updated (heap h) s.1 (ren v), d)) s.6 (one (WRITE □ (as_value q s.3) y s.4))),
        record { value_is = ap (λ x. Some (Ok x)) (sym N.units) },
      )
  writes_typed e m h x v t u w p d q s = tt

  makes : (t : Ty) (e : Term) (h : Changes) (v : Value) → e ⇓ ren v → Leads N (At N (make t e) h) (Returned (Var (New (length h.news))) (made h t v))
  makes t e h v p =
      let s = N.makes h t v in (
        lit (Var s.0),
        subst (λ z. (make t e, heap h, cells h) ⇒* (return (lit (Var s.0)), z, cells (made h t v))) s.3
            (subst (λ d. (make t e, heap h, cells h) ⇒* (return (lit (Var s.0)), updated (heap h) s.0 (ren v), d)) s.4 (one (NEW □ t s.0 p s.2))),
        record { value_is = ap (λ x. Some (Ok x)) (sym s.1) },
      )

  -- under its locals, an action with these in place
  abbrev In : Act → List Value → Act
  In a locals = closed a (map ren locals)

  from : (M K : Act) (h : Changes) (o : Outcome) → M ≡ K → Leads N (At N K h) o → Leads N (At N M h) o
  from M K h o e p = subst (λ x. Leads N (At N x h) o) (sym e) p

  with_local : (b : Act) (locals : List Value) (v w : Value) → w ≡ ren v → applied_to (In b locals) w ≡ In b (locals ++ v ∷ [])
  with_local b locals v w e = ap (applied_to (In b locals)) e ∙ applied_closed b (map ren locals) (ren v) ∙ ap (closed b) (sym (map_push ren locals v))

  pub leads : (a : Act) (locals : List Value) (types : List Ty) (h : Changes) (r : ActionType) → WellTyped kinds under h → HaveTypes kinds h locals types
      → action_type kinds types a ≡ Some r → Leads N (At N (In a locals) h) (run under a locals h)
  leads (return e) locals types h r w l p =
      let vs = map ren locals in
      let E = closed_term e vs in
      let t = with_type_some (expr_type kinds types e) _ r p in
      from _ _ h _ (closed_return e vs)
      (answered N (return E) E h (value e locals) _ of_return (N.values e locals types t.0 h l t.1) (λ v q _. (E, none, q)))
  leads (read e) locals types h r w l p =
      let vs = map ren locals in
      let E = closed_term e vs in
      let t = with_type_some (expr_type kinds types e) (λ t. with_type (deref_ty t) (λ u. Some (Gives u))) r p in
      let u = with_type_some (deref_ty t.0) _ r t.2 in
      from _ _ h _ (closed_read e vs)
      (answered N (read E) E h (value e locals) _ of_read (N.values e locals types t.0 h l t.1)
      (λ v q m. reads_typed E h v t.0 u.0 w (typed_value kinds h e locals t.0 v (expr_fine kinds h e locals types t.0 l t.1) m) u.1 q))
  leads (write x e) locals types h r w l p =
      let vs = map ren locals in
      let t = with_type_some (expr_type kinds types x) (λ t. with_type (expr_type kinds types e) (λ u. when (same_ty t (var_ty u)) (Gives unit_ty))) r p in
      let u = with_type_some (expr_type kinds types e) (λ u. when (same_ty t.0 (var_ty u)) (Gives unit_ty)) r t.2 in
      let b = when_true _ (Gives unit_ty) r u.2 in
      let d : deref_ty t.0 ≡ Some u.0 = ap deref_ty (same_ty_equal t.0 (var_ty u.0) b.0) in
      let X = closed_term x vs in
      let E = closed_term e vs in
      from _ _ h _ (closed_write x e vs)
      (answered N (write X E) X h (value x locals) _ of_write (N.values x locals types t.0 h l t.1)
      (λ v q m. answered N (write X E) E h (value e locals) _ (of_written q) (N.values e locals types u.0 h l u.1)
      (λ y s _. writes_typed X E h v y t.0 u.0 w (typed_value kinds h x locals t.0 v (expr_fine kinds h x locals types t.0 l t.1) m) d q s)))
  leads (make t e) locals types h r w l p =
      let vs = map ren locals in
      let E = closed_term e vs in
      let u = with_type_some (expr_type kinds types e) _ r p in
      from _ _ h _ (closed_make t e vs)
      (answered N (make t E) E h (value e locals) _ of_make (N.values e locals types u.0 h l u.1) (λ v q _. makes t E h v q))
  leads retry locals types h r w l p = from _ _ h Retried (closed_retry (map ren locals)) (heap h, cells h, none)
  leads (throw e) locals types h r w l p =
      let vs = map ren locals in
      let t = with_type_some (expr_type kinds types e) _ r p in
      from _ _ h _ (closed_throw e vs) (throws N (closed_term e vs) h (value e locals) (N.values e locals types t.0 h l t.1))
  leads (if_else e a b) locals types h r w l p =
      let vs = map ren locals in
      let t = with_type_some (expr_type kinds types e) (λ t. if same_ty t bool_ty then with_result (action_type kinds types a) (λ q. with_result (action_type kinds types b) (join_types q)) else None) r p in
      let c = if_some (same_ty t.0 bool_ty) _ r t.2 in
      let s = with_result_some (action_type kinds types a) (λ q. with_result (action_type kinds types b) (join_types q)) r c.1 in
      let u = with_result_some (action_type kinds types b) (join_types s.0) r s.2 in
      let E = closed_term e vs in
      from _ _ h _ (closed_if e a b vs)
      (answered N (if_else E (closed a vs) (closed b vs)) E h (value e locals) _ of_if (N.values e locals types t.0 h l t.1)
      (λ v q _. chooses N E (closed a vs) (closed b vs) h v _ _ q (leads a locals types h s.0 w l s.1) (leads b locals types h u.0 w l u.1)))
  leads (or_else a b) locals types h r w l p =
      let s = with_result_some _ _ r p in
      let u = with_result_some _ _ r s.2 in
      from _ _ h _ (closed_or a b (map ren locals))
      (tries N (In a locals) (In b locals) h _ _ (leads a locals types h s.0 w l s.1) (leads b locals types h u.0 w l u.1))
  leads (bind a b) locals types h r w l p =
      let s = with_result_some _ _ r p in
      let t = with_bound_some s.0 _ r s.2 in
      from _ _ h _ (closed_bind a b (map ren locals))
      (binds N (In a locals) (In b locals) h (run under a locals h) _ (leads a locals types h s.0 w l s.1)
      (λ v k e.
      let fine : Fine kinds under h s.0 (Returned v k) = subst (Fine kinds under h s.0) e (run_fine kinds under a locals types h s.0 w l s.1) in
      let y : type_of kinds k v ≡ Some t.0 = subst (λ z. HasResult kinds under k z v) t.1 fine.0 in
      from _ _ k _ (with_local b locals v (ren v) refl)
      (leads b (locals ++ v ∷ []) (types ++ t.0 ∷ []) k r fine.1 (one_more kinds k locals types v t.0 (locals_kept kinds h k fine.2 locals types l) y) t.2)))
  leads (let_in e b) locals types h r w l p =
      let vs = map ren locals in
      let t = with_type_some _ _ r p in
      let E = closed_term e vs in
      from _ _ h _ (closed_let e b vs)
      (answered N (let_in E (closed b vs)) E h (value e locals) _ of_let (N.values e locals types t.0 h l t.1)
      (λ v q m. after_steps N (one (AADMIN □ (LET q))) _
      (from _ _ h _ (with_local b locals v (ren v) refl)
      (leads b (locals ++ v ∷ []) (types ++ t.0 ∷ []) h r w (one_more kinds h locals types v t.0 l (typed_value kinds h e locals t.0 v (expr_fine kinds h e locals types t.0 l t.1) m)) t.2))))
  leads (seq a b) locals types h r w l p =
      let s = with_result_some _ _ r p in
      from _ _ h _ (closed_seq a b (map ren locals))
      (continues N (In a locals) (In b locals) h (run under a locals h) _ (leads a locals types h s.0 w l s.1)
      (λ v k e.
      let fine : Fine kinds under h s.0 (Returned v k) = subst (Fine kinds under h s.0) e (run_fine kinds under a locals types h s.0 w l s.1) in
      leads b locals types k r fine.1 (locals_kept kinds h k fine.2 locals types l) s.2))
  leads (catch a b) locals types h r w l p =
      let s = with_result_some _ _ r p in
      let u = with_result_some _ _ r s.2 in
      from _ _ h _ (closed_catch a b (map ren locals))
      (catches N (In a locals) (In b locals) h (run under a locals h) _ (leads a locals types h s.0 w l s.1)
      (λ n. from _ _ h _ (with_local b locals (Int n) (Int n) (sym (N.ints n)))
      (leads b (locals ++ Int n ∷ []) (types ++ int_ty ∷ []) h u.0 w (one_more kinds h locals types (Int n) int_ty l refl) u.1)))

-- ---- new cells by their numbers
same_answer : (a : Answer) → a ≡ renamed_answer (λ v. v) a
same_answer (Some (Ok v)) = refl
same_answer (Some (Err f)) = refl
same_answer None = refl

map_same : (vs : List Value) → map (λ v. v) vs ≡ vs
map_same [] = refl
map_same (v ∷ vs) = ap (λ l. v ∷ l) (map_same vs)

pub by_numbers : (kinds : TypeEnv) (under : Variables) → IsNamedHeap kinds under (λ v. v) (heap_of under) cells_of
by_numbers kinds under = record {
  ints = λ n. refl;
  truths = λ b. refl;
  units = refl;
  values = λ e locals types t h l p. ap (λ vs. value (closed_term e vs) []) (map_same locals) ∙ value_closed e locals ∙ same_answer (value e locals);
  reads = λ h r v u w e p. (r, refl, p);
  writes = λ h r v w u t e p. let k = written_there under h r v w p in (k.0, r, k.1, refl, p, k.2, k.3);
  makes = λ h t v. (New (length h.news), refl, next_is_free under h, made_heap under h t v, made_cells h t v);
}
