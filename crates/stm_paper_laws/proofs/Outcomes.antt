-- How outcomes are passed on, and administrative transitions, which keep them.
use Rattle.std.proofs.Common.{◌≡◌, Bool, true, false, List, [], ◌∷◌, length, Option, Some, None, Ok, Err, refl, ap, sym, ◌∙◌}
use Rattle.std.specs.Prelude.{ℤ, ◌+ℤ◌, ◌-ℤ◌, ◌*ℤ◌, slice_get, option_map, if◌then◌else◌, ⊤}
use Rattle.stm_terms.specs.declared.values.Ref.TheVariants.{New}
use Rattle.stm_terms.specs.declared.values.Value.{Value}
use Rattle.stm_terms.specs.declared.values.Value.TheVariants.{Int, Bool as Truth, Var}
use Rattle.stm_terms.specs.declared.values.Fault.{Fault}
use Rattle.stm_terms.specs.declared.values.Fault.TheVariants.{Thrown, Overflow}
use Rattle.stm_terms.specs.declared.expr.Op.{Op}
use Rattle.stm_terms.specs.declared.expr.Op.TheVariants.{Mul, Add, Sub, Eq, Lt, Le, And, Or}
use Rattle.stm_terms.specs.Ast.{Term, lit, local, global, bin, Act}
use Rattle.stm_terms.specs.Value.{Answer, fits_i64, decides, apply_op, with_value, value}
use Rattle.stm_terms.specs.Changes.{Variables, Changes, made}
use Rattle.stm_terms.specs.Semantics.{Outcome, Returned, Threw, on_answer, then_run, catch_run, else_run, read_at, write_at, thrown, chosen, run}
use Rattle.stm_paper_laws.specs.Evaluation.{◌⇑◌, raised, Needs, of_return, of_read, of_write, of_written, of_make, of_if, of_let}
use Rattle.stm_paper_laws.specs.Transitions.{Context, □, ◌>>=◌, ◌>>◌, ◌⟨◌⟩, ◌⟶◌, BIND, THROW, RETRY, BIND', THROW', RETRY', IF_TRUE, IF_FALSE, LET, FAULT}
use Rattle.stm_paper_laws.proofs.Substitution.{run_applied}

-- ---- the value of an expression fails by an overflow alone
abbrev pub NeverThrows : Answer → Type 0
NeverThrows (Some (Ok v)) = ⊤
NeverThrows (Some (Err (Thrown n))) = ⊥
NeverThrows (Some (Err Overflow)) = ⊤
NeverThrows None = ⊤

of_local : (o : Option Value) → NeverThrows (option_map Ok o)
of_local (Some v) = tt
of_local None = tt

of_result : (b : Bool) (z : ℤ) → NeverThrows (Some (if b then Ok (Int z) else Err Overflow))
of_result true z = tt
of_result false z = tt

of_op : (op : Op) (v w : Value) → NeverThrows (apply_op op v w)
of_op Mul (Int x) (Int y) = of_result (fits_i64 (x *ℤ y)) (x *ℤ y)
of_op Add (Int x) (Int y) = of_result (fits_i64 (x +ℤ y)) (x +ℤ y)
of_op Sub (Int x) (Int y) = of_result (fits_i64 (x -ℤ y)) (x -ℤ y)
of_op Lt (Int x) (Int y) = tt
of_op Le (Int x) (Int y) = tt
of_op And (Truth x) (Truth y) = tt
of_op Or (Truth x) (Truth y) = tt
of_op Eq x y = tt
of_op op x y = tt

of_value : (o : Answer) (go : Value → Answer) → NeverThrows o → ((v : Value) → NeverThrows (go v)) → NeverThrows (with_value o go)
of_value (Some (Ok v)) go p f = f v
of_value (Some (Err (Thrown n))) go p f = p
of_value (Some (Err Overflow)) go p f = tt
of_value None go p f = tt

either : (b : Bool) (o p : Answer) → NeverThrows o → NeverThrows p → NeverThrows (if b then o else p)
either true o p h k = h
either false o p h k = k

pub never_throws : (e : Term) (locals : List Value) → NeverThrows (value e locals)
never_throws (lit v) locals = tt
never_throws (local i) locals = of_local (slice_get locals i)
never_throws (global i) locals = tt
never_throws (bin op a b) locals =
    of_value (value a locals) _ (never_throws a locals)
    (λ x. either (decides op x) (Some (Ok x)) (with_value (value b locals) (apply_op op x)) tt
    (of_value (value b locals) (apply_op op x) (never_throws b locals) (of_op op x)))

-- ---- how combinators pass outcomes on
pub throw_passes : (a : Answer) (go : Value → Changes → Outcome) → then_run (on_answer a thrown) go ≡ on_answer a thrown
throw_passes (Some (Ok (Int n))) go = refl
throw_passes (Some (Ok v)) go = refl
throw_passes (Some (Err f)) go = refl
throw_passes None go = refl

pub return_stays : (a : Answer) (k : Changes) (right : Outcome) → else_run (on_answer a (λ v. Returned v k)) right ≡ on_answer a (λ v. Returned v k)
return_stays (Some (Ok v)) k right = refl
return_stays (Some (Err f)) k right = refl
return_stays None k right = refl

pub throw_stays : (a : Answer) (right : Outcome) → else_run (on_answer a thrown) right ≡ on_answer a thrown
throw_stays (Some (Ok (Int n))) right = refl
throw_stays (Some (Ok v)) right = refl
throw_stays (Some (Err f)) right = refl
throw_stays None right = refl

pub return_uncaught : (a : Answer) (k : Changes) (handler : Value → Outcome) → NeverThrows a → catch_run (on_answer a (λ v. Returned v k)) handler ≡ on_answer a (λ v. Returned v k)
return_uncaught (Some (Ok v)) k handler p = refl
return_uncaught (Some (Err (Thrown n))) k handler p = absurd p
return_uncaught (Some (Err Overflow)) k handler p = refl
return_uncaught None k handler p = refl

pub raised_throws : (a : Answer) (f : Fault) → raised a ≡ Some f → on_answer a thrown ≡ Threw f
raised_throws (Some (Ok (Int n))) f e = let p : Thrown n ≡ f = cc in ap Threw p
raised_throws (Some (Ok v)) f e = absurd (cc)
raised_throws (Some (Err g)) f e = let p : g ≡ f = cc in ap Threw p
raised_throws None f e = absurd (cc)

module _ (under : Variables) where
  pub needs_fault : (M : Act) (e : Term) (f : Fault) (h : Changes) → Needs M e → e ⇑ f → run under M [] h ≡ Threw f
  needs_fault M e f h of_return p = ap (λ a. on_answer a (λ v. Returned v h)) p.fault_is
  needs_fault M e f h of_read p = ap (λ a. on_answer a (read_at under h)) p.fault_is
  needs_fault M e f h (of_write {e = x}) p = ap (λ a. on_answer a (λ w. on_answer (value x []) (write_at h w))) p.fault_is
  needs_fault M e f h (of_written {r} {w} q) p =
      ap (λ a. on_answer a (λ w. on_answer (value e []) (write_at h w))) q.value_is ∙ ap (λ a. on_answer a (write_at h w)) p.fault_is
  needs_fault M e f h (of_make {t}) p = ap (λ a. on_answer a (λ v. Returned (Var (New (length h.news))) (made h t v))) p.fault_is
  needs_fault M e f h (of_if {M = a} {N = b}) p = ap (λ o. on_answer o (λ v. chosen v (run under a [] h) (run under b [] h))) p.fault_is
  needs_fault M e f h (of_let {M = b}) p = ap (λ o. on_answer o (λ v. run under b (v ∷ []) h)) p.fault_is

  pub admin_keeps : {M N : Act} → M ⟶ N → (h : Changes) → run under M [] h ≡ run under N [] h
  admin_keeps (BIND {v} {M = b} p) h =
      ap (λ a. then_run (on_answer a (λ v. Returned v h)) (λ v k. run under b (v ∷ []) k)) p.value_is ∙ sym (run_applied under b v [] h)
  admin_keeps (THROW {N = e} {M = b}) h = throw_passes (value e []) (λ v k. run under b (v ∷ []) k)
  admin_keeps RETRY h = refl
  admin_keeps (BIND' {M = b} p) h = ap (λ a. then_run (on_answer a (λ v. Returned v h)) (λ v k. run under b [] k)) p.value_is
  admin_keeps (THROW' {N = e} {M = b}) h = throw_passes (value e []) (λ v k. run under b [] k)
  admin_keeps RETRY' h = refl
  admin_keeps (IF_TRUE {M = a} {N = b} p) h = ap (λ o. on_answer o (λ v. chosen v (run under a [] h) (run under b [] h))) p.value_is
  admin_keeps (IF_FALSE {M = a} {N = b} p) h = ap (λ o. on_answer o (λ v. chosen v (run under a [] h) (run under b [] h))) p.value_is
  admin_keeps (LET {v} {M = b} p) h = ap (λ o. on_answer o (λ v. run under b (v ∷ []) h)) p.value_is ∙ sym (run_applied under b v [] h)
  admin_keeps (FAULT {M} {e} {f} n p) h = needs_fault M e f h n p ∙ sym (ap (λ a. on_answer a thrown) p.fault_is)

  pub in_context : (S : Context) (M N : Act) (h k : Changes) → run under M [] h ≡ run under N [] k → run under (S ⟨ M ⟩) [] h ≡ run under (S ⟨ N ⟩) [] k
  in_context □ M N h k p = p
  in_context (S >>= b) M N h k p = ap (λ o. then_run o (λ v l. run under b (v ∷ []) l)) (in_context S M N h k p)
  in_context (S >> b) M N h k p = ap (λ o. then_run o (λ v l. run under b [] l)) (in_context S M N h k p)
