-- Whatever names the transitions give to new cells, `run` does the same with the numbers of the cells.
use Rattle.std.proofs.Common.{◌≡◌, ℕ, suc, List, [], ◌∷◌, ◌++◌, length, Some, None, Ok, refl, ap, sym, ◌∙◌, subst}
use Rattle.std.specs.Prelude.{ℤ, map}
use Rattle.std.proofs.lemmas.List.{append_assoc, append-nil}
use Rattle.stm_terms.specs.declared.kinds.Ty.{Ty}
use Rattle.stm_terms.specs.declared.values.Ref.{Ref}
use Rattle.stm_terms.specs.declared.values.Ref.TheVariants.{New}
use Rattle.stm_terms.specs.declared.values.Value.{Value}
use Rattle.stm_terms.specs.declared.values.Value.TheVariants.{Int, Unit as Nil, Var}
use Rattle.stm_terms.specs.declared.values.Fault.{Fault}
use Rattle.stm_terms.specs.declared.values.Fault.TheVariants.{Thrown, Overflow}
use Rattle.stm_terms.specs.Ast.{Term, lit, Act, return, read, write, make, retry, throw, or_else, catch}
use Rattle.stm_terms.specs.Value.{Answer, value}
use Rattle.stm_terms.specs.Changes.{Variables, Changes, made}
use Rattle.stm_terms.specs.Semantics.{Returned, Threw, on_answer, catch_run, else_run, returned_value, returned_unit, read_at, write_at, run}
use Rattle.stm_paper_laws.specs.Evaluation.{applied_to, ◌⇓◌, raised, Raises}
use Rattle.stm_paper_laws.specs.Transitions.{Heap, Allocations, Configuration, updated, Context, ◌⟨◌⟩, ◌⟶◌, ◌⇒◌, READ, WRITE, NEW, AADMIN, OR1, OR2, OR3, XSTM1, XSTM2, XSTM2', XSTM3, ◌⇒*◌, none, more}
use Rattle.stm_paper_laws.specs.Laws.{heap_of, Naming, IsSame, same_int, same_truth, same_unit, same_var, NamesGrow}
use Rattle.stm_paper_laws.proofs.Substitution.{run_applied}
use Rattle.stm_paper_laws.proofs.Heaps.{made_types_of, written_there, made_heap, made_types, next_is_free}
use Rattle.stm_paper_laws.proofs.Names.{IsRenamed, same_some, tests_agree, write_renamed, with_name, self_named, name_grows, new_renamed}
use Rattle.stm_paper_laws.proofs.LikeRuns.{LikeTerm, like_lit, Like, like_return, like_read, like_write, like_make, like_retry, like_throw, like_or, like_catch, plugged, unplug, context_grows, like_applied, LikeAnswer, like_ok, like_err, like_none, value_like, value_back, admin_back}
use Rattle.stm_paper_laws.proofs.Outcomes.{return_stays, throw_stays, return_uncaught, never_throws, raised_throws, admin_keeps, in_context}

-- ---- what is like an action
pub return_back : {f : Naming} {a : Act} {e : Term} → Like f a (return e) → (d : Term) × (a ≡ return d) × LikeTerm f d e
return_back (like_return {d} p) = (d, refl, p)

pub throw_back : {f : Naming} {a : Act} {e : Term} → Like f a (throw e) → (d : Term) × (a ≡ throw d) × LikeTerm f d e
throw_back (like_throw {d} p) = (d, refl, p)

pub retry_back : {f : Naming} {a : Act} → Like f a retry → a ≡ retry
retry_back like_retry = refl

var_back : {f : Naming} {v : Value} {s : Ref} → IsSame f v (Var s) → (r : Ref) × (v ≡ Var r) × (f r ≡ Some s)
var_back (same_var {r} p) = (r, refl, p)

raised_like : {f : Naming} {a b : Answer} → LikeAnswer f a b → raised a ≡ raised b
raised_like (like_ok same_int) = refl
raised_like (like_ok same_truth) = refl
raised_like (like_ok same_unit) = refl
raised_like (like_ok (same_var p)) = refl
raised_like like_err = refl
raised_like like_none = refl

grows_self : (f : Naming) → NamesGrow f f
grows_self f r s p = p

joined_grows : {f g h : Naming} → NamesGrow f g → NamesGrow g h → NamesGrow f h
joined_grows m n r s p = n r s (m r s p)

length_map : {A B : Type 0} (f : A → B) (xs : List A) → length (map f xs) ≡ length xs
length_map f [] = refl
length_map f (x ∷ xs) = ap suc (length_map f xs)

module _ (under : Variables) where
  -- the heap of a state is that of a view but for names
  abbrev pub Fits : Naming → Changes → Configuration → Type 0
  Fits f h x = IsRenamed f (heap_of under h) (made_types_of h) x.1 x.2

  -- from this view the action and another one end alike, the other one in a view that fits the state
  abbrev pub Goes : Naming → Changes → Act → Configuration → Type 0
  Goes f h a y = (g : Naming) × (k : Changes) × (b : Act) × NamesGrow f g × Like g b y.0 × Fits g k y × (run under a [] h ≡ run under b [] k)

  goes_in : (f : Naming) (h : Changes) {a M N : Act} {Θ : Heap} {Δ : Allocations} (T : Context) → Like f a (T ⟨ M ⟩)
      → ((b : Act) → Like f b M → Goes f h b (N, Θ, Δ)) → Goes f h a (T ⟨ N ⟩, Θ, Δ)
  goes_in f h T p go =
      let u = unplug T p in
      let g = go u.1 u.4 in
      (g.0, g.1, u.0 ⟨ g.2 ⟩, g.3, plugged (context_grows g.3 u.3) g.4, g.5, ap (λ c. run under c [] h) u.2 ∙ in_context under u.0 u.1 g.2 h g.1 g.6)

  reads : (f : Naming) (h : Changes) {b : Act} {e : Term} {s : Ref} {w : Value} {Θ : Heap} {Δ : Allocations} → IsRenamed f (heap_of under h) (made_types_of h) Θ Δ
      → e ⇓ Var s → Θ s ≡ Some w → Like f b (read e) → Goes f h b (return (lit w), Θ, Δ)
  reads f h {s} {w} n p q (like_read {d} l) =
      let v = value_back (tests_agree n) l p in
      let r = var_back v.2 in
      let held = n.holds r.0 s r.2 in
      let same : held.1 ≡ w = same_some _ _ (sym held.3 ∙ q) in (
        f,
        h,
        return (lit held.0),
        grows_self f,
        like_return (like_lit (subst (IsSame f held.0) same held.4)),
        n,
        ap (λ a. on_answer a (read_at under h)) (v.1.value_is ∙ ap (λ x. Some (Ok x)) r.1) ∙ ap (λ o. returned_value o h) held.2,
      )

  writes : (f : Naming) (h : Changes) {b : Act} {e M : Term} {s : Ref} {w x : Value} {Θ : Heap} {Δ : Allocations} → IsRenamed f (heap_of under h) (made_types_of h) Θ Δ
      → e ⇓ Var s → M ⇓ w → Θ s ≡ Some x → Like f b (write e M) → Goes f h b (return (lit Nil), updated Θ s w, Δ)
  writes f h {s} {w} {Θ} {Δ} n p m q (like_write {q = d} {d = c} l t) =
      let v = value_back (tests_agree n) l p in
      let y = value_back (tests_agree n) t m in
      let r = var_back v.2 in
      let held = n.holds r.0 s r.2 in
      let k = written_there under h r.0 y.0 held.0 held.2 in
      let renamed : IsRenamed f (heap_of under k.0) (made_types_of k.0) (updated Θ s w) Δ =
      subst (λ z. IsRenamed f z (made_types_of k.0) (updated Θ s w) Δ) k.2
      (subst (λ z. IsRenamed f (updated (heap_of under h) r.0 y.0) z (updated Θ s w) Δ) k.4 (write_renamed n r.0 s y.0 w r.2 y.2)) in (
        f,
        k.0,
        return (lit Nil),
        grows_self f,
        like_return (like_lit same_unit),
        renamed,
        ap (λ a. on_answer a (λ z. on_answer (value c []) (write_at h z))) (v.1.value_is ∙ ap (λ z. Some (Ok z)) r.1)
            ∙ ap (λ a. on_answer a (write_at h (Var r.0))) y.1.value_is
            ∙ ap returned_unit k.1,
      )

  makes : (f : Naming) (h : Changes) {b : Act} {M : Term} {w : Value} {Θ : Heap} {Δ : Allocations} (t : Ty) (s : Ref) → IsRenamed f (heap_of under h) (made_types_of h) Θ Δ
      → M ⇓ w → Θ s ≡ None → Like f b (make t M) → Goes f h b (return (lit (Var s)), updated Θ s w, Δ ++ (s, t) ∷ [])
  makes f h {w} {Θ} {Δ} t s n p fresh (like_make {d} l) =
      let v = value_back (tests_agree n) l p in
      let k : ℕ = length h.news in
      let k_is : k ≡ length Δ = sym (length_map (λ c. c.0) h.news) ∙ ap length (sym n.types_are) ∙ length_map (λ c. c.1) Δ in
      let free = next_is_free under h in
      let g : Naming = with_name f (New k) s in
      let renamed : IsRenamed g (heap_of under (made h t v.0)) (made_types_of (made h t v.0)) (updated Θ s w) (Δ ++ (s, t) ∷ []) =
      subst (λ z. IsRenamed g z (made_types_of (made h t v.0)) (updated Θ s w) (Δ ++ (s, t) ∷ [])) (made_heap under h t v.0)
      (subst (λ z. IsRenamed g (updated (heap_of under h) (New k) v.0) z (updated Θ s w) (Δ ++ (s, t) ∷ [])) (made_types h t v.0)
      (new_renamed n k k_is free s fresh t v.0 w v.2)) in (
        g,
        made h t v.0,
        return (lit (Var (New k))),
        name_grows n k k_is free s fresh,
        like_return (like_lit (same_var (self_named f (New k) s))),
        renamed,
        ap (λ a. on_answer a (λ z. Returned (Var (New k)) (made h t z))) v.1.value_is,
      )

  administers : (f : Naming) (h : Changes) {b M N : Act} {Θ : Heap} {Δ : Allocations} → IsRenamed f (heap_of under h) (made_types_of h) Θ Δ → M ⟶ N → Like f b M → Goes f h b (N, Θ, Δ)
  administers f h n s l =
      let c = admin_back (tests_agree n) l s in
      (f, h, c.0, grows_self f, c.2, n, admin_keeps under c.1 h)

  or_returns : (f : Naming) (h : Changes) {b M K : Act} {N : Term} {Θ : Heap} {Δ : Allocations} → Like f b (or_else M K) → ((c : Act) → Like f c M → Goes f h c (return N, Θ, Δ)) → Goes f h b (return N, Θ, Δ)
  or_returns f h (like_or {a = c} {b = d} p q) go =
      let g = go c p in
      let r = return_back g.4 in (
        g.0,
        g.1,
        return r.0,
        g.3,
        like_return r.2,
        g.5,
        ap (λ o. else_run o (run under d [] h)) (g.6 ∙ ap (λ x. run under x [] g.1) r.1) ∙ return_stays (value r.0 []) g.1 (run under d [] h),
      )

  or_throws : (f : Naming) (h : Changes) {b M K : Act} {N : Term} {Θ : Heap} {Δ : Allocations} → Like f b (or_else M K) → ((c : Act) → Like f c M → Goes f h c (throw N, Θ, Δ)) → Goes f h b (throw N, Θ, Δ)
  or_throws f h (like_or {a = c} {b = d} p q) go =
      let g = go c p in
      let r = throw_back g.4 in (
        g.0,
        g.1,
        throw r.0,
        g.3,
        like_throw r.2,
        g.5,
        ap (λ o. else_run o (run under d [] h)) (g.6 ∙ ap (λ x. run under x [] g.1) r.1) ∙ throw_stays (value r.0 []) (run under d [] h),
      )

  or_retries : (f : Naming) (h : Changes) {b M K : Act} {Θ Θ' : Heap} {Δ Δ' : Allocations} → IsRenamed f (heap_of under h) (made_types_of h) Θ Δ → Like f b (or_else M K)
      → ((c : Act) → Like f c M → Goes f h c (retry, Θ', Δ')) → Goes f h b (K, Θ, Δ)
  or_retries f h n (like_or {a = c} {b = d} p q) go =
      let g = go c p in
      (f, h, d, grows_self f, q, n, ap (λ o. else_run o (run under d [] h)) (g.6 ∙ ap (λ x. run under x [] g.1) (retry_back g.4)))

  catch_returns : (f : Naming) (h : Changes) {b M K : Act} {N : Term} {Θ : Heap} {Δ : Allocations} → Like f b (catch M K) → ((c : Act) → Like f c M → Goes f h c (return N, Θ, Δ)) → Goes f h b (return N, Θ, Δ)
  catch_returns f h (like_catch {a = c} {b = d} p q) go =
      let g = go c p in
      let r = return_back g.4 in (
        g.0,
        g.1,
        return r.0,
        g.3,
        like_return r.2,
        g.5,
        ap (λ o. catch_run o (λ n. run under d (n ∷ []) h)) (g.6 ∙ ap (λ x. run under x [] g.1) r.1)
            ∙ return_uncaught (value r.0 []) g.1 (λ n. run under d (n ∷ []) h) (never_throws r.0 []),
      )

  pub threw : (g : Naming) (k : Changes) {c : Act} {P : Term} {x : Fault} {Θ : Heap} {Δ : Allocations} → IsRenamed g (heap_of under k) (made_types_of k) Θ Δ → (d : Term) → c ≡ throw d → LikeTerm g d P → Raises P x
      → run under c [] k ≡ Threw x
  threw g k {x} n d e l r =
      ap (λ z. run under z [] k) e ∙ raised_throws (value d []) x (raised_like (value_like (tests_agree n) l) ∙ r)

  catch_handles : (f : Naming) (h : Changes) {b M K : Act} {P : Term} {x : ℤ} {Θ Θ' : Heap} {Δ Δ' : Allocations} → IsRenamed f (heap_of under h) (made_types_of h) Θ Δ → Raises P (Thrown x) → Like f b (catch M K)
      → ((c : Act) → Like f c M → Goes f h c (throw P, Θ', Δ')) → Goes f h b (applied_to K (Int x), Θ, Δ)
  catch_handles f h {x} n e (like_catch {a = c} {b = d} p q) go =
      let g = go c p in
      let r = throw_back g.4 in (
        f,
        h,
        applied_to d (Int x),
        grows_self f,
        like_applied q same_int,
        n,
        ap (λ o. catch_run o (λ n. run under d (n ∷ []) h)) (g.6 ∙ threw g.0 g.1 g.5 r.0 r.1 r.2 e) ∙ sym (run_applied under d (Int x) [] h),
      )

  catch_throws : (f : Naming) (h : Changes) {b M K : Act} {P : Term} {Θ : Heap} {Δ : Allocations} → Raises P Overflow → Like f b (catch M K)
      → ((c : Act) → Like f c M → Goes f h c (throw P, Θ, Δ)) → Goes f h b (throw P, Θ, Δ)
  catch_throws f h e (like_catch {a = c} {b = d} p q) go =
      let g = go c p in
      let r = throw_back g.4 in (
        g.0,
        g.1,
        throw r.0,
        g.3,
        like_throw r.2,
        g.5,
        ap (λ o. catch_run o (λ n. run under d (n ∷ []) h)) (g.6 ∙ threw g.0 g.1 g.5 r.0 r.1 r.2 e) ∙ sym (threw g.0 g.1 g.5 r.0 refl r.2 e),
      )

  catch_retries : (f : Naming) (h : Changes) {b M K : Act} {Θ Θ' : Heap} {Δ Δ' : Allocations} → IsRenamed f (heap_of under h) (made_types_of h) Θ Δ → Like f b (catch M K)
      → ((c : Act) → Like f c M → Goes f h c (retry, Θ', Δ')) → Goes f h b (retry, Θ, Δ)
  catch_retries f h n (like_catch {a = c} {b = d} p q) go =
      let g = go c p in
      (f, h, retry, grows_self f, like_retry, n, ap (λ o. catch_run o (λ n. run under d (n ∷ []) h)) (g.6 ∙ ap (λ x. run under x [] g.1) (retry_back g.4)))

  -- the transitions of a part that begins without allocations, which come after these
  only_these : (f : Naming) (h : Changes) {Θ : Heap} (P : Allocations) → IsRenamed f (heap_of under h) (made_types_of h) Θ P → IsRenamed f (heap_of under h) (made_types_of h) Θ (P ++ [])
  only_these f h {Θ} P n = subst (IsRenamed f (heap_of under h) (made_types_of h) Θ) (sym (append-nil P)) n

  these_before : (f : Naming) (h : Changes) (a : Act) {N : Act} {Θ : Heap} (P Δ Δ' : Allocations) → Goes f h a (N, Θ, P ++ Δ ++ Δ') → Goes f h a (N, Θ, P ++ (Δ ++ Δ'))
  these_before f h a {N} {Θ} P Δ Δ' g = subst (λ z. Goes f h a (N, Θ, z)) (append_assoc P Δ Δ') g

  -- transitions, with the allocations P before theirs
  mutual
    pub step_goes : {x y : Configuration} → x ⇒ y → (P : Allocations) (f : Naming) (h : Changes) (a : Act) → Like f a x.0 → IsRenamed f (heap_of under h) (made_types_of h) x.1 (P ++ x.2)
        → Goes f h a (y.0, y.1, P ++ y.2)
    step_goes (READ S p q) P f h a l n = goes_in f h S l (λ b m. reads f h n p q m)
    step_goes (WRITE S p m q) P f h a l n = goes_in f h S l (λ b t. writes f h n p m q t)
    step_goes (NEW {Δ} S t s p q) P f h a l n = these_before f h a P Δ ((s, t) ∷ []) (goes_in f h S l (λ b m. makes f h t s n p q m))
    step_goes (AADMIN S s) P f h a l n = goes_in f h S l (λ b m. administers f h n s m)
    step_goes (OR1 S K s) P f h a l n = goes_in f h S l (λ b m. or_returns f h m (λ c p. steps_go s P f h c p n))
    step_goes (OR2 S K s) P f h a l n = goes_in f h S l (λ b m. or_throws f h m (λ c p. steps_go s P f h c p n))
    step_goes (OR3 S K s) P f h a l n = goes_in f h S l (λ b m. or_retries f h n m (λ c p. steps_go s P f h c p n))
    step_goes (XSTM1 {Δ} {Δ'} S K s) P f h a l n =
        these_before f h a P Δ Δ' (goes_in f h S l (λ b m. catch_returns f h m (λ c p. steps_go s (P ++ Δ) f h c p (only_these f h (P ++ Δ) n))))
    step_goes (XSTM2 {Δ} S K s r) P f h a l n = goes_in f h S l (λ b m. catch_handles f h n r m (λ c p. steps_go s (P ++ Δ) f h c p (only_these f h (P ++ Δ) n)))
    step_goes (XSTM2' {Δ} {Δ'} S K s r) P f h a l n =
        these_before f h a P Δ Δ' (goes_in f h S l (λ b m. catch_throws f h r m (λ c p. steps_go s (P ++ Δ) f h c p (only_these f h (P ++ Δ) n))))
    step_goes (XSTM3 {Δ} S K s) P f h a l n = goes_in f h S l (λ b m. catch_retries f h n m (λ c p. steps_go s (P ++ Δ) f h c p (only_these f h (P ++ Δ) n)))

    pub steps_go : {x y : Configuration} → x ⇒* y → (P : Allocations) (f : Naming) (h : Changes) (a : Act) → Like f a x.0 → IsRenamed f (heap_of under h) (made_types_of h) x.1 (P ++ x.2)
        → Goes f h a (y.0, y.1, P ++ y.2)
    steps_go none P f h a l n = (f, h, a, grows_self f, l, n, refl)
    steps_go (more s t) P f h a l n =
        let g = step_goes s P f h a l n in
        let k = steps_go t P g.0 g.1 g.2 g.4 g.5 in
        (k.0, k.1, k.2, joined_grows g.3 k.3, k.4, k.5, g.6 ∙ k.6)
