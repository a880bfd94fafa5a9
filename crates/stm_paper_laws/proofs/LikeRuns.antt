-- Whatever names a transition gives to new cells, `run` does the same with the numbers of the cells.
use Rattle.std.proofs.Common.{◌≡◌, ℕ, zero, suc, Bool, true, false, [], Some, None, Ok, Err, refl, ap, subst}
use Rattle.std.specs.Prelude.{ℤ, ◌+ℤ◌, ◌-ℤ◌, ◌*ℤ◌, if◌then◌else◌}
use Rattle.stm_terms.specs.declared.kinds.Ty.{Ty}
use Rattle.stm_terms.specs.declared.values.Ref.{Ref}
use Rattle.stm_terms.specs.declared.values.Ref.TheVariants.{Old}
use Rattle.stm_terms.specs.declared.values.Value.{Value}
use Rattle.stm_terms.specs.declared.values.Value.TheVariants.{Int, Bool as Truth}
use Rattle.stm_terms.specs.declared.values.Fault.{Fault}
use Rattle.stm_terms.specs.declared.values.Fault.TheVariants.{Overflow}
use Rattle.stm_terms.specs.declared.expr.Op.{Op}
use Rattle.stm_terms.specs.declared.expr.Op.TheVariants.{Mul, Add, Sub, Eq, Lt, Le, And, Or}
use Rattle.stm_terms.specs.Ast.{Term, lit, local, global, bin, Act, return, read, write, make, retry, throw, if_else, or_else, bind, let_in, seq, catch}
use Rattle.stm_terms.specs.Value.{Answer, fits_i64, same_ref, same_value, decides, apply_op, with_value, value}
use Rattle.stm_paper_laws.specs.Evaluation.{applied_term, applied_to, ◌⇓◌, ◌⇑◌, Needs, of_return, of_read, of_write, of_written, of_make, of_if, of_let}
use Rattle.stm_paper_laws.specs.Transitions.{Context, □, ◌>>=◌, ◌>>◌, ◌⟨◌⟩, ◌⟶◌, BIND, THROW, RETRY, BIND', THROW', RETRY', IF_TRUE, IF_FALSE, LET, FAULT}
use Rattle.stm_paper_laws.specs.Laws.{Naming, IsSame, same_int, same_truth, same_unit, same_var, NamesGrow}
use Rattle.stm_paper_laws.proofs.Names.{same_grows}

-- ---- terms and actions that are the same but for names
pub data LikeTerm (f : Naming) : Term → Term → Type 0 where
  like_lit : {v w : Value} → IsSame f v w → LikeTerm f (lit v) (lit w)
  like_local : {i : ℕ} → LikeTerm f (local i) (local i)
  like_global : {i : ℕ} → f (Old i) ≡ Some (Old i) → LikeTerm f (global i) (global i)
  like_bin : {op : Op} {a b c d : Term} → LikeTerm f a b → LikeTerm f c d → LikeTerm f (bin op a c) (bin op b d)

pub data Like (f : Naming) : Act → Act → Type 0 where
  like_return : {d e : Term} → LikeTerm f d e → Like f (return d) (return e)
  like_read : {d e : Term} → LikeTerm f d e → Like f (read d) (read e)
  like_write : {q r d e : Term} → LikeTerm f q r → LikeTerm f d e → Like f (write q d) (write r e)
  like_make : {t : Ty} {d e : Term} → LikeTerm f d e → Like f (make t d) (make t e)
  like_retry : Like f retry retry
  like_throw : {d e : Term} → LikeTerm f d e → Like f (throw d) (throw e)
  like_if : {d e : Term} {a b M N : Act} → LikeTerm f d e → Like f a M → Like f b N → Like f (if_else d a b) (if_else e M N)
  like_or : {a b M N : Act} → Like f a M → Like f b N → Like f (or_else a b) (or_else M N)
  like_bind : {a b M N : Act} → Like f a M → Like f b N → Like f (bind a b) (bind M N)
  like_let : {d e : Term} {b N : Act} → LikeTerm f d e → Like f b N → Like f (let_in d b) (let_in e N)
  like_seq : {a b M N : Act} → Like f a M → Like f b N → Like f (seq a b) (seq M N)
  like_catch : {a b M N : Act} → Like f a M → Like f b N → Like f (catch a b) (catch M N)

pub data LikeContext (f : Naming) : Context → Context → Type 0 where
  like_hole : LikeContext f □ □
  like_binding : {S T : Context} {b N : Act} → LikeContext f S T → Like f b N → LikeContext f (S >>= b) (T >>= N)
  like_before : {S T : Context} {b N : Act} → LikeContext f S T → Like f b N → LikeContext f (S >> b) (T >> N)

pub plugged : {f : Naming} {S T : Context} {a M : Act} → LikeContext f S T → Like f a M → Like f (S ⟨ a ⟩) (T ⟨ M ⟩)
plugged like_hole p = p
plugged (like_binding s b) p = like_bind (plugged s p) b
plugged (like_before s b) p = like_seq (plugged s p) b

-- what is like an action in a context is one in a context
abbrev pub Unplugged : Naming → Act → Context → Act → Type 0
Unplugged f a T M = (S : Context) × (b : Act) × (a ≡ S ⟨ b ⟩) × LikeContext f S T × Like f b M

pub unplug : {f : Naming} {a M : Act} (T : Context) → Like f a (T ⟨ M ⟩) → Unplugged f a T M
unplug {a} □ p = (□, a, refl, like_hole, p)
unplug (T >>= N) (like_bind {b} p q) =
    let u = unplug T p in
    (u.0 >>= b, u.1, ap (λ c. bind c b) u.2, like_binding u.3 q, u.4)
unplug (T >> N) (like_seq {b} p q) =
    let u = unplug T p in
    (u.0 >> b, u.1, ap (λ c. seq c b) u.2, like_before u.3 q, u.4)

pub term_grows : {f g : Naming} → NamesGrow f g → {d e : Term} → LikeTerm f d e → LikeTerm g d e
term_grows m (like_lit s) = like_lit (same_grows m s)
term_grows m like_local = like_local
term_grows m (like_global {i} p) = like_global (m (Old i) (Old i) p)
term_grows m (like_bin p q) = like_bin (term_grows m p) (term_grows m q)

pub like_grows : {f g : Naming} → NamesGrow f g → {a M : Act} → Like f a M → Like g a M
like_grows m (like_return p) = like_return (term_grows m p)
like_grows m (like_read p) = like_read (term_grows m p)
like_grows m (like_write p q) = like_write (term_grows m p) (term_grows m q)
like_grows m (like_make p) = like_make (term_grows m p)
like_grows m like_retry = like_retry
like_grows m (like_throw p) = like_throw (term_grows m p)
like_grows m (like_if p q r) = like_if (term_grows m p) (like_grows m q) (like_grows m r)
like_grows m (like_or q r) = like_or (like_grows m q) (like_grows m r)
like_grows m (like_bind q r) = like_bind (like_grows m q) (like_grows m r)
like_grows m (like_let p r) = like_let (term_grows m p) (like_grows m r)
like_grows m (like_seq q r) = like_seq (like_grows m q) (like_grows m r)
like_grows m (like_catch q r) = like_catch (like_grows m q) (like_grows m r)

pub context_grows : {f g : Naming} → NamesGrow f g → {S T : Context} → LikeContext f S T → LikeContext g S T
context_grows m like_hole = like_hole
context_grows m (like_binding s b) = like_binding (context_grows m s) (like_grows m b)
context_grows m (like_before s b) = like_before (context_grows m s) (like_grows m b)

pub term_applied : {f : Naming} {d e : Term} {v w : Value} → LikeTerm f d e → IsSame f v w → LikeTerm f (applied_term d v) (applied_term e w)
term_applied (like_lit p) s = like_lit p
term_applied (like_local {i = zero}) s = like_lit s
term_applied (like_local {i = suc i}) s = like_local
term_applied (like_global p) s = like_global p
term_applied (like_bin p q) s = like_bin (term_applied p s) (term_applied q s)

pub like_applied : {f : Naming} {a M : Act} {v w : Value} → Like f a M → IsSame f v w → Like f (applied_to a v) (applied_to M w)
like_applied (like_return p) s = like_return (term_applied p s)
like_applied (like_read p) s = like_read (term_applied p s)
like_applied (like_write p q) s = like_write (term_applied p s) (term_applied q s)
like_applied (like_make p) s = like_make (term_applied p s)
like_applied like_retry s = like_retry
like_applied (like_throw p) s = like_throw (term_applied p s)
like_applied (like_if p q r) s = like_if (term_applied p s) (like_applied q s) (like_applied r s)
like_applied (like_or q r) s = like_or (like_applied q s) (like_applied r s)
like_applied (like_bind q r) s = like_bind (like_applied q s) (like_applied r s)
like_applied (like_let p r) s = like_let (term_applied p s) (like_applied r s)
like_applied (like_seq q r) s = like_seq (like_applied q s) (like_applied r s)
like_applied (like_catch q r) s = like_catch (like_applied q s) (like_applied r s)

-- ---- values of expressions
pub data LikeAnswer (f : Naming) : Answer → Answer → Type 0 where
  like_ok : {v w : Value} → IsSame f v w → LikeAnswer f (Some (Ok v)) (Some (Ok w))
  like_err : {e : Fault} → LikeAnswer f (Some (Err e)) (Some (Err e))
  like_none : LikeAnswer f None None

module _ {f : Naming} (agree : (q r s t : Ref) → f q ≡ Some s → f r ≡ Some t → same_ref q r ≡ same_ref s t) where
  result_like : (b : Bool) (z : ℤ) → LikeAnswer f (Some (if b then Ok (Int z) else Err Overflow)) (Some (if b then Ok (Int z) else Err Overflow))
  result_like true z = like_ok same_int
  result_like false z = like_err

  equal_like : {v v' w w' : Value} → IsSame f v v' → IsSame f w w' → same_value v w ≡ same_value v' w'
  equal_like (same_var {r = q} {s} p) (same_var {r} {s = t} e) = agree q r s t p e
  equal_like (same_var p) same_int = refl
  equal_like (same_var p) same_truth = refl
  equal_like (same_var p) same_unit = refl
  equal_like same_int same_int = refl
  equal_like same_int same_truth = refl
  equal_like same_int same_unit = refl
  equal_like same_int (same_var q) = refl
  equal_like same_unit same_int = refl
  equal_like same_unit same_truth = refl
  equal_like same_unit same_unit = refl
  equal_like same_unit (same_var q) = refl
  equal_like (same_truth {b = true}) same_int = refl
  equal_like (same_truth {b = true}) same_truth = refl
  equal_like (same_truth {b = true}) same_unit = refl
  equal_like (same_truth {b = true}) (same_var q) = refl
  equal_like (same_truth {b = false}) same_int = refl
  equal_like (same_truth {b = false}) same_truth = refl
  equal_like (same_truth {b = false}) same_unit = refl
  equal_like (same_truth {b = false}) (same_var q) = refl

  op_like : (op : Op) {v v' w w' : Value} → IsSame f v v' → IsSame f w w' → LikeAnswer f (apply_op op v w) (apply_op op v' w')
  op_like Eq {v} {v'} {w} {w'} p q = subst (λ b. LikeAnswer f (Some (Ok (Truth (same_value v w)))) (Some (Ok (Truth b)))) (equal_like p q) (like_ok same_truth)
  op_like Mul (same_int {n = x}) (same_int {n = y}) = result_like (fits_i64 (x *ℤ y)) (x *ℤ y)
  op_like Add (same_int {n = x}) (same_int {n = y}) = result_like (fits_i64 (x +ℤ y)) (x +ℤ y)
  op_like Sub (same_int {n = x}) (same_int {n = y}) = result_like (fits_i64 (x -ℤ y)) (x -ℤ y)
  op_like Lt same_int same_int = like_ok same_truth
  op_like Le same_int same_int = like_ok same_truth
  op_like And same_truth same_truth = like_ok same_truth
  op_like Or same_truth same_truth = like_ok same_truth
  op_like op p q = like_none

  decides_like : (op : Op) {v w : Value} → IsSame f v w → decides op v ≡ decides op w
  decides_like And same_truth = refl
  decides_like Or same_truth = refl
  decides_like op p = refl

  with_like : {a b : Answer} {go on : Value → Answer} → LikeAnswer f a b → ((v w : Value) → IsSame f v w → LikeAnswer f (go v) (on w)) → LikeAnswer f (with_value a go) (with_value b on)
  with_like (like_ok p) h = h _ _ p
  with_like like_err h = like_err
  with_like like_none h = like_none

  if_like : (b c : Bool) {o o' p p' : Answer} → b ≡ c → LikeAnswer f o o' → LikeAnswer f p p' → LikeAnswer f (if b then o else p) (if c then o' else p')
  if_like true true e p q = p
  if_like false false e p q = q
  if_like true false e p q = absurd (cc)
  if_like false true e p q = absurd (cc)

  pub value_like : {d e : Term} → LikeTerm f d e → LikeAnswer f (value d []) (value e [])
  value_like (like_lit p) = like_ok p
  value_like (like_local {i}) = like_none
  value_like (like_global p) = like_ok (same_var p)
  value_like (like_bin {op} p q) =
      with_like (value_like p) (λ x y s. if_like (decides op x) (decides op y) (decides_like op s) (like_ok s) (with_like (value_like q) (λ v w t. op_like op s t)))

  -- the value of what is like an expression
  ok_back : (a b : Answer) (w : Value) → LikeAnswer f a b → b ≡ Some (Ok w) → (v : Value) × (a ≡ Some (Ok v)) × IsSame f v w
  ok_back a b w (like_ok {v} {w = x} s) e = let p : x ≡ w = cc in (v, refl, subst (IsSame f v) p s)
  ok_back a b w like_err e = absurd (cc)
  ok_back a b w like_none e = absurd (cc)

  err_back : (a b : Answer) (g : Fault) → LikeAnswer f a b → b ≡ Some (Err g) → a ≡ Some (Err g)
  err_back a b g (like_ok s) e = absurd (cc)
  err_back a b g like_err e = e
  err_back a b g like_none e = absurd (cc)

  pub value_back : {d e : Term} {w : Value} → LikeTerm f d e → e ⇓ w → (v : Value) × (d ⇓ v) × IsSame f v w
  value_back {d} {e} {w} p q = let b = ok_back (value d []) (value e []) w (value_like p) q.value_is in (b.0, record { value_is = b.1 }, b.2)

  pub fault_back : {d e : Term} {g : Fault} → LikeTerm f d e → e ⇑ g → d ⇑ g
  fault_back {d} {e} {g} p q = record { fault_is = err_back (value d []) (value e []) g (value_like p) q.fault_is }

  -- ---- administrative transitions of what is like an action
  needs_back : {a M : Act} {e : Term} → Like f a M → Needs M e → (d : Term) × Needs a d × LikeTerm f d e
  needs_back (like_return {d} p) of_return = (d, of_return, p)
  needs_back (like_read {d} p) of_read = (d, of_read, p)
  needs_back (like_write {q} p r) of_write = (q, of_write, p)
  needs_back (like_write {d} p r) (of_written s) = let v = value_back p s in (d, of_written v.1, r)
  needs_back (like_make {d} p) of_make = (d, of_make, p)
  needs_back (like_if {d} p q r) of_if = (d, of_if, p)
  needs_back (like_let {d} p q) of_let = (d, of_let, p)
  needs_back like_retry n = elim n [ ]
  needs_back (like_throw p) n = elim n [ ]
  needs_back (like_or p q) n = elim n [ ]
  needs_back (like_bind p q) n = elim n [ ]
  needs_back (like_seq p q) n = elim n [ ]
  needs_back (like_catch p q) n = elim n [ ]

  true_back : {d e : Term} {b : Bool} → LikeTerm f d e → e ⇓ Truth b → d ⇓ Truth b
  true_back {d} {b} p q = is_truth (value_back p q)
    where
      is_truth : (v : Value) × (d ⇓ v) × IsSame f v (Truth b) → d ⇓ Truth b
      is_truth (v, e, same_truth) = e

  pub admin_back : {a M N : Act} → Like f a M → M ⟶ N → (b : Act) × (a ⟶ b) × Like f b N
  admin_back (like_bind (like_return p) q) (BIND s) = let v = value_back p s in (_, BIND v.1, like_applied q v.2)
  admin_back (like_bind (like_throw p) q) THROW = (_, THROW, like_throw p)
  admin_back (like_bind like_retry q) RETRY = (_, RETRY, like_retry)
  admin_back (like_seq (like_return p) q) (BIND' s) = let v = value_back p s in (_, BIND' v.1, q)
  admin_back (like_seq (like_throw p) q) THROW' = (_, THROW', like_throw p)
  admin_back (like_seq like_retry q) RETRY' = (_, RETRY', like_retry)
  admin_back (like_if p q r) (IF_TRUE s) = (_, IF_TRUE (true_back p s), q)
  admin_back (like_if p q r) (IF_FALSE s) = (_, IF_FALSE (true_back p s), r)
  admin_back (like_let p q) (LET s) = let v = value_back p s in (_, LET v.1, like_applied q v.2)
  admin_back p (FAULT n s) = let d = needs_back p n in (_, FAULT d.1 (fault_back d.2 s), like_throw d.2)
