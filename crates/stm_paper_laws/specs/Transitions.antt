-- What a block does, step by step, by the rules of Harris, Marlow, Peyton Jones, Herlihy, "Composable Memory Transactions" (PPoPP 2005,
-- Figures 2 to 4), and, for `catch`, by XSTM1 to XSTM3 of the appendix on exceptions in its later version. The rules have their names,
-- their order and their layout there: what a rule asks for is above its line, and the transition below it. Only ARET and ATHROW, which
-- stand first there, stand last, since they need the others.
--
-- A term is an action with values in place of all its locals. For `readTVar`, `writeTVar` and `newTVar` there is `read`, `write` and
-- `make`, and for `M v` there is `applied_to M v`. A comment says in what a rule differs; docs/LANGUAGE.md has the reasons.
use Rattle.std.specs.Prelude.{◌≡◌, ℤ, true, false, List, [], ◌∷◌, ◌++◌, Option, Some, None, if◌then◌else◌}
use Rattle.stm_terms.specs.declared.kinds.Ty.{Ty}
use Rattle.stm_terms.specs.declared.values.Ref.{Ref}
use Rattle.stm_terms.specs.declared.values.Value.{Value}
use Rattle.stm_terms.specs.declared.values.Value.TheVariants.{Int, Bool as Truth, Unit as Nil, Var}
use Rattle.stm_terms.specs.declared.values.Fault.{Fault}
use Rattle.stm_terms.specs.declared.values.Fault.TheVariants.{Thrown, Overflow}
use Rattle.stm_terms.specs.Ast.{Term, lit, Act, return, read, write, make, retry, throw, if_else, or_else, bind, let_in, seq, catch}
use Rattle.stm_terms.specs.Value.{same_ref}
use Rattle.stm_paper_laws.specs.Evaluation.{◌⇓◌, ◌⇑◌, Raises, Needs, applied_to}

infixl 60 ◌⟨◌⟩
infixl 70 ◌>>=◌
infixl 70 ◌>>◌
infix 30 ◌⟶◌
infix 30 ◌⇒◌
infix 30 ◌⇒*◌
infix 30 ◌⇝◌
-- Θ, the heap: what each name in use holds
abbrev pub Heap : Type 0
Heap = Ref → Option Value

-- Θ[r ↦ v]
abbrev pub updated : Heap → Ref → Value → Heap
updated Θ r v s = if same_ref r s then Some v else Θ s

-- Δ, the allocations: the names of the cells that were made, in order, with their types; in the paper with what they first held
abbrev pub Allocations : Type 0
Allocations = List (Ref × Ty)

-- M; Θ, Δ
abbrev pub Configuration : Type 0
Configuration = Act × Heap × Allocations

-- S ::= [] | S >>= M, and S >> M, which the paper has as S >>= \_ -> M
pub data Context : Type 0 where
  □ : Context
  ◌>>=◌ : Context → Act → Context
  ◌>>◌ : Context → Act → Context

-- S[M]
abbrev pub ◌⟨◌⟩ : Context → Act → Act
□ ⟨ M ⟩ = M
(S >>= N) ⟨ M ⟩ = bind (S ⟨ M ⟩) N
(S >> N) ⟨ M ⟩ = seq (S ⟨ M ⟩) N

-- ---- administrative transitions
pub data ◌⟶◌ : Act → Act → Type 0 where
  -- In place of EVAL: values of expressions are those of `value` (◌⇓◌), without steps, so only these are left. The language is
  -- strict: an action evaluates its expressions when it comes to them, and an overflow in the next one (`Needs`) is thrown
  IF_TRUE : {e : Term} {M N : Act}
      → e ⇓ Truth true
      -- ------------------------------------
      → if_else e M N ⟶ M
  IF_FALSE : {e : Term} {M N : Act}
      → e ⇓ Truth false
      -- ------------------------------------
      → if_else e M N ⟶ N
  LET : {e : Term} {v : Value} {M : Act}
      → e ⇓ v
      -- ------------------------------------
      → let_in e M ⟶ applied_to M v
  FAULT : {M : Act} {e : Term} {f : Fault}
      → Needs M e → e ⇑ f
      -- ------------------------------------
      → M ⟶ throw e
  -- strict: M gets the value of N, there N itself
  BIND : {N : Term} {v : Value} {M : Act}
      → N ⇓ v
      -- ------------------------------------
      → bind (return N) M ⟶ applied_to M v
  THROW : {N : Term} {M : Act}
      -- ------------------------------------
      → bind (throw N) M ⟶ throw N
  RETRY : {M : Act}
      -- ------------------------------------
      → bind retry M ⟶ retry
  -- the same three for >>, where M takes no value
  BIND' : {N : Term} {v : Value} {M : Act}
      → N ⇓ v
      -- ------------------------------------
      → seq (return N) M ⟶ M
  THROW' : {N : Term} {M : Act}
      -- ------------------------------------
      → seq (throw N) M ⟶ throw N
  RETRY' : {M : Act}
      -- ------------------------------------
      → seq retry M ⟶ retry

-- ---- STM transitions, and any number of them
mutual
  pub data ◌⇒◌ : Configuration → Configuration → Type 0 where
    READ : {Θ : Heap} {Δ : Allocations} {e : Term} {r : Ref} {v : Value} (S : Context)
        → e ⇓ Var r → Θ r ≡ Some v
        -- ----------------------------------------------------------------------------------------
        → (S ⟨ read e ⟩, Θ, Δ) ⇒ (S ⟨ return (lit v) ⟩, Θ, Δ)
    -- strict: r gets the value of M, there M itself
    WRITE : {Θ : Heap} {Δ : Allocations} {e M : Term} {r : Ref} {v w : Value} (S : Context)
        → e ⇓ Var r → M ⇓ v → Θ r ≡ Some w
        -- ----------------------------------------------------------------------------------------
        → (S ⟨ write e M ⟩, Θ, Δ) ⇒ (S ⟨ return (lit Nil) ⟩, updated Θ r v, Δ)
    -- strict, too. r is any name that isn't in use
    NEW : {Θ : Heap} {Δ : Allocations} {M : Term} {v : Value} (S : Context) (t : Ty) (r : Ref)
        → M ⇓ v → Θ r ≡ None
        -- ----------------------------------------------------------------------------------------
        → (S ⟨ make t M ⟩, Θ, Δ) ⇒ (S ⟨ return (lit (Var r)) ⟩, updated Θ r v, Δ ++ (r, t) ∷ [])
    AADMIN : {Θ : Heap} {Δ : Allocations} {M N : Act} (S : Context)
        → M ⟶ N
        -- ----------------------------------------------------------------------------------------
        → (S ⟨ M ⟩, Θ, Δ) ⇒ (S ⟨ N ⟩, Θ, Δ)
    OR1 : {Θ Θ' : Heap} {Δ Δ' : Allocations} {M₁ : Act} {N : Term} (S : Context) (M₂ : Act)
        → (M₁, Θ, Δ) ⇒* (return N, Θ', Δ')
        -- ----------------------------------------------------------------------------------------
        → (S ⟨ or_else M₁ M₂ ⟩, Θ, Δ) ⇒ (S ⟨ return N ⟩, Θ', Δ')
    OR2 : {Θ Θ' : Heap} {Δ Δ' : Allocations} {M₁ : Act} {N : Term} (S : Context) (M₂ : Act)
        → (M₁, Θ, Δ) ⇒* (throw N, Θ', Δ')
        -- ----------------------------------------------------------------------------------------
        → (S ⟨ or_else M₁ M₂ ⟩, Θ, Δ) ⇒ (S ⟨ throw N ⟩, Θ', Δ')
    OR3 : {Θ Θ' : Heap} {Δ Δ' : Allocations} {M₁ : Act} (S : Context) (M₂ : Act)
        → (M₁, Θ, Δ) ⇒* (retry, Θ', Δ')
        -- ----------------------------------------------------------------------------------------
        → (S ⟨ or_else M₁ M₂ ⟩, Θ, Δ) ⇒ (S ⟨ M₂ ⟩, Θ, Δ)
    XSTM1 : {Θ Θ' : Heap} {Δ Δ' : Allocations} {M : Act} {P : Term} (S : Context) (N : Act)
        → (M, Θ, []) ⇒* (return P, Θ', Δ')
        -- ----------------------------------------------------------------------------------------
        → (S ⟨ catch M N ⟩, Θ, Δ) ⇒ (S ⟨ return P ⟩, Θ', Δ ++ Δ')
    -- no new cells after a throw: the handler begins in Θ, Δ, there in Θ ∪ Δ', Δ ∪ Δ'. And only numbers are caught
    XSTM2 : {Θ Θ' : Heap} {Δ Δ' : Allocations} {M : Act} {P : Term} {n : ℤ} (S : Context) (N : Act)
        → (M, Θ, []) ⇒* (throw P, Θ', Δ') → Raises P (Thrown n)
        -- ----------------------------------------------------------------------------------------
        → (S ⟨ catch M N ⟩, Θ, Δ) ⇒ (S ⟨ applied_to N (Int n) ⟩, Θ, Δ)
    -- an overflow isn't caught: it is thrown on, as OR2 does
    XSTM2' : {Θ Θ' : Heap} {Δ Δ' : Allocations} {M : Act} {P : Term} (S : Context) (N : Act)
        → (M, Θ, []) ⇒* (throw P, Θ', Δ') → Raises P Overflow
        -- ----------------------------------------------------------------------------------------
        → (S ⟨ catch M N ⟩, Θ, Δ) ⇒ (S ⟨ throw P ⟩, Θ', Δ ++ Δ')
    XSTM3 : {Θ Θ' : Heap} {Δ Δ' : Allocations} {M : Act} (S : Context) (N : Act)
        → (M, Θ, []) ⇒* (retry, Θ', Δ')
        -- ----------------------------------------------------------------------------------------
        → (S ⟨ catch M N ⟩, Θ, Δ) ⇒ (S ⟨ retry ⟩, Θ, Δ)

  pub data ◌⇒*◌ : Configuration → Configuration → Type 0 where
    none : {x : Configuration} → x ⇒* x
    more : {x y z : Configuration} → x ⇒ y → y ⇒* z → x ⇒* z

-- ---- I/O transitions: those of `atomic M` alone, which replace it in its thread. If M comes to a retry there is none: the thread waits
pub data ◌⇝◌ : Act × Heap → Act × Heap → Type 0 where
  -- strict: `atomic M` gives the value of N, there N itself
  ARET : {Θ Θ' : Heap} {Δ' : Allocations} {M : Act} {N : Term} {v : Value}
      → (M, Θ, []) ⇒* (return N, Θ', Δ') → N ⇓ v
      -- ------------------------------------------------------------------------------------------
      → (M, Θ) ⇝ (return (lit v), Θ')
  -- no new cells after a throw: the heap stays Θ, there it becomes Θ ∪ Δ'. And N raises something: the thread gets no overflow later
  ATHROW : {Θ Θ' : Heap} {Δ' : Allocations} {M : Act} {N : Term} {f : Fault}
      → (M, Θ, []) ⇒* (throw N, Θ', Δ') → Raises N f
      -- ------------------------------------------------------------------------------------------
      → (M, Θ) ⇝ (throw N, Θ)
