-- Types of values, expressions and actions, and what a well typed view is.
use Rattle.std.specs.Prelude.{◌≡◌, ℕ, suc, zero, ◌<◌, ◌≤◌, ◌+◌, Bool, true, false, ◌&&◌, nat_eq, nat_le, List, [], ◌∷◌, ◌++◌, Option, Some, None, slice_get, option_map, if◌then◌else◌}
use Rattle.stm_terms.specs.declared.kinds.Base.{Base as BaseTy}
use Rattle.stm_terms.specs.declared.kinds.Base.TheVariants.{Int as IntBase, Bool as BoolBase, Unit as UnitBase}
use Rattle.stm_terms.specs.declared.kinds.Ty.{Ty}
use Rattle.stm_terms.specs.declared.values.Ref.{Ref}
use Rattle.stm_terms.specs.declared.values.Ref.TheVariants.{Old, New}
use Rattle.stm_terms.specs.declared.values.Value.{Value}
use Rattle.stm_terms.specs.declared.values.Value.TheVariants.{Int, Bool as Truth, Unit as Nil, Var}
use Rattle.stm_terms.specs.declared.expr.Op.{Op}
use Rattle.stm_terms.specs.declared.expr.Op.TheVariants.{Mul, Add, Sub, Eq, Lt, Le, And, Or}
use Rattle.stm_terms.specs.Changes.{Variables, Changes, find}
use Rattle.stm_terms.specs.Limits.{most_refs}
use Rattle.stm_terms.specs.Ast.{Term, lit, local, global, bin, Act, return, read, write, make, retry, throw, if_else, or_else, bind, let_in, seq, catch}

-- the types of the store's variables
abbrev pub TypeEnv : Type 0
TypeEnv = ℕ → Option Ty

-- the type `Int`
abbrev pub int_ty : Ty
int_ty = record { base = IntBase; refs = 0 }

-- the type `Bool`
abbrev pub bool_ty : Ty
bool_ty = record { base = BoolBase; refs = 0 }

-- the type `()`
abbrev pub unit_ty : Ty
unit_ty = record { base = UnitBase; refs = 0 }

-- the type of references to cells of a type
abbrev pub var_ty : Ty → Ty
var_ty t = record { base = t.base; refs = suc t.refs }

-- the type of the cell that a reference of the type stands for
abbrev pub deref_at : BaseTy → ℕ → Option Ty
deref_at b zero = None
deref_at b (suc n) = Some (record { base = b; refs = n })

-- none if the type is not one of references
abbrev pub deref_ty : Ty → Option Ty
deref_ty t = deref_at t.base t.refs

-- the two are one base
abbrev pub same_base : BaseTy → BaseTy → Bool
same_base IntBase IntBase = true
same_base BoolBase BoolBase = true
same_base UnitBase UnitBase = true
same_base a b = false

-- the two are one type
abbrev pub same_ty : Ty → Ty → Bool
same_ty t u = same_base t.base u.base && nat_eq t.refs u.refs

-- the type of the cell at a reference: those of the store, and those that the block has made
abbrev pub kind_of : TypeEnv → Changes → Ref → Option Ty
kind_of kinds h (Old i) = kinds i
kind_of kinds h (New k) = option_map (λ c. c.0) (slice_get h.news k)

-- the type of a value, where its reference exists
abbrev pub type_of : TypeEnv → Changes → Value → Option Ty
type_of kinds h (Int n) = Some int_ty
type_of kinds h (Truth b) = Some bool_ty
type_of kinds h Nil = Some unit_ty
type_of kinds h (Var r) = option_map var_ty (kind_of kinds h r)

-- a literal has no reference in it
abbrev pub literal_type : Value → Option Ty
literal_type (Int n) = Some int_ty
literal_type (Truth b) = Some bool_ty
literal_type Nil = Some unit_ty
literal_type (Var r) = None

-- goes on with a type
abbrev pub with_type : {A : Type 0} → Option Ty → (Ty → Option A) → Option A
with_type (Some t) go = go t
with_type None go = None

-- what an operator gives that wants both operands of one type
abbrev pub operands : Ty → Ty → Ty → Ty → Option Ty
operands wanted given t u = if same_ty t wanted && same_ty u wanted then Some given else None

-- the type that an operator gives at operands of these types, none if it takes no such ones
abbrev pub op_type : Op → Ty → Ty → Option Ty
op_type Mul t u = operands int_ty int_ty t u
op_type Add t u = operands int_ty int_ty t u
op_type Sub t u = operands int_ty int_ty t u
op_type Lt t u = operands int_ty bool_ty t u
op_type Le t u = operands int_ty bool_ty t u
op_type And t u = operands bool_ty bool_ty t u
op_type Or t u = operands bool_ty bool_ty t u
op_type Eq t u = if same_ty t u then Some bool_ty else None

-- the type of an expression, from those of the variables and the locals
abbrev pub expr_type : TypeEnv → List Ty → Term → Option Ty
expr_type kinds locals (lit v) = literal_type v
expr_type kinds locals (local i) = slice_get locals i
expr_type kinds locals (global i) = option_map var_ty (kinds i)
expr_type kinds locals (bin op a b) =
    with_type (expr_type kinds locals a) (λ t. with_type (expr_type kinds locals b) (op_type op t))

-- an action returns values of one type, or it has any type, since it never returns
pub data ActionType : Type 0 where
  Gives : Ty → ActionType
  Any : ActionType

-- what two branches have in common, or an action and its handler
abbrev pub join_types : ActionType → ActionType → Option ActionType
join_types Any r = Some r
join_types (Gives t) Any = Some (Gives t)
join_types (Gives t) (Gives u) = if same_ty t u then Some (Gives t) else None

-- goes on with the type of an action
abbrev pub with_result : Option ActionType → (ActionType → Option ActionType) → Option ActionType
with_result (Some r) go = go r
with_result None go = None

-- goes on with the type of what is bound, which may not be any
abbrev pub with_bound : ActionType → (Ty → Option ActionType) → Option ActionType
with_bound (Gives t) go = go t
with_bound Any go = None

-- the type, where what it rests on holds
abbrev pub when : Bool → ActionType → Option ActionType
when b r = if b then Some r else None

-- the type of an action, from those of the variables and the locals; none if it is ill typed
abbrev pub action_type : TypeEnv → List Ty → Act → Option ActionType
action_type kinds locals (return e) = with_type (expr_type kinds locals e) (λ t. Some (Gives t))
action_type kinds locals (read e) = with_type (expr_type kinds locals e) (λ t. with_type (deref_ty t) (λ u. Some (Gives u)))
action_type kinds locals (write r e) =
    with_type (expr_type kinds locals r)
    (λ t. with_type (expr_type kinds locals e) (λ u. when (same_ty t (var_ty u)) (Gives unit_ty)))
action_type kinds locals (make t e) =
    with_type (expr_type kinds locals e) (λ u. when (same_ty t u && nat_le t.refs most_refs) (Gives (var_ty t)))
action_type kinds locals retry = Some Any
action_type kinds locals (throw e) = with_type (expr_type kinds locals e) (λ t. when (same_ty t int_ty) Any)
action_type kinds locals (if_else e a b) =
    with_type (expr_type kinds locals e)
    (λ t. if same_ty t bool_ty
    then with_result (action_type kinds locals a) (λ r. with_result (action_type kinds locals b) (join_types r))
    else None)
action_type kinds locals (or_else a b) =
    with_result (action_type kinds locals a) (λ r. with_result (action_type kinds locals b) (join_types r))
action_type kinds locals (bind a b) =
    with_result (action_type kinds locals a) (λ r. with_bound r (λ t. action_type kinds (locals ++ t ∷ []) b))
action_type kinds locals (let_in e b) = with_type (expr_type kinds locals e) (λ t. action_type kinds (locals ++ t ∷ []) b)
action_type kinds locals (seq a b) = with_result (action_type kinds locals a) (λ r. action_type kinds locals b)
action_type kinds locals (catch a b) =
    with_result (action_type kinds locals a) (λ r. with_result (action_type kinds (locals ++ int_ty ∷ []) b) (join_types r))

-- a block's result type, with none for any
abbrev pub result_type : Option Ty → ActionType
result_type (Some t) = Gives t
result_type None = Any

-- the types of the variables that a block names
abbrev pub kinds_in : List (ℕ × Ty) → TypeEnv
kinds_in [] i = None
kinds_in (u ∷ us) i = if nat_eq u.0 i then Some u.1 else kinds_in us i

-- the variables that a tree names, in order, repeats and all
abbrev pub named_in : Term → List ℕ
named_in (lit v) = []
named_in (local i) = []
named_in (global i) = i ∷ []
named_in (bin op a b) = named_in a ++ named_in b

-- the variables that an action names, in order, repeats and all
abbrev pub named : Act → List ℕ
named (return e) = named_in e
named (read e) = named_in e
named (write r e) = named_in r ++ named_in e
named (make t e) = named_in e
named retry = []
named (throw e) = named_in e
named (if_else e a b) = named_in e ++ named a ++ named b
named (or_else a b) = named a ++ named b
named (bind a b) = named a ++ named b
named (let_in e b) = named_in e ++ named b
named (seq a b) = named a ++ named b
named (catch a b) = named a ++ named b

-- adds a variable of a known type that was not named before
abbrev pub record_use_as : Option Ty → Option Ty → ℕ → List (ℕ × Ty) → List (ℕ × Ty)
record_use_as (Some u) k i us = us
record_use_as None (Some t) i us = us ++ (i, t) ∷ []
record_use_as None None i us = us

-- adds a variable after those that were named before it
abbrev pub record_use : TypeEnv → ℕ → List (ℕ × Ty) → List (ℕ × Ty)
record_use kinds i us = record_use_as (kinds_in us i) (kinds i) i us

-- each variable once, in order of first appearance, with its type
abbrev pub record_uses : TypeEnv → List ℕ → List (ℕ × Ty) → List (ℕ × Ty)
record_uses kinds [] us = us
record_uses kinds (i ∷ is) us = record_uses kinds is (record_use kinds i us)

-- the variables that an action names, each once, with its type
abbrev pub uses_of : TypeEnv → Act → List (ℕ × Ty)
uses_of kinds a = record_uses kinds (named a) []

-- how many times `newTVar` stands in an action
abbrev pub makes : Act → ℕ
makes (make t e) = 1
makes (if_else e a b) = makes a + makes b
makes (or_else a b) = makes a + makes b
makes (bind a b) = makes a + makes b
makes (let_in e b) = makes b
makes (seq a b) = makes a + makes b
makes (catch a b) = makes a + makes b
makes a = 0

-- each key of a list is above n
abbrev pub AllAbove : ℕ → List (ℕ × Value) → Type 0
AllAbove n [] = Unit {0}
AllAbove n (e ∷ es) = (n < e.0) × AllAbove n es

-- the keys of a list rise
abbrev pub Rising : List (ℕ × Value) → Type 0
Rising [] = Unit {0}
Rising (e ∷ es) = AllAbove e.0 es × Rising es

-- each variable underneath that has a type holds a value of it, and so does each variable that was written and each cell
-- that was made
pub record WellTyped (kinds : TypeEnv) (under : Variables) (h : Changes) : Type 0 where
  pub store : (i : ℕ) (t : Ty) → kinds i ≡ Some t → (v : Value) × (under i ≡ Some v) × (type_of kinds h v ≡ Some t)
  pub writes : (i : ℕ) (v : Value) → find i h.writes ≡ Some v → (t : Ty) × (kinds i ≡ Some t) × (type_of kinds h v ≡ Some t)
  pub rising : Rising h.writes
  pub news : (k : ℕ) (c : Ty × Value) → slice_get h.news k ≡ Some c → (type_of kinds h c.1 ≡ Some c.0) × (c.0.refs ≤ most_refs)

-- values of these types, in order
abbrev pub HaveTypes : TypeEnv → Changes → List Value → List Ty → Type 0
HaveTypes kinds h [] [] = Unit {0}
HaveTypes kinds h (v ∷ vs) (t ∷ ts) = (type_of kinds h v ≡ Some t) × HaveTypes kinds h vs ts
HaveTypes kinds h vs ts = ⊥
