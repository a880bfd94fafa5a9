-- The block that a check gives.
use Rattle.std.proofs.Common.{◌≡◌, ◌≢◌, ℕ, List, [], Option, Some, None, Result, Ok, Err, refl, sym, ap, ap₂, subst, ◌∙◌}
use Rattle.stm_terms.specs.declared.kinds.Ty.{Ty}
use Rattle.stm_terms.specs.Ast.{Act}
use Rattle.stm_terms.specs.ParsedAst as raw
use Rattle.stm_terms.specs.Typing.{ActionType, result_type, uses_of}
use Rattle.stm_store.specs.Naming.{Named, known_kinds}
use Rattle.stm_check.specs.TypedBlock.{Block}
use Rattle.stm_check.specs.CheckFunction.{checked}
use Rattle.stm_check.specs.CheckedBlock.{given_type, block_of_check, checked_block}
use Rattle.stm_check.specs.declared.fault.TypeFault.{TypeFault}
use Rattle.stm_check.specs.declared.fault.TypeFault.TheVariants.{NoMemory}

given_back : (o : Option Ty) → given_type (result_type o) ≡ o
given_back (Some t) = refl
given_back None = refl

pub block_made : (known : List Named) (text : List ℕ) (tree : raw.RawAct) (a : Act) (kind : Option Ty) (uses : List (ℕ × Ty)) → checked known text [] tree ≡ Ok (a, result_type kind) → uses ≡ uses_of (known_kinds known) a
    → checked_block known text tree ≡ Ok (record { tree = a; text = text; result_type = kind; uses = uses })
block_made known text tree a kind uses e u =
    ap (block_of_check known text) e
    ∙ ap₂ (λ (t : Option Ty) (us : List (ℕ × Ty)). Ok (record { tree = a; text = text; result_type = t; uses = us })) (given_back kind) (sym u)

pub block_refused : (known : List Named) (text : List ℕ) (tree : raw.RawAct) (f : TypeFault) → (f ≢ NoMemory → checked known text [] tree ≡ Err f) → f ≢ NoMemory → checked_block known text tree ≡ Err f
block_refused known text tree f e n = ap (block_of_check known text) (e n)

uses_by : (known : List Named) (text : List ℕ) (o : Result (Act × ActionType) TypeFault) (b : Block) → block_of_check known text o ≡ Ok b → b.uses ≡ uses_of (known_kinds known) b.tree
uses_by known text (Err f) b e = absurd cc
uses_by known text (Ok c) b e =
    let made : Block = record { tree = c.0; text = text; result_type = given_type c.1; uses = uses_of (known_kinds known) c.0 } in
    let same : made ≡ b = cc in
    subst (λ (x : Block). x.uses ≡ uses_of (known_kinds known) x.tree) same refl

-- its variables are those that its tree names
pub checked_uses : (known : List Named) (text : List ℕ) (tree : raw.RawAct) (b : Block) → checked_block known text tree ≡ Ok b → b.uses ≡ uses_of (known_kinds known) b.tree
checked_uses known text tree b e = uses_by known text (checked known text [] tree) b e
