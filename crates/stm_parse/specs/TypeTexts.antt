-- The text of a type is read back: by itself, and as the type of a declaration.
use Rattle.std.specs.Prelude.{◌≡◌, ℕ, ◌≤◌, List, ◌++◌, codes, Ok}
use Rattle.stm_terms.specs.declared.kinds.Ty.{Ty}
use Rattle.stm_terms.specs.Limits.{most_refs}
use Rattle.stm_terms.specs.Texts.{type_text}
use Rattle.stm_parse.specs.Declarations.{named}
use Rattle.stm_parse.specs.ParseFunction.{parsed_declaration}
use Rattle.stm_parse.specs.TypeFunction.{parsed_type}

-- `a : TYPE = a`
abbrev pub declaring : Ty → List ℕ
declaring t = codes "a : " ++ (type_text t ++ codes " = a")

-- a declaration that is written with a type's text declares a variable of that type
abbrev pub TypesAreReadBack : Type 0
TypesAreReadBack =
    (t : Ty) → t.refs ≤ most_refs
    → (at : ℕ) × (parsed_declaration (declaring t) ≡ Ok (record { name = codes "a"; kind = t; init = named (codes "a") at }))

-- the text of a type is a text of that type
abbrev pub TypesAreReadAlone : Type 0
TypesAreReadAlone = (t : Ty) → t.refs ≤ most_refs → parsed_type (type_text t) ≡ Ok t
