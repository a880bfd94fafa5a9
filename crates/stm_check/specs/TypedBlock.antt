-- A block as callers see it.
use Rattle.std.specs.Prelude.{◌≡◌, ℕ, ◌≤◌, ◌^◌, List, [], Option, Some}
use Rattle.stm_terms.specs.declared.kinds.Ty.{Ty}
use Rattle.stm_terms.specs.Ast.{Act}
use Rattle.stm_terms.specs.Typing.{action_type, kinds_in, makes, result_type as type_of_result}

-- the tree, its text, the type of its result, with none for any, and the variables that it names with their types
pub record Block : Type 0 where
  pub tree : Act
  pub text : List ℕ
  pub result_type : Option Ty
  pub uses : List (ℕ × Ty)

-- the block is well typed
pub record IsTyped (b : Block) : Type 0 where
  -- its tree has the type of its result, if the variables that it names have their types
  pub typed : action_type (kinds_in b.uses) [] b.tree ≡ Some (type_of_result b.result_type)
  -- it has few enough `newTVar`s to number what they make
  pub few : makes b.tree ≤ 2 ^ 32
