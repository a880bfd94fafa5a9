-- Declarations without addresses.
use Rattle.std.specs.Prelude.{ℕ, List, string_bytes}
use Rattle.stm_terms.specs.declared.kinds.Ty.{Ty}
use Rattle.stm_terms.specs.declared.values.Value.{Value}
use Rattle.stm_terms.specs.declared.values.Value.TheVariants as V
use Rattle.stm_terms.specs.ParsedAst.{text_at, RawTerm, int, truth, unit, name, bin, raw_term_of}
use Rattle.stm_parse.specs.declared.declaration.Init.{Init}
use Rattle.stm_parse.specs.declared.declaration.Init.TheVariants as I
use Rattle.stm_parse.specs.declared.declaration.Declaration.{Declaration}
use Rattle.stm_parse.specs.declared.types.RawDeclaration.{RawDeclaration}
use Rattle.stm_parse.specs.Grammar.{DeclarationTree}

-- a tree of the descent without addresses
abbrev pub declaration_tree_of : RawDeclaration → DeclarationTree
declaration_tree_of d = record { name = d.name; ty = d.ty; init = raw_term_of d.init }

-- what a variable holds at first: a value, or the variable of a name, with the place of the name
pub data ParsedInit : Type 0 where
  literal : Value → ParsedInit
  named : List ℕ → ℕ → ParsedInit

-- a declaration as callers see it
pub record ParsedDeclaration : Type 0 where
  pub name : List ℕ
  pub kind : Ty
  pub init : ParsedInit

-- a first value without addresses
abbrev pub parsed_initial : Init → ParsedInit
parsed_initial (I.Literal v) = literal v
parsed_initial (I.Name n at) = named (string_bytes n) at

-- a declaration without addresses
abbrev pub declaration_of : Declaration → ParsedDeclaration
declaration_of d = record { name = string_bytes d.name; kind = d.ty; init = parsed_initial d.init }

-- what an operand says of a variable; no declaration has an operator
abbrev pub init_of : List ℕ → RawTerm → ParsedInit
init_of text (int n at) = literal (V.Int n)
init_of text (truth b at) = literal (V.Bool b)
init_of text (unit at) = literal V.Unit
init_of text (name span) = named (text_at text span) span.start
init_of text (bin o a b) = literal V.Unit

-- the declaration that a tree stands for in a text
abbrev pub declaration_in : List ℕ → DeclarationTree → ParsedDeclaration
declaration_in text t = record { name = text_at text t.name; kind = t.ty; init = init_of text t.init }
