-- What one pass reads: what the grammar reads of these tokens, as the check makes it.
use Rattle.std.specs.Prelude.{◌≡◌, ℕ, List, [], ◌∷◌, Ok}
use Rattle.std.specs.Str.{IsAscii}
use Rattle.stm_terms.specs.declared.kinds.Ty.{Ty}
use Rattle.stm_terms.specs.Ast.{Term, Act}
use Rattle.stm_terms.specs.declared.raw.Span.{Span}
use Rattle.stm_terms.specs.ParsedAst.{RawTerm, RawAct, text_at}
use Rattle.stm_terms.specs.Typing.{ActionType}
use Rattle.stm_parse.specs.declared.token.Lexeme.{Lexeme}
use Rattle.stm_parse.specs.Grammar.{Placed}
use Rattle.stm_parse.specs.Descent.{Reading, block_reader, whole}
use Rattle.stm_parse.specs.ParseFunction.{parsed_block}
use Rattle.stm_store.specs.Naming.{Named}
use Rattle.stm_check.specs.declared.checker.Checker.{Checker}
use Rattle.stm_check.specs.Scopes.{scope, ScopeHasFewRefs, ScopeIsConsistent}
use Rattle.stm_check.specs.TypedBlock.{Block}
use Rattle.stm_check.specs.CheckFunction.{checked}
use Rattle.stm_check.specs.CheckedBlock.{checked_block}
use Rattle.stm_check.specs.CheckContext.{expr_found, act_found, recorded_expr, recorded_act}

-- what the pass looks names up in is right
abbrev pub CanRead : Checker → Type 0
CanRead checker = IsAscii checker.text.now × ScopeIsConsistent checker.locals.now × ScopeHasFewRefs (scope checker.locals.now)

-- the reading is of some expression, which the check makes this term of this type; its variables are noted, and these tokens are left
pub record ReadsExpr (checker : Checker) (reading : Reading RawTerm) (x : Term) (t : Ty) (rest : List Lexeme)
    (before after : List (ℕ × Ty)) : Type 0 where
  pub tree : RawTerm
  pub read : reading ≡ Ok (tree, rest)
  pub found : expr_found checker tree ≡ Ok (x, t)
  pub uses : after ≡ recorded_expr checker x before

-- so too of an action, with its place
pub record ReadsAction (checker : Checker) (reading : Reading Placed) (x : Act) (r : ActionType) (rest : List Lexeme)
    (before after : List (ℕ × Ty)) : Type 0 where
  pub tree : Placed
  pub read : reading ≡ Ok (tree, rest)
  pub found : act_found checker tree.0 ≡ Ok (x, r)
  pub uses : after ≡ recorded_act checker x before

-- so too of a body
pub record ReadsBody (checker : Checker) (reading : Reading RawAct) (x : Act) (r : ActionType) (rest : List Lexeme)
    (before after : List (ℕ × Ty)) : Type 0 where
  pub tree : RawAct
  pub read : reading ≡ Ok (tree, rest)
  pub found : act_found checker tree ≡ Ok (x, r)
  pub uses : after ≡ recorded_act checker x before

-- so too of a body that has one more local, of this name and type
pub record ReadsInner {A : Type 0} (checker : Checker) (name : Span) (t : Ty) (tree_of : A → RawAct) (reading : Reading A) (x : Act) (r : ActionType)
    (rest : List Lexeme) (before after : List (ℕ × Ty)) : Type 0 where
  pub tree : A
  pub read : reading ≡ Ok (tree, rest)
  pub found : checked checker.known.now checker.text.now ((text_at checker.text.now name, t) ∷ scope checker.locals.now) (tree_of tree)
      ≡ Ok (x, r)
  pub uses : after ≡ recorded_act checker x before

-- all of the tokens are of some action, which the check makes this one of this type
pub record ReadsTree (known : List Named) (text : List ℕ) (toks : List Lexeme) (x : Act) (r : ActionType) : Type 0 where
  pub tree : RawAct
  pub read : whole block_reader toks ≡ Ok tree
  pub found : checked known text [] tree ≡ Ok (x, r)

-- the text is of some tree, and the block is what the check makes of it
pub record IsReadFrom (known : List Named) (text : List ℕ) (b : Block) : Type 0 where
  pub tree : RawAct
  -- the text is of this tree
  pub read : parsed_block text ≡ Ok tree
  -- the block is the one of this tree
  pub found : checked_block known text tree ≡ Ok b
