-- What texts declare and which blocks they are: a value of its type, a well typed block over the names, or a refusal other than
-- for lack of memory.
use Rattle.std.proofs.Common.{◌≡◌, ℕ, Bool, true, false, cond, List, [], length, Option, Some, None, Result, Ok, Err, refl, ap, ◌∙◌, subst}
use Rattle.std.specs.Prelude.{is_some, not, nat_lt}
use Rattle.stm_terms.specs.declared.kinds.Ty.{Ty}
use Rattle.stm_terms.specs.declared.values.Value.{Value}
use Rattle.stm_terms.specs.ParsedAst as raw
use Rattle.stm_terms.specs.Ast.{Act}
use Rattle.stm_terms.specs.Typing.{ActionType, uses_of}
use Rattle.stm_parse.specs.declared.fault.ParseFault.{ParseFault}
use Rattle.stm_parse.specs.Declarations.{ParsedInit, literal, named, ParsedDeclaration}
use Rattle.stm_parse.specs.Grammar.{IsBlock, DeclarationTree as Tree, IsDeclaration}
use Rattle.stm_parse.specs.ParseFunction.{IsAnswer, parsed_block, declared_tree, declaration_result, parsed_declaration, BlockAnswersAreRight, DeclarationAnswersAreRight}
use Rattle.stm_check.specs.declared.fault.TypeFault.{TypeFault}
use Rattle.stm_check.specs.CheckFunction.{checked}
use Rattle.stm_check.specs.Laws.{CheckNeverSaysNoMemory}
use Rattle.stm_check.specs.TypedBlock.{Block}
use Rattle.stm_store.specs.declared.table.DeclareError.{DeclareError}
use Rattle.stm_store.specs.declared.table.DeclareError.TheVariants as declare
use Rattle.stm_store.specs.Cells.{Covers}
use Rattle.stm_store.specs.Naming.{Named, named_uses, known_kinds}
use Rattle.stm_store.specs.Tables.{Declared, declared_cells, number_of, may_hold, declare_refusal}
use Rattle.stm_events.specs.Laws.{IsWellTyped}
use Rattle.stm_event_lines.specs.CheckedBlocks.{CheckedAreWellTyped}
use Rattle.stm_source.specs.CompiledBlock.{block_if_typed, block_if_parsed, compiled_block}
use Rattle.stm_source.specs.declared.refusal.Refusal.{Refusal}
use Rattle.stm_source.specs.declared.refusal.Refusal.TheVariants.{Unknown}
use Rattle.stm_source.specs.DeclaredVariable.{reference_to, initial, unless_refused, with_initial_value, on_declaration, variable_of}
use Rattle.stm_source.specs.OutOfMemory.{IsOutOfMemory}
use Rattle.stm_source.proofs.UsesAreCovered.{named_cover}

-- ---- declarations
-- a variable that is declared has a value of its type; a refusal isn't for lack of memory
abbrev pub MayHoldOrTold : List Declared → Result Declared Refusal → Type 0
MayHoldOrTold table (Ok d) = may_hold (declared_cells table) d.kind d.value ≡ true
MayHoldOrTold table (Err e) = ¬ IsOutOfMemory e

abbrev judged_by : Bool → Bool → Bool → Option DeclareError
judged_by twice holds room = cond twice (Some declare.Twice) (cond (not holds) (Some declare.TypeOfValue) (cond room None (Some declare.TableFull)))

declares_value : (table : List Declared) (name : List ℕ) (d : Declared) → MayHoldOrTold table (unless_refused d (declare_refusal table name d.kind d.value))
declares_value table name d = by (is_some (number_of name table)) (may_hold (declared_cells table) d.kind d.value) refl (nat_lt (length table) 1000000)
  where
    by : (twice holds : Bool) → may_hold (declared_cells table) d.kind d.value ≡ holds → (room : Bool) → MayHoldOrTold table (unless_refused d (judged_by twice holds room))
    by true holds e room = λ p. cc
    by false false e room = λ p. cc
    by false true e true = e
    by false true e false = λ p. cc

declares_initial : (table : List Declared) (d : ParsedDeclaration) (r : Result Value Refusal) → initial table d.init ≡ r → MayHoldOrTold table (with_initial_value table d.name d.kind r)
declares_initial table d (Ok v) e = declares_value table d.name (record { name = d.name; kind = d.kind; value = v })
declares_initial table d (Err x) e = of d.init e
  where
    referred : (place : ℕ) (o : Option ℕ) → reference_to place o ≡ Err x → ¬ IsOutOfMemory x
    referred place (Some i) q = absurd cc
    referred place None q = let p : Unknown place ≡ x = cc in subst (λ x. ¬ IsOutOfMemory x) p (λ k. k)

    of : (i : ParsedInit) → initial table i ≡ Err x → ¬ IsOutOfMemory x
    of (literal v) q = absurd cc
    of (named name place) q = referred place (number_of name table) q

-- ---- blocks
-- a block of a text is well typed, and each store with the named variables has those that it names; a refusal isn't for lack of memory
abbrev pub BlockOrTold : List Named → Result Block Refusal → Type 0
BlockOrTold known (Ok b) = IsWellTyped b × ((cells : List (Ty × Value)) → Covers cells (named_uses known) → Covers cells b.uses)
BlockOrTold known (Err e) = ¬ IsOutOfMemory e

abbrev Judged : List Named → Result Block Refusal → Type 0
Judged known (Ok b) = (cells : List (Ty × Value)) → Covers cells (named_uses known) → Covers cells b.uses
Judged known (Err e) = ¬ IsOutOfMemory e

module _ (blocks : BlockAnswersAreRight) (declarations : DeclarationAnswersAreRight) (faults : CheckNeverSaysNoMemory) (well_typed : CheckedAreWellTyped) where
  declares_tree : (table : List Declared) (text : List ℕ) (r : Result Tree ParseFault) → IsAnswer IsDeclaration text r → MayHoldOrTold table (on_declaration table (declaration_result text r))
  declares_tree table text (Ok t) h = declares_initial table _ _ refl
  declares_tree table text (Err f) h = h.0

  pub declares : (table : List Declared) (text : List ℕ) → MayHoldOrTold table (variable_of table text)
  unfolding variable_of parsed_declaration
  declares table text = declares_tree table text (declared_tree text) (declarations text)

  typed_judged : (known : List Named) (text : List ℕ) (tree : raw.RawAct) (r : Result (Act × ActionType) TypeFault) → checked known text [] tree ≡ r → Judged known (block_if_typed known text r)
  typed_judged known text tree (Ok x) e = λ cells c. named_cover known x.0 (uses_of (known_kinds known) x.0) cells refl c
  typed_judged known text tree (Err f) e = λ q. faults known text tree [] (e ∙ ap Err q)

  parsed_judged : (known : List Named) (text : List ℕ) (r : Result raw.RawAct ParseFault) → IsAnswer IsBlock text r → Judged known (block_if_parsed known text r)
  parsed_judged known text (Ok tree) h = typed_judged known text tree (checked known text [] tree) refl
  parsed_judged known text (Err f) h = h.0

  text_judged : (known : List Named) (text : List ℕ) → Judged known (compiled_block known text)
  unfolding compiled_block
  text_judged known text = parsed_judged known text (parsed_block text) (blocks text)

  judged_block : (known : List Named) (text : List ℕ) (r : Result Block Refusal) → compiled_block known text ≡ r → Judged known r → BlockOrTold known r
  judged_block known text (Ok b) e h = (well_typed known text b e, h)
  judged_block known text (Err f) e h = h

  pub compiled : (known : List Named) (text : List ℕ) → BlockOrTold known (compiled_block known text)
  compiled known text = judged_block known text (compiled_block known text) refl (text_judged known text)
