-- A tree that was read of all tokens is a block's.
use Rattle.std.proofs.Common.{◌≡◌, ℕ, ◌≤◌, ◌^◌, List, Option, Ok, ap, sym, ◌∙◌, arith}
use Rattle.stm_terms.specs.declared.kinds.Ty.{Ty}
use Rattle.stm_terms.specs.Ast.{Act}
use Rattle.stm_terms.specs.ParsedAst.{actions}
use Rattle.stm_terms.specs.Typing.{ActionType, makes, result_type, uses_of}
use Rattle.stm_parse.specs.declared.token.Lexeme.{Lexeme}
use Rattle.stm_parse.specs.Grammar.{IsBlock}
use Rattle.stm_parse.specs.NameTokens.{NamesOf}
use Rattle.stm_parse.specs.ParseResult.{LexesWithinLimits}
use Rattle.stm_parse.specs.Descent.{block_reader}
use Rattle.stm_parse.proofs.CallsExact.{ok_block}
use Rattle.stm_parse.proofs.TreeNamesAndSize.{kept_block}
use Rattle.stm_parse.proofs.FaultReported.{text_of}
use Rattle.stm_parse.proofs.WholeTextRead.{good_block}
use Rattle.stm_check.proofs.TypedBlockInvariant.{kept_small}
use Rattle.stm_check.proofs.BlocksOfChecks.{block_made}
use Rattle.stm_store.specs.Naming.{Named, known_kinds}
use Rattle.stm_one_pass.specs.OnePass.{ReadsTree, IsReadFrom}

-- so the block of this tree is read from the text
pub block_read_from : (known : List Named) (text : List ℕ) (ls : List Lexeme) (x : Act) (own : List ℕ) (kind : Option Ty) (uses : List (ℕ × Ty)) → LexesWithinLimits text ls → ReadsTree known text ls x (result_type kind)
    → uses ≡ uses_of (known_kinds known) x → own ≡ text → IsReadFrom known text (record { tree = x; text = own; result_type = kind; uses = uses })
block_read_from known text ls x own kind uses f h u e = record {
  tree = h.tree;
  read = ok_block text ls f h.tree h.read;
  found = block_made known text h.tree x kind uses h.found u ∙ ap (λ (t : List ℕ). Ok (record { tree = x; text = t; result_type = kind; uses = uses })) (sym e);
}

-- it makes few variables, since it has few tokens
pub few_makes : (known : List Named) (text : List ℕ) (ls : List Lexeme) (x : Act) (r : ActionType) → LexesWithinLimits text ls → NamesOf text ls → ReadsTree known text ls x r → makes x ≤ 2 ^ 32
few_makes known text ls x r f n h =
    let k = kept_block text ls h.tree (text_of block_reader IsBlock good_block text ls f h.tree h.read) n f.2 in
    let m : makes x ≤ actions h.tree = kept_small known text h.tree x r h.found in
    omega (arith, k.2, m)
