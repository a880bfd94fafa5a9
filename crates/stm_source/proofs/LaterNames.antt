-- The block of a text if more names are known.
use Rattle.std.proofs.Common.{◌≡◌, ℕ, List, [], Result, Ok, Err, ◌++◌, refl, sym, ap, ◌∙◌, subst, append-nil, append_assoc}
use Rattle.stm_terms.specs.declared.kinds.Ty.{Ty}
use Rattle.stm_terms.specs.Ast.{Act}
use Rattle.stm_terms.specs.ParsedAst as raw
use Rattle.stm_terms.specs.Typing.{ActionType}
use Rattle.stm_parse.specs.declared.fault.ParseFault.{ParseFault}
use Rattle.stm_parse.specs.ParseFunction.{parsed_block}
use Rattle.stm_store.specs.Naming.{Named}
use Rattle.stm_check.specs.CheckFunction.{checked}
use Rattle.stm_check.specs.CheckedBlock.{given_type}
use Rattle.stm_check.specs.TypedBlock.{Block}
use Rattle.stm_check.specs.declared.fault.TypeFault.{TypeFault}
use Rattle.stm_check.proofs.LaterNames.{checked_stay}
use Rattle.stm_source.specs.CompiledBlock.{block_if_typed, block_if_parsed, compiled_block}
use Rattle.stm_source.specs.LaterNames.{NamesFollow, CheckedBlocksStay}

typed_stays : (few more : List Named) (text : List ℕ) (tree : raw.RawAct) (block : Block) (o : Result (Act × ActionType) TypeFault) → checked few text [] tree ≡ o → block_if_typed few text o ≡ Ok block
    → block_if_typed (few ++ more) text (checked (few ++ more) text [] tree) ≡ Ok block
typed_stays few more text tree block (Err f) c e = cc
typed_stays few more text tree block (Ok p) c e =
    let q = checked_stay few more text tree [] p.0 p.1 c in
    ap (block_if_typed (few ++ more) text) q.0
    ∙ ap (λ (us : List (ℕ × Ty)). Ok (record { tree = p.0; text = text; result_type = given_type p.1; uses = us })) q.1 ∙ e

parsed_stays : (few more : List Named) (text : List ℕ) (block : Block) (o : Result raw.RawAct ParseFault) → block_if_parsed few text o ≡ Ok block → block_if_parsed (few ++ more) text o ≡ Ok block
parsed_stays few more text block (Err f) e = cc
parsed_stays few more text block (Ok tree) e = typed_stays few more text tree block (checked few text [] tree) refl e

pub checked_blocks_stay : CheckedBlocksStay
unfolding compiled_block
checked_blocks_stay few more text block e = parsed_stays few more text block (parsed_block text) e

-- ---- names that follow
pub same_names : (known : List Named) → NamesFollow known known
same_names known = record { later = []; are = sym (append-nil known) }

pub equal_names : (few known : List Named) → few ≡ known → NamesFollow few known
equal_names few known e = subst (NamesFollow few) e (same_names few)

pub names_trans : (few known more : List Named) → NamesFollow few known → NamesFollow known more → NamesFollow few more
names_trans few known more a b = record {
  later = a.later ++ b.later;
  are = b.are ∙ ap (λ (ns : List Named). ns ++ b.later) a.are ∙ append_assoc few a.later b.later;
}
