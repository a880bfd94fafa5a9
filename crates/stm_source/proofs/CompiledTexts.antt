-- The block of a text, by the check of its tree.
use Rattle.std.proofs.Common.{◌≡◌, ◌≢◌, ℕ, List, Result, Ok, Err, ap, subst, ◌∙◌}
use Rattle.stm_terms.specs.ParsedAst as raw
use Rattle.stm_parse.specs.ParseFunction.{parsed_block}
use Rattle.stm_terms.specs.Typing.{uses_of}
use Rattle.stm_store.specs.Naming.{Named, known_kinds}
use Rattle.stm_check.specs.TypedBlock.{Block}
use Rattle.stm_check.specs.CheckedBlock.{checked_block}
use Rattle.stm_check.specs.declared.fault.TypeFault.{TypeFault}
use Rattle.stm_check.specs.declared.fault.TypeFault.TheVariants.{NoMemory}
use Rattle.stm_check.proofs.BlocksOfChecks.{checked_uses}
use Rattle.stm_source.specs.CompiledBlock.{refused_typing, block_if_parsed, compiled_block}
use Rattle.stm_source.specs.declared.refusal.Refusal.TheVariants.{Typing}

checked_text : (known : List Named) (text : List ℕ) (tree : raw.RawAct) (r : Result Block TypeFault) → parsed_block text ≡ Ok tree → checked_block known text tree ≡ r → compiled_block known text ≡ refused_typing r
unfolding compiled_block
checked_text known text tree r p e = ap (block_if_parsed known text) p ∙ ap refused_typing e

pub typed_block : (known : List Named) (text own : List ℕ) (tree : raw.RawAct) (b : Block) → own ≡ text → parsed_block text ≡ Ok tree → checked_block known own tree ≡ Ok b → compiled_block known text ≡ Ok b
typed_block known text own tree b same p e = checked_text known text tree (Ok b) p (subst (λ (t : List ℕ). checked_block known t tree ≡ Ok b) same e)

pub block_uses : (known : List Named) (text own : List ℕ) (tree : raw.RawAct) (b : Block) → own ≡ text → parsed_block text ≡ Ok tree → checked_block known own tree ≡ Ok b → b.uses ≡ uses_of (known_kinds known) b.tree
block_uses known text own tree b same p e = checked_uses known own tree b e

pub mistyped_block : (known : List Named) (text own : List ℕ) (tree : raw.RawAct) (f : TypeFault) → own ≡ text → parsed_block text ≡ Ok tree → (f ≢ NoMemory → checked_block known own tree ≡ Err f) → f ≢ NoMemory → compiled_block known text ≡ Err (Typing f)
mistyped_block known text own tree f same p e n = checked_text known text tree (Err f) p (subst (λ (t : List ℕ). checked_block known t tree ≡ Err f) same (e n))
