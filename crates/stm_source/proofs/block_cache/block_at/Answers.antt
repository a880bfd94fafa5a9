use Rattle.std.proofs.Common.{rules, ◌≡◌, List, ℕ, Some, Ok, arith, subst, slice_index_or}
use Rattle.stm_source.specs.CompiledBlock.{compiled_block}
use Rattle.stm_source.proofs.PreparedBlocks.{prepared_at}
use Rattle.stm_source.proofs.block_cache.block_at.Goals as goal

pub returns-then-same_text : goal.returns-then-same_text
returns-then-same_text c = λ known h.
    let there : slice_index_or c.args.blocks.now c.args.place c.index-blocks-place.result ≡ Some c.in-Some.block = search rules in
    let text : c.in-Some.block.text ≡ c.args.text.now = search rules in
    let kept = prepared_at known c.args.blocks.now c.args.place c.index-blocks-place.result c.in-Some.block (omega arith) there h in
    (subst (λ (t : List ℕ). compiled_block known t ≡ Ok c.in-Some.block) text kept.0, kept.1)
