use Rattle.std.proofs.Common.{◌≡◌, List, ℕ, Ok, sym, subst}
use Rattle.stm_source.specs.CompiledBlock.{compiled_block}
use Rattle.stm_source.proofs.PreparedBlocks.{compiled_text, answers_shared, covers_shared}
use Rattle.stm_source.proofs.block_cache.prepared_block.Goals as goal

pub returns-in-Some-clause-block : goal.returns-in-Some-clause-block
returns-in-Some-clause-block c =
    answers_shared c.args.known.now c.args.text.now c.in-Some.block.now c.share_block.result (c.in-Some.ensures c.args.known.now c.requires) c.share_block.ensures.same c.share_block.ensures.memory

pub returns-in-Some-clause-covered : goal.returns-in-Some-clause-covered
returns-in-Some-clause-covered c =
    covers_shared c.args.known.now c.args.text.now c.in-Some.block.now c.share_block.result (c.in-Some.ensures c.args.known.now c.requires) c.share_block.ensures.same

pub returns-clause-kept : goal.returns-clause-kept
returns-clause-kept c =
    let e = c.in_ok-block.ensures.block in
    c.keep.ensures c.args.known.now c.requires
    (subst (λ (t : List ℕ). compiled_block c.args.known.now t ≡ Ok c.in_ok-block.block) (sym (compiled_text c.args.known.now c.args.text.now c.in_ok-block.block e)) e, c.in_ok-block.ensures.covered)
