use Rattle.std.proofs.Common.{refl, rules}
use Rattle.stm_source.proofs.CompiledTexts.{typed_block, mistyped_block, block_uses}
use Rattle.stm_source.proofs.UsesAreCovered.{named_cover}
use Rattle.stm_source.proofs.block.compile_block.Goals as goal

pub returns-in-Some-clause-block : goal.returns-in-Some-clause-block
returns-in-Some-clause-block c =
    let r = c.in-Some.ensures in
    typed_block c.args.known.now c.args.text.now c.args.text.now r.tree c.in-Some.block refl r.read r.found

pub returns-in-Some-clause-covered : goal.returns-in-Some-clause-covered
returns-in-Some-clause-covered c = λ cells k.
    let r = c.in-Some.ensures in
    let uses = block_uses c.args.known.now c.args.text.now c.args.text.now r.tree c.in-Some.block refl r.read r.found in
    named_cover c.args.known.now c.in-Some.block.tree c.in-Some.block.uses cells uses k

pub returns-clause-block : goal.returns-clause-block
returns-clause-block c =
    typed_block c.args.known.now c.args.text.now _ _ _ c.in_ok-raw.ensures.text c.in_ok-raw.ensures.answer c.in_ok-block.ensures

pub returns-in_err-block-clause-block : goal.returns-in_err-block-clause-block
returns-in_err-block-clause-block c =
    search (mistyped_block c.args.known.now c.args.text.now _ _ _ c.in_ok-raw.ensures.text c.in_ok-raw.ensures.answer c.in_err-block.ensures, rules)

pub returns-clause-covered : goal.returns-clause-covered
returns-clause-covered c = λ cells k.
    let uses = block_uses c.args.known.now c.args.text.now _ _ _ c.in_ok-raw.ensures.text c.in_ok-raw.ensures.answer c.in_ok-block.ensures in
    named_cover c.args.known.now c.in_ok-block.block.tree c.in_ok-block.block.uses cells uses k
