use Rattle.std.proofs.Common.{◌≡◌, Some, sym, ◌∙◌}
use Rattle.stm_source.specs.CompiledBlock.{block_of_text}
use Rattle.stm_source.proofs.LaterNames.{equal_names}
use Rattle.stm_event_lines.proofs.Ranges.{own_text}
use Rattle.stm_event_lines.proofs.read.submitted.Goals as goal

pub returns-in-Some-2-clause-fits : goal.returns-in-Some-2-clause-fits
returns-in-Some-2-clause-fits c =
    let e : block_of_text c.args.known.now c.in-Some.text.now ≡ Some c.in-Some-2.block = sym c.in_ok-block.ensures.block ∙ c.in-Some-2.is in
    (c.ranges.ticket.fits, own_text c.args.known.now c.in-Some.text.now c.in-Some-2.block e)

pub block_of-requires : goal.block_of-requires
block_of-requires c = equal_names _ _ c.requires
