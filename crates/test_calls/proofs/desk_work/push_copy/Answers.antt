use Rattle.std.proofs.Common.{rules}
use Rattle.stm_store.specs.Cells.{Covers}
use Rattle.test_calls.proofs.Covered.{covered_push}
use Rattle.test_calls.proofs.desk_work.push_copy.Goals as goal

pub returns : goal.returns
returns c =
    let covers : Covers c.args.frozen.now c.in_ok-block.block.uses = search rules in
    rw c.in_ok-push.ensures.items (covered_push c.args.frozen.now c.args.copied.now.items _ c.requires covers)
