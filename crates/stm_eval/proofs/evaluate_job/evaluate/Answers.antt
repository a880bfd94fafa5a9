use Rattle.std.proofs.Common.{◌≡◌, Some}
use Rattle.stm_terms.specs.Changes.{cell_value}
use Rattle.stm_terms.specs.ReadSet.{reads_of}
use Rattle.stm_terms.specs.Verdict.{verdict}
use Rattle.stm_eval.proofs.FragmentsAndStores.{valid_from_store}
use Rattle.stm_eval.proofs.evaluate_job.evaluate.Goals as goal

pub of-requires : goal.of-requires
of-requires c =
    let found : verdict (cell_value c.args.frozen.now) c.args.job.block.tree ≡ Some c.in-Ok.verdict = rw c.block.ensures at c.in-Ok.ensures.verdict in
    let read : c.in-Ok.reads ≡ reads_of (cell_value c.args.frozen.now) c.args.job.block.tree = rw c.block.ensures at c.in-Ok.ensures.reads in
    valid_from_store c.args.job.block.tree (cell_value c.args.frozen.now) c.in-Ok.reads c.in-Ok.verdict found read
