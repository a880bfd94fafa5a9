use Rattle.std.proofs.Common.{◌≡◌, ◌∙◌, rules}
use Rattle.stm_eval.proofs.block.try_action.Goals as goal

-- what was read is what the log has in the end
pub returns-clause-reads : goal.returns-clause-reads
returns-clause-reads c =
    let finished : c.in_ok-ends.ends.reads ≡ c.run_whole.new.log.reads = search rules in
    c.judged.ensures.reads ∙ finished ∙ rw c.start-log.ensures at c.in_ok-end.ensures.reads
