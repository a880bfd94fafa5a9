use Rattle.std.proofs.Common.{◌∙◌}
use Rattle.stm_commands.proofs.Growing.{kept_resumed}
use Rattle.stm_commands.proofs.open_desk.OpenDesk.resume.Goals as goal

pub invariant_of-result : goal.invariant_of-result
invariant_of-result c = kept_resumed c.args.desk _ _ c.new-2.ensures.items (c.in_ok-cache.ensures ∙ c.names.ensures) c.history-history.ensures.start c.history-history.ensures.legal
