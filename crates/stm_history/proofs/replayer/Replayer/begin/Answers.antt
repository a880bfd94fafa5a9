use Rattle.std.proofs.Common.{refl, ◌∙◌, arith}
use Rattle.stm_source.proofs.LaterNames.{equal_names}
use Rattle.stm_history_text.specs.Starts.{first_state}
use Rattle.stm_history.proofs.replayer.Replayer.begin.Goals as goal

pub returns-clause-follows : goal.returns-clause-follows
returns-clause-follows c = λ S at low. record {
  legal = record { each = tt; few = omega arith };
  at = at;
  tickets = low;
  counted = refl;
  copied = tt;
  kept = c.none_kept.ensures.none;
  blocks = equal_names _ _ (c.in_ok-blocks.ensures ∙ c.names.ensures (first_state S) at);
}
