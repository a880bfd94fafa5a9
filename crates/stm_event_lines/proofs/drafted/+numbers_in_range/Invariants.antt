use Rattle.std.proofs.Common.{length}
use Rattle.stm_event_lines.proofs.drafted.+numbers_in_range.Given as goal

abbrev pub decreases-numbers_in_range : goal.decreases-numbers_in_range
decreases-numbers_in_range l = length l.numbers.now
