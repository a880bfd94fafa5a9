use Rattle.std.proofs.Common.{length}
use Rattle.stm_event_lines.proofs.drafted.+writes_in_range.Given as goal

abbrev pub decreases-writes_in_range : goal.decreases-writes_in_range
decreases-writes_in_range l = length l.writes.now
