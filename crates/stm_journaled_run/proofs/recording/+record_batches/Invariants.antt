use Rattle.std.proofs.Common.{length}
use Rattle.stm_journaled_run.proofs.recording.+record_batches.Given as goal

abbrev pub decreases-record_batches : goal.decreases-record_batches
decreases-record_batches g l = length l.events.now
