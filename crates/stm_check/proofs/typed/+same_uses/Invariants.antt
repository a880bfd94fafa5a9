use Rattle.std.proofs.Common.{length}
use Rattle.stm_check.proofs.typed.+same_uses.Given as goal

abbrev pub decreases-same_uses : goal.decreases-same_uses
decreases-same_uses l = length l.one.now
