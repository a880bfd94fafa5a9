use Rattle.std.proofs.Common.{◌+◌, ◌*◌, length}
use Rattle.stm_pool.proofs.pass.+audit.Given as goal

abbrev pub decreases-audit_passes : goal.decreases-audit_passes
decreases-audit_passes g l = 2 * length l.passes.now

abbrev pub decreases-audit_first : goal.decreases-audit_first
decreases-audit_first g l = 2 * length l.rest.now + 1
