use Rattle.std.proofs.Common.{◌≡◌, drop}
use Rattle.stm_terms.specs.Changes.{find}
use Rattle.stm_machine.specs.Checkpoints.{differs_from}
use Rattle.stm_machine.proofs.checkpoint.differs_from.Given as goal

-- none of the variables so far is this one
abbrev pub invariant-loop-read : goal.invariant-loop-read
invariant-loop-read l = differs_from (find l.variable (drop l.read-index l.reads)) l.value ≡ differs_from (find l.variable l.reads) l.value
