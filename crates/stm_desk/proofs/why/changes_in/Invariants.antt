use Rattle.std.proofs.Common.{◌≡◌, ◌++◌, drop}
use Rattle.stm_desk.specs.Reasons.{changes_from}
use Rattle.stm_desk.specs.ReasonsByEvents.{left_by_writes}
use Rattle.stm_desk.proofs.why.changes_in.Given as goal

abbrev pub invariant-loop-variable : goal.invariant-loop-variable
invariant-loop-variable l =
    l.changes.items ++ changes_from (drop l.variable-index l.reads) (left_by_writes l.first_new l.writes)
    ≡ changes_from l.reads (left_by_writes l.first_new l.writes)
