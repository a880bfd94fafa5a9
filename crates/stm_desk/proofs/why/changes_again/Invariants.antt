use Rattle.std.proofs.Common.{◌≡◌, ◌++◌, drop}
use Rattle.stm_terms.specs.Changes.{find}
use Rattle.stm_desk.specs.Reasons.{changes_from}
use Rattle.stm_desk.proofs.why.changes_again.Given as goal

abbrev pub invariant-loop-variable : goal.invariant-loop-variable
invariant-loop-variable l = l.changes.items ++ changes_from (drop l.variable-index l.reads) (λ i. find i l.left) ≡ changes_from l.reads (λ i. find i l.left)
