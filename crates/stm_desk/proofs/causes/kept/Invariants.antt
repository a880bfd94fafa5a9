use Rattle.std.proofs.Common.{◌≡◌, ◌++◌, drop}
use Rattle.stm_desk.proofs.KeptAgain.{lefts}
use Rattle.stm_desk.proofs.causes.kept.Given as goal

abbrev pub invariant-loop-change : goal.invariant-loop-change
invariant-loop-change l = l.left.items ++ lefts (drop l.change-index l.changes) ≡ lefts l.changes
