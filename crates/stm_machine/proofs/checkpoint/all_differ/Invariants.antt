use Rattle.std.proofs.Common.{◌≡◌, drop}
use Rattle.stm_machine.specs.Checkpoints.{all_differ}
use Rattle.stm_machine.proofs.checkpoint.all_differ.Given as goal

-- each of the variables so far does
abbrev pub invariant-loop-one : goal.invariant-loop-one
invariant-loop-one l = all_differ l.reads (drop l.one-index l.left) ≡ all_differ l.reads l.left
