use Rattle.std.proofs.Common.{◌≡◌, take}
use Rattle.stm_machine.proofs.right_delivery.same_reads.Given as goal

abbrev pub invariant-loop-i : goal.invariant-loop-i
invariant-loop-i l = take l.i l.one ≡ take l.i l.other
