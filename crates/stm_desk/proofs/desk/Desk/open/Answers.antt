use Rattle.std.proofs.Common.{refl, arith}
use Rattle.stm_machine.proofs.CheckpointLabels.{no_label_is}
use Rattle.stm_desk.proofs.desk.Desk.open.Goals as goal

pub invariant_of-result : goal.invariant_of-result
invariant_of-result c =
    rw (c.in_ok-table.ensures, c.new.ensures.items, c.empty.ensures) ((record { start = tt; legal = record { each = tt; few = omega arith }; at = c.in_ok-machine.ensures.at; few = omega arith; small = c.requires; typed = tt }), record { same = λ t. refl; each = λ u. no_label_is })
