use Rattle.std.proofs.Common.{sym, subst}
use Rattle.stm_watch.specs.Pairs.{Pairs}
use Rattle.stm_machine.proofs.BlocksInTurn.{AreRead, read_start}
use Rattle.stm_machine.proofs.restored.read_variables.Goals as goal

pub loop-block-init : goal.loop-block-init
loop-block-init c = subst (λ (w : Pairs). AreRead c.args.blocks.now c.args.blocks.now w) (sym c.empty-watch.ensures) (read_start c.args.blocks.now)
