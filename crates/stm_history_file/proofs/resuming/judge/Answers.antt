use Rattle.std.proofs.Common.{arith}
use Rattle.stm_journal.proofs.Wholes.{whole-le}
use Rattle.stm_history_file.proofs.resuming.judge.Goals as goal

pub load_front-requires : goal.load_front-requires
load_front-requires g c honest = omega (arith, c.in-Ok.ensures.found.kept honest, whole-le 0 (g.D.Device.disk.seen c.args.device.now))
