use denote.Param.Send.{sendable}
use Rattle.std.proofs.Crossing.{crosses}
use Rattle.stm_pool.proofs.Crosses.{pass_send}
use Rattle.test_calls.proofs.Errands.{errand_send}
use Rattle.test_calls.proofs.pool_gate.fn.two_workers.scope.Goals as goal

pub spawn-one-requires-send-F : goal.spawn-one-requires-send-F
spawn-one-requires-send-F g c κs within = search (sendable, errand_send, c.requires) depth 40 fits 100000

pub spawn-one-requires-send-T : goal.spawn-one-requires-send-T
spawn-one-requires-send-T g c κs within = search (sendable, crosses, pass_send) depth 40 fits 100000

pub spawn-two-requires-send-F : goal.spawn-two-requires-send-F
spawn-two-requires-send-F g c κs within = search (sendable, errand_send, c.requires) depth 40 fits 100000

pub spawn-two-requires-send-T : goal.spawn-two-requires-send-T
spawn-two-requires-send-T g c κs within = search (sendable, crosses, pass_send) depth 40 fits 100000
