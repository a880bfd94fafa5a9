use denote.Param.Send.{sendable}
use Rattle.std.proofs.Crossing.{crosses}
use Rattle.stm_pool.proofs.Crosses.{pass_send, section_send, errand_send}
use Rattle.stm_pool.proofs.threads.fn.run_all.scope.Goals as goal

pub spawn-spawned-requires-send-F : goal.spawn-spawned-requires-send-F
spawn-spawned-requires-send-F g c κs within = search (sendable, errand_send, section_send, c.requires) depth 40 fits 100000

pub spawn-spawned-requires-send-T : goal.spawn-spawned-requires-send-T
spawn-spawned-requires-send-T g c κs within = search (sendable, crosses, pass_send) depth 40 fits 100000

pub spawn-spawned-requires-then-make_room-2-send-F : goal.spawn-spawned-requires-then-make_room-2-send-F
spawn-spawned-requires-then-make_room-2-send-F g c κs within = search (sendable, errand_send, c.requires) depth 40 fits 100000

pub spawn-spawned-requires-then-make_room-2-send-T : goal.spawn-spawned-requires-then-make_room-2-send-T
spawn-spawned-requires-then-make_room-2-send-T g c κs within = search (sendable, crosses, pass_send) depth 40 fits 100000
