-- Jobs, messages and slots may go from one thread to another. One search over a type with several blocks in it ends at its limits.
use denote.Param.Send.{IsSend, IsSync, sendable}
use Rattle.std.proofs.Crossing.{crosses}
use Rattle.std.proofs.MapsCrossing.{crosses as maps_crosses}
use Rattle.stm_terms.proofs.expr.Expr.TheLaws.TheKnot.{crosses as expr_crosses}
use Rattle.stm_terms.proofs.action.Action.TheLaws.TheKnot.{crosses as action_crosses}
use Rattle.stm_check.specs.contracts.typed.SharedBlock as shared_block
use Rattle.stm_check.specs.contracts.typed.Typed as typed
use Rattle.stm_eval.specs.contracts.job.Job as job
use Rattle.stm_eval.specs.contracts.message.Evaluated as message
use Rattle.stm_jobs.specs.contracts.slot.Slot as slot

typed_send : IsSend typed.the_row
typed_send = search (sendable, crosses, maps_crosses, action_crosses, expr_crosses) depth 30 fits 20000

typed_sync : IsSync typed.the_row
typed_sync = search (sendable, crosses, maps_crosses, action_crosses, expr_crosses) depth 30 fits 20000

pub block_send : IsSend shared_block.the_row
block_send = search (sendable, crosses, typed_send, typed_sync) depth 30

job_send : IsSend job.the_row
job_send = search (sendable, block_send) depth 30

message_send : IsSend message.the_row
message_send = search (sendable, crosses, maps_crosses, action_crosses, expr_crosses) depth 40 fits 100000

pub slot_send : IsSend slot.the_row
slot_send = search (sendable, job_send, message_send) depth 30 fits 20000
