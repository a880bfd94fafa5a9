-- What may go from one thread to another, type by type. One search over a type with several blocks in it ends at its limits.
use denote.Ref.{NamedLft}
use denote.RattleType.{RattleType}
use denote.Param.Send.{IsSend, IsSync, sendable, view_send}
use denote.Param.SendFields.{declared_send}
use Rattle.std.specs.declared.sync.ledger.Ledger.{Ghosts}
use Rattle.std.proofs.sync.ledger.Share.TheSendSync.{the_send as share_send}
use Rattle.std.proofs.sync.ledger.Book.TheSendSync.{the_send as book_send}
use Rattle.std.proofs.Crossing.{crosses, Vec-send}
use Rattle.std.proofs.MapsCrossing.{crosses as maps_crosses}
use Rattle.stm_jobs.proofs.Crosses.{block_send}
use Rattle.stm_terms.specs.contracts.verdicts.Verdict as verdict
use Rattle.stm_events.specs.contracts.kept_cause.KeptCause as kept_cause
use Rattle.stm_events.specs.contracts.label_table.LabelTable as label_table
use Rattle.stm_events.specs.contracts.shared_name.SharedName as shared_name
use Rattle.stm_events.specs.contracts.shared_verdict.SharedVerdict as shared_verdict
use Rattle.stm_events.specs.contracts.tickets.Tickets as tickets
use Rattle.stm_events.specs.contracts.event.Event as event
use Rattle.stm_waiting.specs.contracts.waiting.Held as held
use Rattle.stm_waiting.specs.contracts.waiting.Waiting as waiting
use Rattle.stm_waiting.specs.contracts.waiting.WaitingBlocks as blocks
use Rattle.stm_machine.specs.contracts.machine.Machine as machine
use Rattle.stm_machine.specs.contracts.checkpoint.CheckpointBlock as checkpoint_block
use Rattle.stm_machine.specs.contracts.checkpoint.Checkpoint as checkpoint
use Rattle.stm_store.specs.contracts.table.Table as table
use Rattle.stm_store.specs.contracts.store.Store as store
use Rattle.stm_queue.specs.contracts.pending.Pending as pending
use Rattle.stm_desk.specs.contracts.past.Past as past
use Rattle.stm_desk.specs.contracts.desk.Desk as desk
use Rattle.stm_desk.specs.contracts.desk.Desk.TheInside as desk_fields
use Rattle.stm_pool.specs.contracts.pass.Pass as pass
use Rattle.stm_pool.specs.contracts.guarded.Guarded as guarded
use Rattle.stm_pool.specs.contracts.shared.SharedDesk as shared
use Rattle.stm_script.specs.contracts.section.Section as section
use Rattle.stm_script.specs.contracts.section.Task as task
use Rattle.stm_pool.specs.contracts.threads.Errand as errand

-- ---- the desk under its lock
pub verdict_send : IsSend verdict.the_row
verdict_send = search (sendable, crosses) depth 40 fits 100000

pub verdict_sync : IsSync verdict.the_row
verdict_sync = search (sendable, crosses) depth 40 fits 100000

pub shared_verdict_send : IsSend shared_verdict.the_row
shared_verdict_send = search (sendable, crosses, verdict_send, verdict_sync) depth 30

pub tickets_send : IsSend tickets.the_row
tickets_send = search (sendable, crosses) depth 40 fits 100000

pub shared_name_send : IsSend shared_name.the_row
shared_name_send = search (sendable, crosses) depth 40 fits 100000

pub label_table_send : IsSend label_table.the_row
label_table_send = search (sendable, crosses, maps_crosses, shared_name_send) depth 30 fits 20000

pub kept_cause_send : IsSend kept_cause.the_row
kept_cause_send = search (sendable, crosses) depth 30 fits 20000

pub event_send : IsSend event.the_row
event_send = search (sendable, block_send, shared_name_send, shared_verdict_send, tickets_send) depth 40 fits 100000

pub held_send : IsSend held.the_row
held_send = search (sendable, crosses, shared_verdict_send) depth 40 fits 100000

pub waiting_send : IsSend waiting.the_row
waiting_send = search (sendable, block_send, held_send) depth 40 fits 100000

pub blocks_send : IsSend blocks.the_row
blocks_send = search (sendable, crosses, waiting_send) depth 40 fits 100000

pub table_send : IsSend table.the_row
table_send = search (sendable, crosses) depth 40 fits 100000

pub store_send : IsSend store.the_row
store_send = search (sendable, crosses) depth 120 fits 400000

pub pending_send : IsSend pending.the_row
pending_send = search (sendable, crosses) depth 40 fits 100000

pub machine_send : IsSend machine.the_row
machine_send = search (sendable, crosses, maps_crosses, store_send, blocks_send, pending_send) depth 40 fits 100000

pub checkpoint_block_send : IsSend checkpoint_block.the_row
checkpoint_block_send = declared_send checkpoint_block.the_type (search (sendable, crosses), (search (sendable, waiting_send), (search (sendable, crosses), (search (sendable, kept_cause_send) depth 20, (search (sendable, shared_name_send), tt)))))

pub checkpoint_send : IsSend checkpoint.the_row
checkpoint_send = search (sendable, crosses, store_send, checkpoint_block_send) depth 40 fits 100000

pub past_send : IsSend past.the_row
past_send = search (sendable, Vec-send, event_send) depth 40 fits 100000

-- one search over all fields ends at its limits
desk_fields_send : IsSend desk_fields.the_row
desk_fields_send = declared_send desk_fields.the_type (search (sendable, table_send) depth 20, (search (sendable, checkpoint_send) depth 20, (search sendable depth 20, (search (sendable, Vec-send, event_send) depth 20, (search (sendable, machine_send) depth 20, (search (sendable, label_table_send) depth 20, (search (sendable, past_send) depth 20, tt)))))))

pub desk_send : IsSend desk.the_row
desk_send = view_send _ _ _ _ _ desk_fields_send

module _ (L : RattleType) (g : Ghosts L.Denot) where
  pub pass_send : IsSend (pass.the_row L g)
  pass_send = search (sendable, crosses, share_send, event_send) depth 40 fits 100000

  pub guarded_send : IsSend (guarded.the_row L g)
  guarded_send = search (sendable, share_send, book_send, desk_send) depth 40 fits 100000

  pub shared_sync : IsSync (shared.the_row L g)
  shared_sync = search (sendable, crosses, guarded_send) depth 40 fits 100000

-- ---- what the threads of a storm are given
task_send : IsSend task.the_row
task_send = search (sendable, crosses, block_send) depth 40 fits 100000

pub section_send : IsSend section.the_row
section_send = search (sendable, Vec-send, task_send) depth 40 fits 100000

module _ (κ ι : NamedLft) (L R : RattleType) (g : Ghosts L.Denot) where
  pub errand_send : IsSync R → IsSend (errand.the_row κ ι L R g)
  errand_send s = search (sendable, crosses, pass_send, shared_sync) depth 40 fits 100000
