use Rattle.std.proofs.Common.{ℕ}
use Rattle.stm_machine.specs.declared.checkpoint.CheckpointError.TheVariants.{NoMemory}
use Rattle.stm_machine.specs.Checkpoints.{CheckpointView}
use Rattle.stm_desk.specs.Checkpointed.{checkpoint_refusal}
use Rattle.stm_terms.proofs.Refused.{accepted}
use Rattle.stm_desk.proofs.Calls.{unless_memory, refused_alike}
use Rattle.stm_desk.proofs.desk.Desk.checkpoint.Goals as goal

pub returns-in-Ok-clause-refused : goal.returns-in-Ok-clause-refused
returns-in-Ok-clause-refused c = unless_memory NoMemory (checkpoint_refusal c.args.self.now) _ (accepted NoMemory (checkpoint_refusal c.args.self.now) _ c.in-Ok.ensures.refused) tt

pub returns-in-Err-clause-refused : goal.returns-in-Err-clause-refused
returns-in-Err-clause-refused c = refused_alike CheckpointView ℕ NoMemory (checkpoint_refusal c.args.self.now) c.in-Err.refused c.in-Err.ensures.refused
