use Rattle.std.proofs.Common.{◌≡◌, ◌∙◌, Bool, true, false, Some, None, Ok, Err, refl, ap}
use Rattle.std.specs.Prelude.{if◌then◌else◌}
use Rattle.stm_terms.specs.UnlessNoMemory.{RefusedAs}
use Rattle.stm_machine.specs.Checkpoints.{CheckpointView}
use Rattle.stm_machine.specs.declared.checkpoint.CheckpointError.{CheckpointError}
use Rattle.stm_machine.specs.declared.checkpoint.CheckpointError.TheVariants.{TicketsFull, NoMemory}
use Rattle.stm_commands.specs.Checkpointing.{next_checkpoint_of}
use Rattle.stm_commands.proofs.open_desk.OpenDesk.next_checkpoint.Goals as goal

-- a checkpoint is made only if no tickets could run out, and refused only if they could
made_if : (b : Bool) (x y : CheckpointView) → x ≡ y → RefusedAs {A = CheckpointView} NoMemory (if b then Some TicketsFull else None) (Ok x) → Some x ≡ (if b then None else Some y)
made_if true x y is h = cc
made_if false x y is h = ap Some is

full_if : (b : Bool) (e : CheckpointError) (y : CheckpointView) → e ≡ TicketsFull → RefusedAs {A = CheckpointView} NoMemory (if b then Some TicketsFull else None) (Err e) → None ≡ (if b then None else Some y)
full_if true e y is h = refl
full_if false e y is h = cc

pub returns-in-Ok-clause-made : goal.returns-in-Ok-clause-made
returns-in-Ok-clause-made c = made_if _ c.in-Ok.checkpoint _ c.in-Ok.ensures.taken c.in-Ok.ensures.refused ∙ ap next_checkpoint_of c.self.view_is

pub returns-in-Err-TicketsFull-clause-made : goal.returns-in-Err-TicketsFull-clause-made
returns-in-Err-TicketsFull-clause-made c = full_if _ c.in-Err-TicketsFull.field-0 _ c.in-Err-TicketsFull.field-0-is c.in-Err-TicketsFull.ensures.refused ∙ ap next_checkpoint_of c.self.view_is
