use Rattle.std.proofs.Common.{ℕ, List, Option, sym, subst}
use Rattle.stm_events.specs.declared.kept_cause.KeptCause.{KeptCause}
use Rattle.stm_events.specs.KeptCauses.{kept_cause_of}
use Rattle.stm_machine.specs.declared.checkpoint.CheckpointBlock.{CheckpointBlock}
use Rattle.stm_machine.specs.Checkpoints.{CheckpointView, IsCheckpoint, MayHaveCauses}
use Rattle.stm_machine.proofs.CheckpointLabels.{causes_leave_checkpoints}
use Rattle.stm_machine.proofs.checkpoint.Checkpoint.with_causes.Goals as goal

pub invariant_of-result : goal.invariant_of-result
invariant_of-result c =
    let i = c.self.inside in
    let v : CheckpointView = record { store = i.store; names = i.names; next = i.next; blocks = i.blocks.items } in
    let causes : ℕ → Option KeptCause = λ t. kept_cause_of t c.args.causes.now in
    let may : MayHaveCauses v.store v.next causes v.blocks = subst (λ (x : CheckpointView). MayHaveCauses x.store x.next causes x.blocks) (sym c.self.view_is) c.requires in
    subst (λ (bs : List CheckpointBlock). IsCheckpoint (record { store = i.store; names = i.names; next = i.next; blocks = bs })) (sym c.in_ok-all_caused.ensures)
    (causes_leave_checkpoints causes v may c.self.invariant).0
