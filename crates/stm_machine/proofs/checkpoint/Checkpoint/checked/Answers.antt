use Rattle.std.proofs.Common.{sym, subst}
use Rattle.stm_terms.specs.Typing.{result_type}
use Rattle.stm_store.specs.Cells.{plains, Covers}
use Rattle.stm_check.specs.TypedBlock.{IsTyped}
use Rattle.stm_machine.specs.Checkpoints.{CheckpointView, MayAdd, checkpoint_block}
use Rattle.stm_machine.specs.CheckpointEntries.{MayWait}
use Rattle.stm_machine.specs.declared.checkpoint.CheckpointBlock.{CheckpointBlock}
use Rattle.stm_machine.proofs.RightDeliveries.{is_block, may_add_block, may_wait, on_ok}
use Rattle.stm_machine.proofs.checkpoint.Checkpoint.checked.Goals as goal

pub last_delivery-requires : goal.last_delivery-requires
last_delivery-requires c =
    subst (λ (v : CheckpointView). Covers (plains v.store) c.args.block.uses) (sym c.self.view_is) (c.in_ok-may_wait.ensures.0 c.if-not-branch.false).0.2

pub returns-then-not-branch-clause-refused : goal.returns-then-not-branch-clause-refused
returns-then-not-branch-clause-refused c = λ e m.
    let may = c.in_ok-may_wait.ensures.1 (may_wait c.args.self.now c.args.ticket c.args.block c.args.delivery c.args.cause c.args.label m) in
    cc (may, c.if-not-branch.true)

pub returns-clause-may : goal.returns-clause-may
returns-clause-may c =
    let i = c.self.inside in
    let b : CheckpointBlock = checkpoint_block c.args.ticket c.args.block c.args.delivery c.args.cause c.args.label in
    let v : CheckpointView = record { store = i.store; names = i.names; next = i.next; blocks = i.blocks.items } in
    let may : MayWait v c.args.ticket c.args.block c.args.delivery c.args.cause c.args.label =
    subst (λ (x : CheckpointView). MayWait x c.args.ticket c.args.block c.args.delivery c.args.cause c.args.label) (sym c.self.view_is) (c.in_ok-may_wait.ensures.0 c.if-not-branch.false) in
    let typed = (subst IsTyped c.block-2.ensures c.action-action.ensures.typed).typed in
    on_ok _ _ c.last_delivery.result
    (λ right. subst (λ (x : CheckpointView). MayAdd x b) c.self.view_is (may_add_block v c.args.ticket c.args.block c.args.delivery c.args.cause c.args.label c.self.invariant may (result_type c.args.block.result_type, typed) right))
    c.last_delivery.ensures.right

pub returns-clause-refused : goal.returns-clause-refused
returns-clause-refused c = λ e m.
    let i = c.self.inside in
    let b : CheckpointBlock = checkpoint_block c.args.ticket c.args.block c.args.delivery c.args.cause c.args.label in
    let v : CheckpointView = record { store = i.store; names = i.names; next = i.next; blocks = i.blocks.items } in
    c.last_delivery.ensures.refused e (is_block v b (subst (λ (x : CheckpointView). MayAdd x b) (sym c.self.view_is) m)).delivery
