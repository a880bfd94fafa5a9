use Rattle.std.proofs.Common.{sym, subst}
use Rattle.std.specs.Prelude.{IfOk}
use Rattle.stm_check.specs.TypedBlock.{IsTyped}
use Rattle.stm_events.specs.SlowDesk.{Slow}
use Rattle.stm_machine.specs.Atomic.{IsVerdictOf}
use Rattle.stm_machine.specs.Machine.{Parts, IsAt}
use Rattle.stm_machine.proofs.RunAtOnce.{is_covered, if_verdict_of}
use Rattle.stm_machine.proofs.machine.Machine.verdict_of.Goals as goal

pub try_block_in-requires : goal.try_block_in-requires
try_block_in-requires c =
    let s = c.requires.0 in
    let k = subst (λ (m : Parts). IsAt m s) (sym c.self.view_is) c.requires.1 in
    rw (c.in_ok-frozen.ensures, c.block-2.ensures) (is_covered _ s c.args.block.now k c.requires.2)

pub returns : goal.returns
returns c =
    let s = c.requires.0 in
    let k = subst (λ (m : Parts). IsAt m s) (sym c.self.view_is) c.requires.1 in
    let a = (subst IsTyped c.block.ensures c.action-action.ensures.typed).typed in
    subst (λ (m : Parts). IfOk c.try_block_in.result (λ v. (s : Slow) → IsAt m s → IsVerdictOf s c.args.block.now v c.try_block_in.new.scratch)) c.self.view_is
    (if_verdict_of _ s c.args.block.now c.in_ok-frozen.frozen c.try_block_in.new.scratch _ c.try_block_in.result k c.requires.2 c.in_ok-frozen.ensures c.len-cells.ensures.store.typed a
    (rw c.block-2.ensures at c.try_block_in.ensures.verdict) (rw c.block-2.ensures at c.try_block_in.ensures.reads))
