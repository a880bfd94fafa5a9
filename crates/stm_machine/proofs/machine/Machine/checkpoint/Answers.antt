use Rattle.std.proofs.Common.{refl, sym, subst, arith}
use Rattle.stm_machine.specs.Machine.{Parts, IsAt}
use Rattle.stm_machine.proofs.CheckpointTaken.{kept_rise, taken_of, taken_right}
use Rattle.stm_machine.proofs.machine.Machine.checkpoint.Goals as goal

pub labelled_blocks-requires : goal.labelled_blocks-requires
labelled_blocks-requires c =
    let s = c.requires.at.0 in
    let k = subst (λ (m : Parts). IsAt m s) (sym c.self.view_is) c.requires.at.1 in
    kept_rise _ s k

pub invariant_of-result : goal.invariant_of-result
invariant_of-result c =
    let s = c.requires.at.0 in
    let k = subst (λ (m : Parts). IsAt m s) (sym c.self.view_is) c.requires.at.1 in
    taken_right _ s c.args.labels.now c.in_ok-share.field-0 c.in_ok-copy.field-0 _ c.in_ok-blocks.blocks.items k c.requires.labels c.requires.at.2 c.requires.at.3 (omega (arith, c.if-self-gt-MAX_NEXT.false))
    c.len-cells.ensures.store c.in_ok-share.ensures c.in_ok-copy.ensures refl c.in_ok-blocks.ensures

pub returns-clause-taken : goal.returns-clause-taken
returns-clause-taken c = λ s h.
    let k = subst (λ (m : Parts). IsAt m s) (sym c.self.view_is) h in
    taken_of _ s c.args.labels.now c.in_ok-share.field-0 c.in_ok-copy.field-0 _ c.in_ok-blocks.blocks.items k c.in_ok-share.ensures c.in_ok-copy.ensures refl c.in_ok-blocks.ensures
