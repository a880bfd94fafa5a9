use Rattle.std.proofs.Common.{◌∙◌, ◌<◌, ℕ, sym, ap, subst}
use Rattle.std.specs.Option.{option_copied}
use Rattle.stm_machine.proofs.CheckpointTaken.{walk_next, not_ended, no_gap, next_walked}
use Rattle.stm_machine.proofs.restored.waiting_blocks.Goals as goal

pub unreachable-requires : goal.unreachable-requires
unreachable-requires c =
    let next = walk_next c.args.pending.now.entries c.args.waiting.now c.loop.counter c.loop.after c.loop.blocks.items c.loop.invariant (subst (λ (n : ℕ). c.loop.counter < n) c.len-end.ensures c.loop-test.true) in
    no_gap _ c.args.waiting.now _ c.loop.after _ c.in-Some.ticket next (sym c.first_above.ensures ∙ c.in-Some.is) (sym c.get.ensures ∙ ap option_copied c.in-None-get.is)

pub unreachable-requires-in-None : goal.unreachable-requires-in-None
unreachable-requires-in-None c =
    let next = walk_next c.args.pending.now.entries c.args.waiting.now c.loop.counter c.loop.after c.loop.blocks.items c.loop.invariant (subst (λ (n : ℕ). c.loop.counter < n) c.len-end.ensures c.loop-test.true) in
    not_ended _ c.args.waiting.now _ c.loop.after _ next (sym c.first_above.ensures ∙ c.in-None.is)

pub loop-preserved : goal.loop-preserved
loop-preserved c =
    let next = walk_next c.args.pending.now.entries c.args.waiting.now c.loop.counter c.loop.after c.loop.blocks.items c.loop.invariant (subst (λ (n : ℕ). c.loop.counter < n) c.len-end.ensures c.loop-test.true) in
    next_walked c.args.pending.now.entries c.args.waiting.now c.loop.counter c.loop.after c.loop.blocks.items _ c.in-Some.ticket c.in-Some-get.one.now next (sym c.first_above.ensures ∙ c.in-Some.is)
    (sym c.get.ensures ∙ ap option_copied c.in-Some-get.is)
    (rw c.in_ok-block_under-in-Some-get.ensures at c.in_ok-push-in-Some-get.ensures.items)
