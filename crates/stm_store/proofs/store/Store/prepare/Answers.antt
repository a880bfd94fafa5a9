use Rattle.stm_store.proofs.ApplyPreservesTyping.{kept_store}
use Rattle.stm_store.proofs.store.Store.prepare.Goals as goal

pub invariant_of-result : goal.invariant_of-result
invariant_of-result c =
    let f = rw (← c.self.view_is) at c.requires in
    let room = rw (← c.self.view_is) at c.in_ok-has_room.ensures.ok in
    rw (c.in_ok-applied.ensures.applied, c.in_ok-cells.ensures) (kept_store c.self.inside.cells c.args.verdict.now f c.self.invariant room)
