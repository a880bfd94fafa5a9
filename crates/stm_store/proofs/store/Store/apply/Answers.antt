use Rattle.stm_store.proofs.ApplyPreservesTyping.{kept_store}
use Rattle.stm_store.proofs.store.Store.apply.Goals as goal

pub invariant_of-self-2 : goal.invariant_of-self-2
invariant_of-self-2 c =
    let f = rw (← c.self.view_is) at c.requires in
    let room = rw (← c.self.view_is) at c.in_ok-has_room.ensures.ok in
    rw c.in_ok-perform.ensures.applied (kept_store c.self.inside.cells c.args.verdict.now f c.self.invariant room)
