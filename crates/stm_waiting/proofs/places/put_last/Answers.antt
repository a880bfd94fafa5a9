use Rattle.std.proofs.Common.{◌≡◌, length, rules}
use Rattle.stm_waiting.proofs.Placed.{last_owned, last_others}
use Rattle.stm_waiting.proofs.places.put_last.Goals as goal

pub returns-clause-held : goal.returns-clause-held
returns-clause-held c =
    let e : c.len-len.result ≡ length c.args.slots.now.items = search rules in
    rw c.in_ok-push.ensures.items (last_owned c.len-len.result c.args.ticket c.args.waiting c.args.slots.now.items e)

pub returns-clause-others : goal.returns-clause-others
returns-clause-others c = rw c.in_ok-push.ensures.items (last_others _ c.args.slots.now.items)
