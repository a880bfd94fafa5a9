use Rattle.std.proofs.Common.{sym, ◌∙◌, refl}
use Rattle.stm_queue.proofs.InvariantPreserved.{insert_rising, member_insert}
use Rattle.stm_watch.proofs.watchers.put.Goals as goal

pub returns-then-is_above_all-clause-rising : goal.returns-then-is_above_all-clause-rising
returns-then-is_above_all-clause-rising c =
    rw (c.in_ok-push_back.ensures.items, ← c.if-is_above_all.ensures.last refl)
    (insert_rising c.args.ticket c.args.tickets.now.items c.requires (c.if-is_above_all.ensures.absent refl))

pub returns-then-is_above_all-clause-ok : goal.returns-then-is_above_all-clause-ok
returns-then-is_above_all-clause-ok c = λ u.
    rw (c.in_ok-push_back.ensures.items, ← c.if-is_above_all.ensures.last refl) (member_insert u c.args.ticket c.args.tickets.now.items)

pub returns-clause-rising : goal.returns-clause-rising
returns-clause-rising c =
    rw (c.put_in.ensures.items, c.in_ok-reserve.ensures.items)
    (insert_rising c.args.ticket c.args.tickets.now.items c.requires (sym c.has_ticket_in.ensures ∙ c.if-has_ticket_in.false))

pub returns-clause-ok : goal.returns-clause-ok
returns-clause-ok c = λ u. rw (c.put_in.ensures.items, c.in_ok-reserve.ensures.items) (member_insert u c.args.ticket c.args.tickets.now.items)
