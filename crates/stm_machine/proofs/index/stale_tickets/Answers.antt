use Rattle.std.proofs.Common.{ℕ, ◌∙◌, not, ◌&&◌, Bool, List, ap, nat_eq}
use Rattle.stm_watch.specs.Pairs.{watches}
use Rattle.stm_queue.proofs.InvariantPreserved.{delete_rising, member_delete}
use Rattle.stm_machine.proofs.AscendingListsAreOne.{rises}
use Rattle.stm_machine.proofs.index.stale_tickets.Goals as goal

pub returns-clause-rising : goal.returns-clause-rising
returns-clause-rising c =
    rw c.drop_ticket.ensures (delete_rising c.args.ticket c.in_ok-tickets.tickets.items (rises c.in_ok-tickets.tickets.items c.in_ok-tickets.ensures.rising))

pub returns-clause-watchers : goal.returns-clause-watchers
returns-clause-watchers c = λ u.
    rw c.drop_ticket.ensures
    (member_delete u c.args.ticket c.in_ok-tickets.tickets.items
    ∙ ap (λ (b : Bool). not (nat_eq u c.args.ticket) && b)
    (c.in_ok-tickets.ensures.watchers u ∙ ap (λ (vs : List ℕ). watches c.args.watch.now vs u) (c.deref.ensures.value ∙ c.in_ok-variables.ensures)))
