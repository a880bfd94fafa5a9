use Rattle.std.proofs.Common.{ℕ, ◌≡◌, ◌+◌, ◌∙◌, List, ◌∷◌, get_or, drop, sym, subst, arith, true, false, nat_eq}
use Rattle.std.specs.List.{list_any}
use Rattle.std.proofs.lemmas.List.{at_drop_more}
use Rattle.stm_queue.specs.Queue.{has_ticket}
use Rattle.stm_queue.specs.SortedTickets.{IsRising}
use Rattle.stm_machine.specs.QueueAndIndex.{with_tickets}
use Rattle.stm_machine.proofs.AscendingListsAreOne.{queue_next, next_rising}
use Rattle.stm_machine.proofs.index.queue_all.Goals as goal

pub loop-ticket-preserved : goal.loop-ticket-preserved
loop-ticket-preserved c =
    let ts = c.args.tickets.now in
    let i = c.loop-ticket.ticket-index in
    let es = c.loop-ticket.pending.entries in
    let t = get_or ts i 0 in
    let rest = drop (i + 1) ts in
    let all : with_tickets (drop i ts) es ≡ with_tickets (t ∷ rest) es = at_drop_more (λ (zs : List ℕ). with_tickets zs es) ts i 0 c.loop-ticket-test.true in
    let split : drop i ts ≡ t ∷ rest = at_drop_more (λ (zs : List ℕ). zs) ts i 0 c.loop-ticket-test.true in
    let rising : IsRising (t ∷ rest) = subst IsRising split c.loop-ticket.invariant.rising in
    let absent : (u : ℕ) → list_any (nat_eq u) (t ∷ rest) ≡ true → has_ticket u es ≡ false = λ u h. c.loop-ticket.invariant.absent u (subst (λ (zs : List ℕ). list_any (nat_eq u) zs ≡ true) (sym split) h) in
    rw c.add.ensures (record {
      all = sym all ∙ c.loop-ticket.invariant.all;
      rising = next_rising t rest rising;
      absent = queue_next t rest es rising absent;
      room = omega (arith, c.loop-ticket.invariant.room);
    })
