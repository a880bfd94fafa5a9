use Rattle.std.proofs.Common.{◌-◌, ◌∙◌, sym, subst, arith}
use Rattle.stm_waiting.specs.declared.table.TicketPlace.{TicketPlace}
use Rattle.stm_waiting.specs.Places.{IsCountUpTo}
use Rattle.stm_waiting.proofs.Searched.{none_up_to, place_found, other_up_to, ticket_get}
use Rattle.stm_waiting.proofs.table.searched_place.Goals as goal

pub returns-then-count-eq0 : goal.returns-then-count-eq0
returns-then-count-eq0 c = none_up_to c.args.ticket _ c.args.places.now c.if-count-eq0.true c.searched_count-count.ensures

pub returns-then-one-ticket : goal.returns-then-one-ticket
returns-then-one-ticket c =
    let n = c.searched_count-count.result in
    let k = c.searched_count-count.ensures in
    let w = k.within in
    let d : TicketPlace = record { ticket = 0; place = 0 } in
    let some = c.if-count-eq0.false in
    place_found 0 (n - 1) c.args.ticket c.args.places.now d c.requires (omega arith) (ticket_get (n - 1) c.args.places.now d (omega arith) ∙ c.if-one-ticket.true)

pub returns-else-one-ticket : goal.returns-else-one-ticket
returns-else-one-ticket c =
    let n = c.searched_count-count.result in
    let k = c.searched_count-count.ensures in
    let w = k.within in
    let d : TicketPlace = record { ticket = 0; place = 0 } in
    let some = c.if-count-eq0.false in
    other_up_to c.args.ticket (n - 1) c.args.places.now c.requires (subst (IsCountUpTo c.args.ticket c.args.places.now) (omega arith) k)
    (λ e. c.if-one-ticket.false (sym (ticket_get (n - 1) c.args.places.now d (omega arith)) ∙ e))
