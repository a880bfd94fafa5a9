use Rattle.std.proofs.Common.{◌<◌, ◌∙◌, sym, ap, length, rules, ◌+◌, ◌-◌, ◌%◌}
use Rattle.stm_waiting.specs.declared.table.TicketPlace.{TicketPlace}
use Rattle.stm_waiting.proofs.Searched.{ticket_get}
use Rattle.stm_waiting.proofs.table.Table.recent.Goals as goal

pub returns-then-index-ticket : goal.returns-then-index-ticket
returns-then-index-ticket c =
    let inside : (c.args.ticket + (18446744073709551616 - c.args.self.now.shift)) % 18446744073709551616 < length c.args.self.now.places.items = search rules in
    (inside, ticket_get _ c.args.self.now.places.items c.index.result.now inside ∙ ap (λ (p : TicketPlace). p.ticket) (sym c.index.ensures) ∙ c.if-index-ticket.true)
