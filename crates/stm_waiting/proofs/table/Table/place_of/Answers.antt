use Rattle.std.proofs.Common.{◌∙◌, ap}
use Rattle.stm_waiting.specs.declared.table.TicketPlace.{TicketPlace}
use Rattle.stm_waiting.proofs.Searched.{place_found}
use Rattle.stm_waiting.proofs.table.Table.place_of.Goals as goal

pub returns-in-Some : goal.returns-in-Some
returns-in-Some c =
    ap (λ (p : TicketPlace). p.place) c.index.ensures
    ∙ place_found 0 c.in-Some.at c.args.ticket c.args.self.now.places.items c.index.result.now c.requires c.in-Some.ensures.0 c.in-Some.ensures.1
