use Rattle.std.proofs.Common.{◌-◌, ◌∙◌, List, ap, length, drop, length-drop, arith}
use Rattle.std.proofs.lemmas.List.{take_all}
use Rattle.stm_waiting.specs.declared.table.TicketPlace.{TicketPlace}
use Rattle.stm_waiting.specs.Places.{entries_at, first_listed}
use Rattle.stm_waiting.proofs.Searched.{above_count}
use Rattle.stm_waiting.proofs.table.Table.next_held.Goals as goal

pub returns : goal.returns
returns c =
    let ps = c.args.self.now.places.items in
    let n = c.count_up_to-start.result in
    let long = length-drop n ps in
    rw c.deref.ensures.value at c.first_used.ensures
    ∙ ap (λ (qs : List TicketPlace). first_listed (entries_at qs c.args.slots.now)) (take_all (length ps - n) (drop n ps) (omega arith))
    ∙ above_count c.args.after n ps c.args.slots.now c.count_up_to-start.ensures
