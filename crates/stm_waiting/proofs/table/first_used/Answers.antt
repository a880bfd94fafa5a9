use Rattle.std.proofs.Common.{◌∙◌, sym}
use Rattle.stm_waiting.specs.declared.table.TicketPlace.{TicketPlace}
use Rattle.stm_waiting.proofs.Searched.{unused_more, used_here, none_left}
use Rattle.stm_waiting.proofs.table.first_used.Goals as goal

pub loop-one-preserved : goal.loop-one-preserved
loop-one-preserved c =
    let d : TicketPlace = record { ticket = 0; place = 0 } in
    unused_more c.loop-one.one-index c.args.places.now c.args.slots.now d c.loop-one-test.true (sym c.is_used.ensures ∙ c.if-is_used.false) ∙ c.loop-one.invariant

pub returns-then-is_used : goal.returns-then-is_used
returns-then-is_used c =
    let d : TicketPlace = record { ticket = 0; place = 0 } in
    used_here c.loop-one.one-index c.args.places.now c.args.slots.now d c.loop-one-test.true (sym c.is_used.ensures ∙ c.if-is_used.true) ∙ c.loop-one.invariant

pub returns : goal.returns
returns c = none_left c.loop-one.one-index c.args.places.now c.args.slots.now c.loop-one-test.false ∙ c.loop-one.invariant
