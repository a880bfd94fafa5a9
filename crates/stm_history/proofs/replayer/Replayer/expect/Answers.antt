use Rattle.std.proofs.Common.{refl, sym, ap, ◌∙◌}
use Rattle.std.specs.Prelude.{nat_le}
use Rattle.stm_terms.specs.Limits.{max_events}
use Rattle.stm_history.proofs.DueEvents.{expect_due, has_room}
use Rattle.stm_history.proofs.AllowedEvents.{ticket_left}
use Rattle.stm_history_text.specs.Starts.{state_after_start}
use Rattle.stm_history.proofs.replayer.Replayer.expect.Goals as goal

pub due-requires-clause-at : goal.due-requires-clause-at
due-requires-clause-at c =
    let f = c.requires.follows in
    let g = f.2 in
    (state_after_start f.0 f.1, g.at, λ e. ticket_left f.0 f.1 g.tickets (has_room f.1 (sym (ap (nat_le max_events) g.counted) ∙ e)))

pub returns : goal.returns
returns c = expect_due c.due.result c.args.self.now _ c.args.event.now c.requires.client refl c.due.ensures
