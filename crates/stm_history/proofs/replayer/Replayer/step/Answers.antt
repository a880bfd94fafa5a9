use Rattle.std.proofs.Common.{◌≡◌, ℕ, ◌+◌, ◌<◌, Option, length, sym, ap, subst, arith}
use Rattle.std.specs.Prelude.{IfSome}
use Rattle.std.specs.Global.{Vec}
use Rattle.std.proofs.lemmas.Grind.{common_steps}
use Rattle.stm_events.specs.declared.event.Event.{Event}
use Rattle.stm_terms.specs.Limits.{max_clients, max_events}
use Rattle.stm_history_text.specs.Starts.{state_after_start}
use Rattle.stm_history.proofs.AllowedEvents.{allowed, client_low, before_full, ticket_left, follows_next}
use Rattle.stm_history.proofs.replayer.Replayer.step.Goals as goal

pub returns-then-event-ge-MAX_CLIENTS-clause-not_allowed : goal.returns-then-event-ge-MAX_CLIENTS-clause-not_allowed
returns-then-event-ge-MAX_CLIENTS-clause-not_allowed c = λ n S H h a.
    let low = client_low S H c.args.event.now.client c.args.event.now.what a in
    let few = before_full S H c.args.event.now.client c.args.event.now.what a in
    let counted = h.counted in
    grind (arith, common_steps)

pub returns-in-Err-clause-not_allowed : goal.returns-in-Err-clause-not_allowed
returns-in-Err-clause-not_allowed c = λ n S H h a. c.in-Err.ensures.not_allowed n (state_after_start S H) h.at (allowed S H c.args.event.now.client c.args.event.now.what a)

pub returns-in_ok-keep_event-in-Ok-clause-done : goal.returns-in_ok-keep_event-in-Ok-clause-done
returns-in_ok-keep_event-in-Ok-clause-done c = λ S H h.
    let counted = h.counted in
    let moved = c.in-Ok.ensures.done (state_after_start S H) h.at in
    let low : c.args.event.now.client < max_clients = (let few = c.if-event-ge-MAX_CLIENTS.false in grind (arith, common_steps)) in
    let room : length H < max_events = (let few = c.if-self-ge-MAX_EVENTS.false in grind (arith, common_steps)) in
    follows_next S H c.args.event.now c.args.self.now _ h room low moved.0 moved.1 (ap (λ (n : ℕ). n + 1) c.in-Ok.ensures.events) c.in-Ok.ensures.copied
    (λ es k. c.in_ok-keep_event-in-Ok.ensures.kept es (subst (λ (o : Option (Vec Event)). IfSome o (λ events. events.items ≡ es)) (sym c.in-Ok.ensures.kept) k))
    c.in-Ok.ensures.blocks

pub act-requires-clause-at : goal.act-requires-clause-at
act-requires-clause-at c =
    let f = c.requires in
    let g = f.2 in
    let counted = g.counted in
    let room : length f.1 < max_events = (let few = c.if-self-ge-MAX_EVENTS.false in grind (arith, common_steps)) in
    (state_after_start f.0 f.1, g.at, ticket_left f.0 f.1 g.tickets room)
