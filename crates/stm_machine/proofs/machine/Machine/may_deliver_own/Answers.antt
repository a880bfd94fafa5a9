use Rattle.std.proofs.Common.{◌≡◌, ◌∙◌, true, false, Some, None, refl, sym, ap, subst}
use Rattle.std.specs.Option.{option_copied}
use Rattle.stm_eval.specs.EvaluatedFields.{message_ticket, message_block, message_reads}
use Rattle.stm_events.specs.SlowDesk.{under, is_current}
use Rattle.stm_events.specs.Refusals.{differing}
use Rattle.stm_waiting.specs.Entries.{kept_at}
use Rattle.stm_machine.specs.Machine.{Parts, IsAt}
use Rattle.stm_machine.proofs.Calls.{waits, lost}
use Rattle.stm_machine.proofs.Delivery.{refused_gone, refused_same, first_already, first_full, first_overtaken, first_room, first_none, not_current, current}
use Rattle.stm_machine.proofs.machine.Machine.may_deliver_own.Goals as goal

pub returns-in-None-clause-refused : goal.returns-in-None-clause-refused
returns-in-None-clause-refused c = λ s h.
    let k = subst (λ (m : Parts). IsAt m s) (sym c.self.view_is) h in
    let m = c.args.message.now in
    let e : kept_at (message_ticket m) c.self.inside.waiting ≡ None = rw (← c.ticket-ticket.ensures) (sym c.get.ensures ∙ ap option_copied c.in-None.is) in
    refused_gone _ _ c.args.full _ (message_block m) (message_reads m) (lost (message_ticket m) c.self.inside.waiting _ k.stands.entries_are e)

pub returns-then-not-has-clause-refused : goal.returns-then-not-has-clause-refused
returns-then-not-has-clause-refused c = λ s h.
    let k = subst (λ (m : Parts). IsAt m s) (sym c.self.view_is) h in
    let m = c.args.message.now in
    let e : kept_at (message_ticket m) c.self.inside.waiting ≡ Some c.in-Some.waiting.now = rw (← c.ticket-ticket.ensures) (sym c.get.ensures ∙ ap option_copied c.in-Some.is) in
    let p = waits (message_ticket m) _ c.self.inside.waiting _ k.stands.entries_are e in
    let same = c.requires.own s h p.one p.found in
    let g = c.has.ensures ∙ rw c.ticket-ticket.ensures (k.stands.queue (message_ticket m)) in
    let q : is_current p.one ≡ true = current _ p.one c.has.result p.found g (cc c.if-not-has.true) in
    refused_same _ c.args.full _ p.one (message_block m) (message_reads m) _ _ p.found same (first_already _ c.args.full p.one (message_reads m) q) refl

pub returns-in-Some-first_read_differing-clause-refused : goal.returns-in-Some-first_read_differing-clause-refused
returns-in-Some-first_read_differing-clause-refused c = λ s h.
    let k = subst (λ (m : Parts). IsAt m s) (sym c.self.view_is) h in
    let m = c.args.message.now in
    let e : kept_at (message_ticket m) c.self.inside.waiting ≡ Some c.in-Some.waiting.now = rw (← c.ticket-ticket.ensures) (sym c.get.ensures ∙ ap option_copied c.in-Some.is) in
    let p = waits (message_ticket m) _ c.self.inside.waiting _ k.stands.entries_are e in
    let same = c.requires.own s h p.one p.found in
    let g = c.has.ensures ∙ rw c.ticket-ticket.ensures (k.stands.queue (message_ticket m)) in
    let q : is_current p.one ≡ false = not_current _ p.one c.has.result p.found g (cc c.if-not-has.false) in
    let f : differing (under s.store) (message_reads m) ≡ Some c.in-Some-first_read_differing.id = rw (← k.stands.store_is) (sym c.first_read_differing.ensures ∙ c.in-Some-first_read_differing.is) in
    refused_same _ c.args.full _ p.one (message_block m) (message_reads m) _ _ p.found same (first_overtaken _ c.args.full p.one (message_reads m) _ q f) refl

pub returns-then-full-clause-refused : goal.returns-then-full-clause-refused
returns-then-full-clause-refused c = λ s h.
    let k = subst (λ (m : Parts). IsAt m s) (sym c.self.view_is) h in
    let m = c.args.message.now in
    let e : kept_at (message_ticket m) c.self.inside.waiting ≡ Some c.in-Some.waiting.now = rw (← c.ticket-ticket.ensures) (sym c.get.ensures ∙ ap option_copied c.in-Some.is) in
    let p = waits (message_ticket m) _ c.self.inside.waiting _ k.stands.entries_are e in
    let same = c.requires.own s h p.one p.found in
    let g = c.has.ensures ∙ rw c.ticket-ticket.ensures (k.stands.queue (message_ticket m)) in
    let q : is_current p.one ≡ false = not_current _ p.one c.has.result p.found g (cc c.if-not-has.false) in
    let f : differing (under s.store) (message_reads m) ≡ None = rw (← k.stands.store_is) (sym c.first_read_differing.ensures ∙ c.in-None-first_read_differing.is) in
    refused_same _ c.args.full _ p.one (message_block m) (message_reads m) _ _ p.found same (first_full _ c.args.full p.one (message_reads m) q f c.if-full.true) refl

pub returns-else-full-clause-refused : goal.returns-else-full-clause-refused
returns-else-full-clause-refused c = λ s h.
    let k = subst (λ (m : Parts). IsAt m s) (sym c.self.view_is) h in
    let m = c.args.message.now in
    let e : kept_at (message_ticket m) c.self.inside.waiting ≡ Some c.in-Some.waiting.now = rw (← c.ticket-ticket.ensures) (sym c.get.ensures ∙ ap option_copied c.in-Some.is) in
    let p = waits (message_ticket m) _ c.self.inside.waiting _ k.stands.entries_are e in
    let same = c.requires.own s h p.one p.found in
    let g = c.has.ensures ∙ rw c.ticket-ticket.ensures (k.stands.queue (message_ticket m)) in
    let q : is_current p.one ≡ false = not_current _ p.one c.has.result p.found g (cc c.if-not-has.false) in
    let f : differing (under s.store) (message_reads m) ≡ None = rw (← k.stands.store_is) (sym c.first_read_differing.ensures ∙ c.in-None-first_read_differing.is) in
    refused_same _ c.args.full _ p.one (message_block m) (message_reads m) _ _ p.found same (first_room _ c.args.full p.one (message_reads m) q f c.if-full.false) tt

pub returns-else-full-clause-allowed : goal.returns-else-full-clause-allowed
returns-else-full-clause-allowed c = λ s h.
    let k = subst (λ (m : Parts). IsAt m s) (sym c.self.view_is) h in
    let m = c.args.message.now in
    let e : kept_at (message_ticket m) c.self.inside.waiting ≡ Some c.in-Some.waiting.now = rw (← c.ticket-ticket.ensures) (sym c.get.ensures ∙ ap option_copied c.in-Some.is) in
    let p = waits (message_ticket m) _ c.self.inside.waiting _ k.stands.entries_are e in
    let same = c.requires.own s h p.one p.found in
    let g = c.has.ensures ∙ rw c.ticket-ticket.ensures (k.stands.queue (message_ticket m)) in
    let q : is_current p.one ≡ false = not_current _ p.one c.has.result p.found g (cc c.if-not-has.false) in
    let f : differing (under s.store) (message_reads m) ≡ None = rw (← k.stands.store_is) (sym c.first_read_differing.ensures ∙ c.in-None-first_read_differing.is) in
    record { one = p.one; found = p.found; same = same; allowed = first_none _ p.one (message_reads m) q f }
