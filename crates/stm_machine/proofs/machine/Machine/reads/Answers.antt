use Rattle.std.proofs.Common.{◌≡◌, ◌∙◌, Some, None, refl, sym, ap, subst}
use Rattle.std.specs.Option.{option_copied}
use Rattle.stm_waiting.specs.Entries.{kept_at}
use Rattle.stm_machine.specs.Machine.{Parts, IsAt}
use Rattle.stm_events.specs.SlowDesk.{find_waiter}
use Rattle.stm_machine.proofs.Calls.{lost}
use Rattle.stm_machine.proofs.Finishing.{has_held, no_held, present_reads}
use Rattle.stm_machine.proofs.Reading.{reads_are, reads_new, none_current, reads_now}
use Rattle.stm_machine.proofs.machine.Machine.reads.Goals as goal

pub returns-in-None-clause-then : goal.returns-in-None-clause-then
returns-in-None-clause-then c = λ s h.
    let k = subst (λ (m : Parts). IsAt m s) (sym c.self.view_is) h in
    let e : kept_at c.args.ticket c.self.inside.waiting ≡ None = sym c.get.ensures ∙ ap option_copied c.in-None.is in
    let n = lost c.args.ticket c.self.inside.waiting _ k.stands.entries_are e in
    rw n refl

pub returns-in-None-clause-present : goal.returns-in-None-clause-present
returns-in-None-clause-present c = λ s h w f d.
    let k = subst (λ (m : Parts). IsAt m s) (sym c.self.view_is) h in
    let e : kept_at c.args.ticket c.self.inside.waiting ≡ None = sym c.get.ensures ∙ ap option_copied c.in-None.is in
    let n : find_waiter c.args.ticket s.waiters ≡ None = lost c.args.ticket c.self.inside.waiting _ k.stands.entries_are e in
    cc (n, f)

pub returns-in-None-held-clause-then : goal.returns-in-None-held-clause-then
returns-in-None-held-clause-then c = λ s h.
    let k = subst (λ (m : Parts). IsAt m s) (sym c.self.view_is) h in
    let e : kept_at c.args.ticket c.self.inside.waiting ≡ Some c.in-Some.waiting.now = sym c.get.ensures ∙ ap option_copied c.in-Some.is in
    let p = no_held _ s k c.args.ticket c.in-Some.waiting.now e c.in-None-held.is in
    reads_new _ p.0 p.1 p.2

pub returns-in-None-held-clause-present : goal.returns-in-None-held-clause-present
returns-in-None-held-clause-present c = λ s h w f d.
    let k = subst (λ (m : Parts). IsAt m s) (sym c.self.view_is) h in
    let e : kept_at c.args.ticket c.self.inside.waiting ≡ Some c.in-Some.waiting.now = sym c.get.ensures ∙ ap option_copied c.in-Some.is in
    let p = no_held _ s k c.args.ticket c.in-Some.waiting.now e c.in-None-held.is in
    absurd (none_current _ p.0 w p.1 p.2 f d)

pub returns-in-Some-held-clause-then : goal.returns-in-Some-held-clause-then
returns-in-Some-held-clause-then c = λ s h.
    let k = subst (λ (m : Parts). IsAt m s) (sym c.self.view_is) h in
    let e : kept_at c.args.ticket c.self.inside.waiting ≡ Some c.in-Some.waiting.now = sym c.get.ensures ∙ ap option_copied c.in-Some.is in
    let p = has_held _ s k c.args.ticket c.in-Some.waiting.now c.in-Some-held.held e c.in-Some-held.is in
    rw c.as_slice.ensures.value (reads_are _ p.one p.since c.in-Some-held.held.reads p.found p.since_is p.holds.reads_are)

pub returns-in-Some-held-clause-present : goal.returns-in-Some-held-clause-present
returns-in-Some-held-clause-present c = λ s h w f d.
    let k = subst (λ (m : Parts). IsAt m s) (sym c.self.view_is) h in
    let e : kept_at c.args.ticket c.self.inside.waiting ≡ Some c.in-Some.waiting.now = sym c.get.ensures ∙ ap option_copied c.in-Some.is in
    let p = has_held _ s k c.args.ticket c.in-Some.waiting.now c.in-Some-held.held e c.in-Some-held.is in
    rw c.as_slice.ensures.value
    (reads_now _ s.store p.one w c.in-Some-held.held.reads p.found f (λ i. present_reads _ s k c.args.ticket c.in-Some-held.held c.in-Some.waiting.now p i) d)
