use Rattle.std.proofs.Common.{◌≡◌, ◌∙◌, Some, None, refl, sym, ap, subst}
use Rattle.std.specs.Option.{option_copied}
use Rattle.stm_waiting.specs.Entries.{kept_at}
use Rattle.stm_machine.specs.Machine.{Parts, IsAt}
use Rattle.stm_machine.proofs.Calls.{lost}
use Rattle.stm_machine.proofs.Finishing.{has_held, no_held, is_stale, is_fresh, present}
use Rattle.stm_machine.proofs.Reading.{stands_new, stands_stale, stands_current}
use Rattle.stm_machine.proofs.machine.Machine.status.Goals as goal

pub returns-in-None : goal.returns-in-None
returns-in-None c = λ s h.
    let k = subst (λ (m : Parts). IsAt m s) (sym c.self.view_is) h in
    let e : kept_at c.args.ticket c.self.inside.waiting ≡ None = sym c.get.ensures ∙ ap option_copied c.in-None.is in
    let n = lost c.args.ticket c.self.inside.waiting _ k.stands.entries_are e in
    rw n refl

pub returns-in-None-held : goal.returns-in-None-held
returns-in-None-held c = λ s h.
    let k = subst (λ (m : Parts). IsAt m s) (sym c.self.view_is) h in
    let e : kept_at c.args.ticket c.self.inside.waiting ≡ Some c.in-Some.waiting.now = sym c.get.ensures ∙ ap option_copied c.in-Some.is in
    let p = no_held _ s k c.args.ticket c.in-Some.waiting.now e c.in-None-held.is in
    stands_new _ _ p.0 p.1 p.2

pub returns-then-has : goal.returns-then-has
returns-then-has c = λ s h.
    let k = subst (λ (m : Parts). IsAt m s) (sym c.self.view_is) h in
    let e : kept_at c.args.ticket c.self.inside.waiting ≡ Some c.in-Some.waiting.now = sym c.get.ensures ∙ ap option_copied c.in-Some.is in
    let p = has_held _ s k c.args.ticket c.in-Some.waiting.now c.in-Some-held.held e c.in-Some-held.is in
    let q = is_stale _ s k c.args.ticket c.in-Some-held.held c.in-Some.waiting.now c.has.result p c.has.ensures c.if-has.true in
    rw c.verdict.ensures (stands_stale _ _ p.one p.since c.in-Some-held.held.verdict p.found p.since_is q p.holds.verdict_is)

pub returns-else-has : goal.returns-else-has
returns-else-has c = λ s h.
    let k = subst (λ (m : Parts). IsAt m s) (sym c.self.view_is) h in
    let e : kept_at c.args.ticket c.self.inside.waiting ≡ Some c.in-Some.waiting.now = sym c.get.ensures ∙ ap option_copied c.in-Some.is in
    let p = has_held _ s k c.args.ticket c.in-Some.waiting.now c.in-Some-held.held e c.in-Some-held.is in
    let q = is_fresh _ s k c.args.ticket c.in-Some-held.held c.in-Some.waiting.now c.has.result p c.has.ensures c.if-has.false in
    let v = present _ s k c.args.ticket c.in-Some-held.held c.in-Some.waiting.now p q in
    rw c.verdict-else-has.ensures (stands_current _ _ p.one c.in-Some-held.held.verdict p.found q v)
