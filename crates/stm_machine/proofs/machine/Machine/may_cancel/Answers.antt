use Rattle.std.proofs.Common.{◌≡◌, ◌∙◌, Some, None, refl, sym, ap, subst}
use Rattle.std.specs.Option.{option_copied}
use Rattle.stm_waiting.specs.Entries.{kept_at}
use Rattle.stm_machine.specs.Machine.{Parts, IsAt}
use Rattle.stm_machine.proofs.Calls.{waits, lost}
use Rattle.stm_machine.proofs.machine.Machine.may_cancel.Goals as goal

pub returns-in-None-clause-refused : goal.returns-in-None-clause-refused
returns-in-None-clause-refused c = λ s h.
    let k = subst (λ (m : Parts). IsAt m s) (sym c.self.view_is) h in
    let e : kept_at c.args.ticket c.self.inside.waiting ≡ None = sym c.get.ensures ∙ ap option_copied c.in-None.is in
    let n = lost c.args.ticket c.self.inside.waiting _ k.stands.entries_are e in
    rw n refl

pub returns-then-full-clause-refused : goal.returns-then-full-clause-refused
returns-then-full-clause-refused c = λ s h.
    let k = subst (λ (m : Parts). IsAt m s) (sym c.self.view_is) h in
    let e : kept_at c.args.ticket c.self.inside.waiting ≡ Some c.in-Some.field-0.now = sym c.get.ensures ∙ ap option_copied c.in-Some.is in
    let p = waits c.args.ticket _ c.self.inside.waiting _ k.stands.entries_are e in
    rw (p.found, c.if-full.true) refl

pub returns-else-full-clause-refused : goal.returns-else-full-clause-refused
returns-else-full-clause-refused c = λ s h.
    let k = subst (λ (m : Parts). IsAt m s) (sym c.self.view_is) h in
    let e : kept_at c.args.ticket c.self.inside.waiting ≡ Some c.in-Some.field-0.now = sym c.get.ensures ∙ ap option_copied c.in-Some.is in
    let p = waits c.args.ticket _ c.self.inside.waiting _ k.stands.entries_are e in
    rw (p.found, c.if-full.false) tt
