use Rattle.std.proofs.Common.{◌≡◌, ◌∙◌, true, false, List, Some, None, refl, sym, ap, subst}
use Rattle.std.specs.Option.{option_copied}
use Rattle.stm_store.specs.declared.cell.Cell.{Cell}
use Rattle.stm_check.specs.TypedBlock.{IsTyped}
use Rattle.stm_events.specs.SlowDesk.{is_blocks}
use Rattle.stm_waiting.specs.Entries.{kept_at}
use Rattle.stm_machine.specs.Machine.{Parts, IsAt}
use Rattle.stm_events.specs.Refusals.{overflows}
use Rattle.stm_machine.proofs.Calls.{lost}
use Rattle.stm_machine.proofs.Finishing.{no_ticket, not_evaluated, first_stale, first_blocks, first_rest, has_held, no_held, is_stale, is_fresh, present, is_plan}
use Rattle.stm_machine.proofs.machine.Machine.plan.Goals as goal

pub returns-in-None-clause-refused : goal.returns-in-None-clause-refused
returns-in-None-clause-refused c = λ s h.
    let k = subst (λ (m : Parts). IsAt m s) (sym c.self.view_is) h in
    let e : kept_at c.args.ticket c.self.inside.waiting ≡ None = sym c.get.ensures ∙ ap option_copied c.in-None.is in
    rw (no_ticket _ c.args.full _ (lost c.args.ticket c.self.inside.waiting _ k.stands.entries_are e)) refl

pub returns-in-None-held-clause-refused : goal.returns-in-None-held-clause-refused
returns-in-None-held-clause-refused c = λ s h.
    let k = subst (λ (m : Parts). IsAt m s) (sym c.self.view_is) h in
    let e : kept_at c.args.ticket c.self.inside.waiting ≡ Some c.in-Some.waiting.now = sym c.get.ensures ∙ ap option_copied c.in-Some.is in
    let p = no_held _ s k c.args.ticket c.in-Some.waiting.now e c.in-None-held.is in
    rw (not_evaluated _ c.args.full _ p.0 p.1 p.2) refl

pub returns-then-has-clause-refused : goal.returns-then-has-clause-refused
returns-then-has-clause-refused c = λ s h.
    let k = subst (λ (m : Parts). IsAt m s) (sym c.self.view_is) h in
    let e : kept_at c.args.ticket c.self.inside.waiting ≡ Some c.in-Some.waiting.now = sym c.get.ensures ∙ ap option_copied c.in-Some.is in
    let p = has_held _ s k c.args.ticket c.in-Some.waiting.now c.in-Some-held.held e c.in-Some-held.is in
    let q = is_stale _ s k c.args.ticket c.in-Some-held.held c.in-Some.waiting.now c.has.result p c.has.ensures c.if-has.true in
    rw (first_stale _ c.args.full _ p.one p.since p.found p.since_is q) refl

pub returns-then-blocks-clause-refused : goal.returns-then-blocks-clause-refused
returns-then-blocks-clause-refused c = λ s h.
    let k = subst (λ (m : Parts). IsAt m s) (sym c.self.view_is) h in
    let e : kept_at c.args.ticket c.self.inside.waiting ≡ Some c.in-Some.waiting.now = sym c.get.ensures ∙ ap option_copied c.in-Some.is in
    let p = has_held _ s k c.args.ticket c.in-Some.waiting.now c.in-Some-held.held e c.in-Some-held.is in
    let q = is_fresh _ s k c.args.ticket c.in-Some-held.held c.in-Some.waiting.now c.has.result p c.has.ensures c.if-has.false in
    let v = present _ s k c.args.ticket c.in-Some-held.held c.in-Some.waiting.now p q in
    rw (first_blocks _ c.args.full _ p.one p.since c.in-Some-held.held.verdict p.found p.since_is q v (ap is_blocks (sym c.verdict-verdict.ensures) ∙ sym c.blocks-2.ensures ∙ c.if-blocks.true)) refl

pub returns-then-full-clause-refused : goal.returns-then-full-clause-refused
returns-then-full-clause-refused c = λ s h.
    let k = subst (λ (m : Parts). IsAt m s) (sym c.self.view_is) h in
    let e : kept_at c.args.ticket c.self.inside.waiting ≡ Some c.in-Some.waiting.now = sym c.get.ensures ∙ ap option_copied c.in-Some.is in
    let p = has_held _ s k c.args.ticket c.in-Some.waiting.now c.in-Some-held.held e c.in-Some-held.is in
    let q = is_fresh _ s k c.args.ticket c.in-Some-held.held c.in-Some.waiting.now c.has.result p c.has.ensures c.if-has.false in
    let v = present _ s k c.args.ticket c.in-Some-held.held c.in-Some.waiting.now p q in
    let b = ap is_blocks (sym c.verdict-verdict.ensures) ∙ sym c.blocks-2.ensures ∙ c.if-blocks.false in
    let o = first_rest s.store c.args.full _ p.one p.since c.in-Some-held.held.verdict p.found p.since_is q v b in
    rw (o, c.if-full.true) refl

pub returns-then-overflows_store-clause-refused : goal.returns-then-overflows_store-clause-refused
returns-then-overflows_store-clause-refused c = λ s h.
    let k = subst (λ (m : Parts). IsAt m s) (sym c.self.view_is) h in
    let e : kept_at c.args.ticket c.self.inside.waiting ≡ Some c.in-Some.waiting.now = sym c.get.ensures ∙ ap option_copied c.in-Some.is in
    let p = has_held _ s k c.args.ticket c.in-Some.waiting.now c.in-Some-held.held e c.in-Some-held.is in
    let q = is_fresh _ s k c.args.ticket c.in-Some-held.held c.in-Some.waiting.now c.has.result p c.has.ensures c.if-has.false in
    let v = present _ s k c.args.ticket c.in-Some-held.held c.in-Some.waiting.now p q in
    let b = ap is_blocks (sym c.verdict-verdict.ensures) ∙ sym c.blocks-2.ensures ∙ c.if-blocks.false in
    let o = first_rest s.store c.args.full _ p.one p.since c.in-Some-held.held.verdict p.found p.since_is q v b in
    let room : overflows s.store (Some c.in-Some-held.held.verdict) ≡ true = subst (λ (z : List Cell). overflows z (Some c.in-Some-held.held.verdict) ≡ true) k.stands.store_is (ap (λ v. overflows c.self.inside.store (Some v)) (sym c.verdict-verdict.ensures) ∙ sym c.overflows_store.ensures ∙ c.if-overflows_store.true) in
    rw (o, c.if-full.false, room) refl

pub returns-in-Ok-clause-refused : goal.returns-in-Ok-clause-refused
returns-in-Ok-clause-refused c = λ s h.
    let k = subst (λ (m : Parts). IsAt m s) (sym c.self.view_is) h in
    let e : kept_at c.args.ticket c.self.inside.waiting ≡ Some c.in-Some.waiting.now = sym c.get.ensures ∙ ap option_copied c.in-Some.is in
    let p = has_held _ s k c.args.ticket c.in-Some.waiting.now c.in-Some-held.held e c.in-Some-held.is in
    let q = is_fresh _ s k c.args.ticket c.in-Some-held.held c.in-Some.waiting.now c.has.result p c.has.ensures c.if-has.false in
    let v = present _ s k c.args.ticket c.in-Some-held.held c.in-Some.waiting.now p q in
    let b = ap is_blocks (sym c.verdict-verdict.ensures) ∙ sym c.blocks-2.ensures ∙ c.if-blocks.false in
    let o = first_rest s.store c.args.full _ p.one p.since c.in-Some-held.held.verdict p.found p.since_is q v b in
    let room : overflows s.store (Some c.in-Some-held.held.verdict) ≡ false = subst (λ (z : List Cell). overflows z (Some c.in-Some-held.held.verdict) ≡ false) k.stands.store_is (ap (λ v. overflows c.self.inside.store (Some v)) (sym c.verdict-verdict.ensures) ∙ sym c.overflows_store.ensures ∙ c.if-overflows_store.false) in
    rw (o, c.if-full.false, room) tt

pub returns-in-Err-clause-refused : goal.returns-in-Err-clause-refused
returns-in-Err-clause-refused c = λ s h.
    let k = subst (λ (m : Parts). IsAt m s) (sym c.self.view_is) h in
    let e : kept_at c.args.ticket c.self.inside.waiting ≡ Some c.in-Some.waiting.now = sym c.get.ensures ∙ ap option_copied c.in-Some.is in
    let p = has_held _ s k c.args.ticket c.in-Some.waiting.now c.in-Some-held.held e c.in-Some-held.is in
    let q = is_fresh _ s k c.args.ticket c.in-Some-held.held c.in-Some.waiting.now c.has.result p c.has.ensures c.if-has.false in
    let v = present _ s k c.args.ticket c.in-Some-held.held c.in-Some.waiting.now p q in
    let b = ap is_blocks (sym c.verdict-verdict.ensures) ∙ sym c.blocks-2.ensures ∙ c.if-blocks.false in
    let o = first_rest s.store c.args.full _ p.one p.since c.in-Some-held.held.verdict p.found p.since_is q v b in
    let room : overflows s.store (Some c.in-Some-held.held.verdict) ≡ false = subst (λ (z : List Cell). overflows z (Some c.in-Some-held.held.verdict) ≡ false) k.stands.store_is (ap (λ v. overflows c.self.inside.store (Some v)) (sym c.verdict-verdict.ensures) ∙ sym c.overflows_store.ensures ∙ c.if-overflows_store.false) in
    rw (o, c.if-full.false, room) refl

pub returns-in-Ok-clause-plan : goal.returns-in-Ok-clause-plan
returns-in-Ok-clause-plan c = λ s h.
    let k = subst (λ (m : Parts). IsAt m s) (sym c.self.view_is) h in
    let e : kept_at c.args.ticket c.self.inside.waiting ≡ Some c.in-Some.waiting.now = sym c.get.ensures ∙ ap option_copied c.in-Some.is in
    let p = has_held _ s k c.args.ticket c.in-Some.waiting.now c.in-Some-held.held e c.in-Some-held.is in
    let q = is_fresh _ s k c.args.ticket c.in-Some-held.held c.in-Some.waiting.now c.has.result p c.has.ensures c.if-has.false in
    let a = (subst IsTyped c.block.ensures c.action-action.ensures.typed).typed in
    is_plan _ s k c.args.ticket c.in-Some-held.held c.in-Some.waiting.now _ p c.in-Ok.plan.verdict c.in-Ok.plan.first_new c.in-Ok.plan.stale
    q c.len-cells.ensures.store.typed a (ap is_blocks (sym c.verdict-verdict.ensures) ∙ sym c.blocks-2.ensures ∙ c.if-blocks.false) (ap (λ v. overflows c.self.inside.store (Some v)) (sym c.verdict-verdict.ensures) ∙ sym c.overflows_store.ensures ∙ c.if-overflows_store.false)
    c.in-Ok.ensures.verdict c.in-Ok.ensures.first_new c.in-Ok.ensures.rising c.in-Ok.ensures.watchers
