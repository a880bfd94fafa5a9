use Rattle.std.proofs.Common.{◌≡◌, ◌∙◌, true, false, Some, None, refl, sym, subst, arith}
use Rattle.std.specs.Prelude.{nat_le, length}
use Rattle.std.proofs.lemmas.Bool.Decides.{nat_tests}
use Rattle.stm_store.specs.Cells.{plains}
use Rattle.stm_terms.specs.Limits.{max_waiting}
use Rattle.stm_events.specs.Refusals.{missing}
use Rattle.stm_machine.specs.Machine.{Parts, IsAt}
use Rattle.stm_machine.proofs.KeptBlocksWait.{length_due}
use Rattle.stm_machine.proofs.machine.Machine.may_submit.Goals as goal

pub returns-in-Some-clause-refused : goal.returns-in-Some-clause-refused
returns-in-Some-clause-refused c = λ s h.
    let k = subst (λ (m : Parts). IsAt m s) (sym c.self.view_is) h in
    let m : missing (plains s.store) c.args.block.now.uses ≡ Some c.in-Some.id = rw (← k.stands.store_is, ← c.block.ensures, ← c.uses.ensures) (sym c.first_missing.ensures ∙ c.in-Some.is) in
    rw m refl

pub returns-then-len-ge-MAX_WAITING-clause-refused : goal.returns-then-len-ge-MAX_WAITING-clause-refused
returns-then-len-ge-MAX_WAITING-clause-refused c = λ s h.
    let k = subst (λ (m : Parts). IsAt m s) (sym c.self.view_is) h in
    let m : missing (plains s.store) c.args.block.now.uses ≡ None = rw (← k.stands.store_is, ← c.block.ensures, ← c.uses.ensures) (sym c.first_missing.ensures ∙ c.in-None.is) in
    let l = length_due _ _ k.stands.entries_are in
    let many : nat_le max_waiting (length s.waiters) ≡ true = rw (← l) (grind (arith, nat_tests, c.len.ensures)) in
    rw (m, many) refl

pub returns-then-full-clause-refused : goal.returns-then-full-clause-refused
returns-then-full-clause-refused c = λ s h.
    let k = subst (λ (m : Parts). IsAt m s) (sym c.self.view_is) h in
    let m : missing (plains s.store) c.args.block.now.uses ≡ None = rw (← k.stands.store_is, ← c.block.ensures, ← c.uses.ensures) (sym c.first_missing.ensures ∙ c.in-None.is) in
    let l = length_due _ _ k.stands.entries_are in
    let few : nat_le max_waiting (length s.waiters) ≡ false = rw (← l) (grind (arith, nat_tests, c.len.ensures)) in
    rw (m, few, c.if-full.true) refl

pub returns-clause-refused : goal.returns-clause-refused
returns-clause-refused c = λ s h.
    let k = subst (λ (m : Parts). IsAt m s) (sym c.self.view_is) h in
    let m : missing (plains s.store) c.args.block.now.uses ≡ None = rw (← k.stands.store_is, ← c.block.ensures, ← c.uses.ensures) (sym c.first_missing.ensures ∙ c.in-None.is) in
    let l = length_due _ _ k.stands.entries_are in
    let few : nat_le max_waiting (length s.waiters) ≡ false = rw (← l) (grind (arith, nat_tests, c.len.ensures)) in
    rw (m, few, c.if-full.false) tt
