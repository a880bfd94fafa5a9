use Rattle.std.proofs.Common.{sym, subst}
use Rattle.stm_machine.specs.Machine.{Parts, IsAt}
use Rattle.stm_machine.proofs.Declaring.{fits_at, below_at, held_at, moves_declare}
use Rattle.stm_machine.proofs.machine.Machine.declare.Goals as goal

pub with_variable-requires : goal.with_variable-requires
with_variable-requires c =
    let s = c.requires.may.0 in
    let k = subst (λ (m : Parts). IsAt m s) (sym c.self.view_is) c.requires.may.1 in
    fits_at _ s k c.args.name.now c.args.kind c.args.value c.requires.may.2 c.requires.name

pub add-requires-clause-above : goal.add-requires-clause-above
add-requires-clause-above c =
    let s = c.requires.may.0 in
    let k = subst (λ (m : Parts). IsAt m s) (sym c.self.view_is) c.requires.may.1 in
    rw c.len-number.ensures.len (below_at _ s k c.args.name.now c.args.kind c.args.value c.requires.may.2)

pub add-requires-clause-held : goal.add-requires-clause-held
add-requires-clause-held c =
    let s = c.requires.may.0 in
    let k = subst (λ (m : Parts). IsAt m s) (sym c.self.view_is) c.requires.may.1 in
    held_at _ s k c.args.name.now c.args.kind c.args.value c.requires.may.2

pub returns-clause-done : goal.returns-clause-done
returns-clause-done c = λ z h.
    let s = c.requires.may.0 in
    let k = subst (λ (m : Parts). IsAt m s) (sym c.self.view_is) c.requires.may.1 in
    let l = subst (λ (m : Parts). IsAt m z) (sym c.self.view_is) h in
    rw (c.install-applied.ensures.cells, c.in_ok-ready.ensures, c.in_ok-add.ensures.done, c.len-number.ensures.len)
    (moves_declare _ s z c.args.name.now c.args.kind c.args.value k c.requires.name c.requires.may.2 l)
