use Rattle.std.proofs.Common.{◌≢◌, ◌≤◌, false, refl, arith, sym, ◌∙◌}
use Rattle.std.proofs.lemmas.Bool.{false≢true}
use Rattle.stm_store.proofs.HeldTypes.{plain_held, held_at_place, nowhere_held, none_next, none_at_all}
use Rattle.stm_store.proofs.names.Names.may_have_type.Goals as goal

pub returns-then-kind-eq0 : goal.returns-then-kind-eq0
returns-then-kind-eq0 c = (λ _. plain_held c.args.self.now c.args.kind c.if-kind-eq0.true, λ _. refl)

pub returns-then-refers_to : goal.returns-then-refers_to
returns-then-refers_to c =
    let low : c.args.kind.refs ≤ 8 = omega (arith, c.if-kind-gt-MOST_REFS.false) in
    (λ _. held_at_place c.args.self.now c.loop-place.place c.kind_at.result c.args.kind c.len-place-end.ensures.known c.kind_at.ensures (sym c.refers_to.ensures ∙ c.if-refers_to.true) low, λ _. refl)

pub loop-place-preserved : goal.loop-place-preserved
loop-place-preserved c =
    none_next c.args.self.now c.loop-place.place c.kind_at.result c.args.kind c.loop-place.invariant c.kind_at.ensures (sym c.refers_to.ensures ∙ c.if-refers_to.false)

pub returns : goal.returns
returns c = (
  λ e. absurd (false≢true e),
  λ h. absurd
      (nowhere_held c.args.self.now c.args.kind c.if-kind-eq0.false (none_at_all c.args.self.now c.loop-place.place c.args.kind (let e = c.len-place-end.ensures.len in omega (arith, e, c.loop-place-test.false)) c.loop-place.invariant) h),
)
