use Rattle.std.proofs.Common.{◌≡◌, ◌++◌, ◌∙◌, ◌≤◌, [], List, ℕ, Ok, length, ap, subst, refl, arith, length-append}
use Rattle.std.proofs.KnownBytes.{Consumes-trans}
use Rattle.std.proofs.lemmas.Result.{err_from_is_err_and}
use Rattle.stm_history.specs.Stages.{Reached}
use Rattle.stm_history.proofs.LineByLine.{all_taken, nothing_begun, nothing_taken, stops_after, tells_after}
use Rattle.stm_history.proofs.check.read_lines.Goals as goal

pub lines-init : goal.lines-init
lines-init g c =
    let none = nothing_begun _ _ _ c.requires.reached in
    let empty : length c.args.lines.now.chunk ≡ 0 = ap (λ (l : List ℕ). length l) c.requires.chunk in
    let few : c.args.calls.now.left ≤ 4294967295 = c.requires.left in
    record {
      reached = ([], nothing_taken _ _ c.requires.chunk, subst (λ (l : List ℕ). Reached c.args.checker.now.stage c.args.checker.now.whole l []) none c.requires.reached, omega arith);
      none = none;
      keeps = refl;
    }

pub take_next-requires-clause-reached : goal.take_next-requires-clause-reached
take_next-requires-clause-reached g c = let k = c.lines.invariant.reached in (k.0, k.2, omega (arith, k.3))

pub returns-in_err-take_next-clause-fault : goal.returns-in_err-take_next-clause-fault
returns-in_err-take_next-clause-fault g c =
    let p = err_from_is_err_and c.from_residual.result c.from_residual.ensures.1 in
    let k = c.lines.invariant.reached in
    rw (p.1, p.2) (tells_after _ _ _ _ _ _ k.0 k.1 k.2 c.in_err-take_next.ensures.fault)

pub returns-in_err-take_next-clause-stops : goal.returns-in_err-take_next-clause-stops
returns-in_err-take_next-clause-stops g c =
    let p = err_from_is_err_and c.from_residual.result c.from_residual.ensures.1 in
    let k = c.lines.invariant.reached in
    rw (p.1, p.2) (stops_after _ _ _ _ _ _ k.0 k.1 k.2 c.in_err-take_next.ensures.fault)

pub returns-then-not-branch-clause-done : goal.returns-then-not-branch-clause-done
returns-then-not-branch-clause-done g c =
    let k = c.lines.invariant.reached in
    let r = rw c.if-not-branch.true at c.in_ok-take_next.ensures.taken in
    (k.0 ++ r.0, all_taken _ _ _ _ k.1 r.1, r.2 k.0 k.2)

pub lines-preserved : goal.lines-preserved
lines-preserved g c =
    let k = c.lines.invariant.reached in
    let r = rw c.if-not-branch.false at c.in_ok-take_next.ensures.taken in
    record {
      reached = (k.0 ++ r.bytes, Consumes-trans _ _ _ _ _ k.1 r.consumed, r.reached k.0 k.2, omega (arith, k.3, r.few, length-append k.0 r.bytes));
      none = c.in_ok-take_next.ensures.none (ap (λ x. Ok x) c.if-not-branch.false);
      keeps = c.in_ok-take_next.ensures.keeps ∙ c.lines.invariant.keeps;
    }

pub lines-smaller : goal.lines-smaller
lines-smaller g c =
    let r = rw c.if-not-branch.false at c.in_ok-take_next.ensures.taken in
    omega (arith, r.some, r.few)
