use Rattle.std.proofs.Common.{◌≡◌, ◌-◌, ◌≤◌, ◌∙◌, ℕ, true, false, length, get_or, drop, Some, None, sym, ap, subst, arith}
use Rattle.stm_events.specs.declared.event.Event.{Event}
use Rattle.stm_desk.specs.Causes.{has_in_list, last_with}
use Rattle.stm_desk.proofs.ListedReasons.{with_at, none_before}
use Rattle.stm_desk.proofs.why.find_cause.Goals as goal

pub returns-then-lists : goal.returns-then-lists
returns-then-lists c =
    let i = c.loop-i.i in
    let h = c.args.history.now in
    let e = c.index-history-i.result in
    let within : i ≤ length h = c.loop-i.invariant.within in
    let at : has_in_list c.args.ticket (get_or h (i - 1) e).what ≡ true = sym c.lists.ensures ∙ c.if-lists.true in
    let here : has_in_list c.args.ticket e.what ≡ true = subst (λ (x : Event). has_in_list c.args.ticket x.what ≡ true) (sym c.index-history-i.is) at in
    ap (λ (x : Event). Some x.what) (sym c.index-history-i.is) ∙ with_at c.args.ticket h i (i - 1) e (omega arith) (omega arith) c.index-history-i.is here c.loop-i.invariant.none

pub loop-i-preserved : goal.loop-i-preserved
loop-i-preserved c =
    let i = c.loop-i.i in
    let h = c.args.history.now in
    let e = c.index-history-i.result in
    let within : i ≤ length h = c.loop-i.invariant.within in
    let at : has_in_list c.args.ticket (get_or h (i - 1) e).what ≡ false = sym c.lists.ensures ∙ c.if-lists.false in
    let here : has_in_list c.args.ticket e.what ≡ false = subst (λ (x : Event). has_in_list c.args.ticket x.what ≡ false) (sym c.index-history-i.is) at in
    record {
      within = omega arith;
      none = none_before c.args.ticket h i (i - 1) e (omega arith) (omega arith) c.index-history-i.is here c.loop-i.invariant.none;
    }

pub returns : goal.returns
returns c =
    let start : c.loop-i.i ≡ 0 = omega arith in
    let none : last_with c.args.ticket c.args.history.now ≡ None = subst (λ (j : ℕ). last_with c.args.ticket (drop j c.args.history.now) ≡ None) start c.loop-i.invariant.none in
    sym none
