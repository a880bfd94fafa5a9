use Rattle.std.proofs.Common.{◌+◌, ◌∙◌, sym, ap, drop, get_or}
use Rattle.std.specs.Prelude.{◌&&◌, ◌||◌, not, nat_eq}
use Rattle.std.specs.List.{list_any}
use Rattle.std.proofs.lemmas.List.{at_drop_more}
use Rattle.stm_watch.specs.Tabled.{holds}
use Rattle.stm_watch.proofs.Sets.{one_more, one_of_all, in_whole}
use Rattle.stm_watch.proofs.pairs.add_all.Goals as goal

pub loop-variable-preserved : goal.loop-variable-preserved
loop-variable-preserved c =
    let vs = c.args.variables.now in
    let i = c.loop-variable.variable-index in
    let old = c.loop-variable.table in
    let k = c.args.ticket in (
      (λ v t.
          ap (λ b. b || (nat_eq t k && list_any (nat_eq v) (drop (i + 1) vs))) (c.in_ok-add_pair.ensures.ok v t)
          ∙ one_more (holds old v t) (nat_eq v (get_or vs i 0)) (nat_eq t k) (list_any (nat_eq v) (drop (i + 1) vs))
          ∙ ap (λ b. holds old v t || (nat_eq t k && b)) (sym (at_drop_more (list_any (nat_eq v)) vs i 0 c.loop-variable-test.true))
          ∙ c.loop-variable.invariant.0 v t),
      (λ v t.
          ap (λ b. b && not (nat_eq t k && list_any (nat_eq v) vs)) (c.in_ok-add_pair.ensures.ok v t)
          ∙ one_of_all (holds old v t) (nat_eq v (get_or vs i 0)) (nat_eq t k) (list_any (nat_eq v) vs) (in_whole v i vs c.loop-variable-test.true)
          ∙ c.loop-variable.invariant.1 v t),
    )
