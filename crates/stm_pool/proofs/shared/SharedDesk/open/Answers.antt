use Rattle.std.proofs.Common.{◌≡◌, ℕ, ◌∙◌, ap, rules, arith}
use Rattle.std.proofs.lemmas.Grind.{common_steps}
use Rattle.stm_pool.specs.Own.{newcomers}
use Rattle.stm_pool.proofs.Newcomers.{newcomer_more}
use Rattle.stm_pool.proofs.shared.SharedDesk.open.Goals as goal

pub loop-client-preserved : goal.loop-client-preserved
loop-client-preserved g c = (
  first_of (search rules, grind (arith, common_steps)),
  first_of (search rules, grind (arith, common_steps)),
  newcomer_more c.loop-client.client c.loop-client.all.items _ _ c.loop-client.invariant.2 c.in_ok-push.ensures.items c.new_pass.ensures,
)

pub returns-clause-passes : goal.returns-clause-passes
returns-clause-passes g c =
    let all : c.loop-client.client ≡ c.args.passes = omega arith in
    c.loop-client.invariant.2 ∙ ap (λ (n : ℕ). newcomers 0 n) all
