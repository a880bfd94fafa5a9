use Rattle.std.proofs.Common.{◌≡◌, length, rules}
use Rattle.stm_pool.proofs.Counted.{push_counted}
use Rattle.stm_pool.proofs.counting.counts_of.Goals as goal

pub loop-k-preserved : goal.loop-k-preserved
loop-k-preserved g c =
    let len : length c.loop-k.all.items ≡ c.loop-k.k = search rules in
    (search rules, push_counted c.args.passes.now c.loop-k.all.items c.push.new.self.items c.counts_in.result c.loop-k.k len c.in_ok-push.ensures.items c.counts_in.ensures c.loop-k.invariant.1)

pub returns-clause-each : goal.returns-clause-each
returns-clause-each g c = λ k d h. c.loop-k.invariant.1 k d (search rules)
