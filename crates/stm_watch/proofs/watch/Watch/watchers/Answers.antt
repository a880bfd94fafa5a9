use Rattle.std.proofs.Common.{ℕ, List, subst}
use Rattle.std.specs.Prelude.{IfOk}
use Rattle.stm_watch.specs.Pairs.{AreWatchers}
use Rattle.stm_watch.proofs.Sets.{only_one}
use Rattle.stm_watch.proofs.watch.Watch.watchers.Goals as goal

pub returns-in-len1 : goal.returns-in-len1
returns-in-len1 c =
    subst (λ (vs : List ℕ). IfOk c.watchers_of.result (λ ts. AreWatchers c.args.self.now vs ts.items))
    (only_one c.args.variables.now _ c.in-len1.len_at_least c.in-len1.len_below) c.watchers_of.ensures
