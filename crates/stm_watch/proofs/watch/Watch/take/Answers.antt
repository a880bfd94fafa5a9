use Rattle.std.proofs.Common.{ℕ, List, subst}
use Rattle.std.specs.Prelude.{IfOk}
use Rattle.stm_watch.specs.Pairs.{AreWatchers, WithoutVariables}
use Rattle.stm_watch.proofs.Sets.{only_one}
use Rattle.stm_watch.proofs.watch.Watch.take.Goals as goal

pub returns-in-len1-clause-done : goal.returns-in-len1-clause-done
returns-in-len1-clause-done c =
    subst (λ (vs : List ℕ). IfOk c.take_of.result (λ ts. AreWatchers c.args.self.now vs ts.items × WithoutVariables c.args.self.now vs c.take_of.new.self))
    (only_one c.args.variables.now _ c.in-len1.len_at_least c.in-len1.len_below) c.take_of.ensures.done
