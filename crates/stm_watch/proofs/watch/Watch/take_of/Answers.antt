use Rattle.std.proofs.Common.{◌∙◌}
use Rattle.stm_watch.proofs.Sets.{has_holds, watches_one, without_one, rises}
use Rattle.stm_watch.proofs.watch.Watch.take_of.Goals as goal

pub returns-clause-done : goal.returns-clause-done
returns-clause-done c = (
  record {
    rising = rw c.into_vec.ensures.items (rises c.take_pairs.result c.into_vec.ensures.rising);
    watchers = λ t.
        rw (c.into_vec.ensures.items, c.take_pairs.ensures.was, ← c.self.view_is) (watches_one c.self.inside.table c.args.variable t);
  },
  λ v t.
      has_holds c.take_pairs.new.table v t ∙ c.take_pairs.ensures.gone v t
      ∙ rw (← c.self.view_is) (without_one c.self.inside.table c.args.variable v t),
)
