use Rattle.stm_watch.proofs.Sets.{watches_one, rises}
use Rattle.stm_watch.proofs.watch.Watch.watchers_of.Goals as goal

pub returns : goal.returns
returns c = record {
  rising = rw (c.in_ok-push_watchers_of.ensures.pushed, c.new-tickets.ensures.items) (rises _ c.in_ok-push_watchers_of.ensures.rising);
  watchers = λ t.
      rw (c.in_ok-push_watchers_of.ensures.pushed, c.new-tickets.ensures.items, ← c.self.view_is) (watches_one c.self.inside.table c.args.variable t);
}
