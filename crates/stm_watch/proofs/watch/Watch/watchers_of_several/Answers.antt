use Rattle.std.proofs.Common.{sym, ap, ◌∙◌}
use Rattle.std.specs.Prelude.{nat_eq}
use Rattle.std.specs.List.{list_any}
use Rattle.std.proofs.lemmas.List.Filters.{dedup_is}
use Rattle.std.proofs.lemmas.List.Sorted.{list_any-IsPermutation}
use Rattle.std.proofs.lemmas.Map.Keys.{IsStrictlyIncreasing-dedup}
use Rattle.stm_watch.proofs.Sets.{any_dedup, watches_holds}
use Rattle.stm_watch.proofs.watch.Watch.watchers_of_several.Goals as goal

pub returns : goal.returns
returns c =
    let is = dedup_is _ _ _ c.dedup.ensures.filtered in
    record {
      rising = rw is (IsStrictlyIncreasing-dedup _ c.sort_unstable.ensures.sorted);
      watchers = λ t.
          ap (list_any (nat_eq t)) is ∙ any_dedup c.sort_unstable.new.self.items t
          ∙ sym (list_any-IsPermutation (nat_eq t) _ _ c.sort_unstable.ensures.permutation)
          ∙ c.in_ok-push_watchers.ensures t
          ∙ rw (c.new-tickets.ensures.items, ← c.self.view_is) (sym (watches_holds c.self.inside.table c.args.variables.now t));
    }
