use Rattle.std.proofs.Common.{ap, ◌∙◌, sym}
use Rattle.std.specs.Prelude.{◌&&◌, not, nat_eq}
use Rattle.std.specs.List.{list_any}
use Rattle.stm_watch.proofs.Sets.{has_holds}
use Rattle.stm_watch.proofs.watch.Watch.take_of_several.Goals as goal

pub returns-clause-done : goal.returns-clause-done
returns-clause-done c = (
  c.in_ok-tickets.ensures,
  λ v t.
      has_holds c.clear_all.new.table v t ∙ c.clear_all.ensures v t
      ∙ rw (← c.self.view_is) (ap (λ b. b && not (list_any (nat_eq v) c.args.variables.now)) (sym (has_holds c.self.inside.table v t))),
)
