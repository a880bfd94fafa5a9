use Rattle.std.proofs.Common.{ap, ◌∙◌, sym}
use Rattle.std.specs.Prelude.{◌&&◌, not}
use Rattle.stm_watch.specs.Pairs.{is_pair_of}
use Rattle.stm_watch.proofs.Sets.{has_holds}
use Rattle.stm_watch.proofs.watch.Watch.remove.Goals as goal

pub returns : goal.returns
returns c = λ v t.
    has_holds c.remove_reads.new.table v t ∙ c.remove_reads.ensures v t
    ∙ rw (← c.self.view_is) (ap (λ b. b && not (is_pair_of c.args.ticket c.args.reads.now v t)) (sym (has_holds c.self.inside.table v t)))
