use Rattle.std.proofs.Common.{ap, ◌∙◌, sym}
use Rattle.std.specs.Prelude.{◌||◌}
use Rattle.std.proofs.lemmas.Result.{on_ok_weaker, on_err_weaker}
use Rattle.stm_watch.specs.Pairs.{is_pair_of}
use Rattle.stm_watch.specs.Tabled.{holds}
use Rattle.stm_watch.proofs.Sets.{has_holds, same_holds, only_read}
use Rattle.stm_watch.proofs.watch.Watch.add.Goals as goal

pub returns-in-len1-clause-done : goal.returns-in-len1-clause-done
returns-in-len1-clause-done c =
    let old = c.self.inside.table in
    on_ok_weaker c.add_pair.result
    (λ added v t.
    has_holds c.add_pair.new.table v t ∙ added v t
    ∙ ap (λ b. holds old v t || b) (only_read c.args.reads.now _ c.args.ticket v t c.in-len1.len_at_least c.in-len1.len_below)
    ∙ rw (← c.self.view_is) (ap (λ b. b || is_pair_of c.args.ticket c.args.reads.now v t) (sym (has_holds old v t))))
    c.add_pair.ensures.ok

pub returns-in-len1-clause-unchanged : goal.returns-in-len1-clause-unchanged
returns-in-len1-clause-unchanged c =
    on_err_weaker c.add_pair.result (λ same. rw (← c.self.view_is) (same_holds c.add_pair.new.table c.self.inside.table same)) c.add_pair.ensures.err
