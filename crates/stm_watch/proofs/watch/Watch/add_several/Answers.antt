use Rattle.std.proofs.Common.{ap, ◌∙◌, sym}
use Rattle.std.specs.Prelude.{◌||◌, nat_eq}
use Rattle.std.specs.List.{list_any}
use Rattle.stm_watch.specs.Pairs.{is_pair_of, is_read}
use Rattle.stm_watch.proofs.Sets.{has_holds, same_holds, fresh_added, fresh_removed}
use Rattle.stm_watch.proofs.watch.Watch.add_several.Goals as goal

pub returns-in-Ok-clause-ok : goal.returns-in-Ok-clause-ok
returns-in-Ok-clause-ok c = λ v t.
    let fs = c.in_ok-fresh.fresh.items in
    let old = c.self.inside.table in
    has_holds c.add_all.new.table v t ∙ rw c.deref.ensures.value at (c.in-Ok.ensures.ok v t)
    ∙ fresh_added old c.args.ticket v t (list_any (nat_eq v) fs) (is_read c.args.reads.now v) (c.in_ok-fresh.ensures v)
    ∙ rw (← c.self.view_is) (ap (λ b. b || is_pair_of c.args.ticket c.args.reads.now v t) (sym (has_holds old v t)))

pub returns-clause-err : goal.returns-clause-err
returns-clause-err c =
    let fs = c.in_ok-fresh.fresh.items in
    let old = c.self.inside.table in
    rw (← c.self.view_is) (same_holds c.remove_all.new.table old (λ v t.
    rw c.deref-in-Err.ensures.value at (c.remove_all.ensures v t) ∙ rw c.deref.ensures.value at (c.in-Err.ensures.err v t)
    ∙ fresh_removed old c.args.ticket v t (list_any (nat_eq v) fs) (is_read c.args.reads.now v) (c.in_ok-fresh.ensures v)))
