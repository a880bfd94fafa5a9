use Rattle.std.proofs.Common.{rules, ◌≡◌, ◌∷◌, ◌++◌, [], subst, sym}
use Rattle.stm_commands.specs.OpenInvariant.{handed_out, AreStored}
use Rattle.stm_commands.proofs.KeptStores.{kept_next, are_stored_push}
use Rattle.stm_commands.proofs.jobs.with_store.Goals as goal

pub loop-job-preserved : goal.loop-job-preserved
loop-job-preserved c =
    let e : c.loop-job.job-iterator.rest.items ≡ c.in-Some.job ∷ c.next.new.self.rest.items = search rules in
    let p : c.push.new.self.items ≡ c.loop-job.made.items ++ c.in_ok-kept.kept ∷ [] = search rules in
    record {
      kept = kept_next (handed_out c.args.store.now) _ _ c.in_ok-kept.kept c.in-Some.job _ _ _ p e c.in_ok-kept.ensures.kept c.loop-job.invariant.kept;
      stored = subst AreStored (sym p) (are_stored_push _ _ c.loop-job.invariant.stored c.in_ok-kept.ensures.stored);
    }
