use Rattle.std.proofs.Common.{rules, arith, ◌≡◌, ◌≤◌, ◌+◌, ◌∷◌, ◌++◌, ◌∙◌, [], List, map, length, vec_len, refl, sym, ap, subst, None, IfOk}
use Rattle.stm_eval.specs.declared.job.Job.{Job}
use Rattle.stm_commands.specs.Evaluation.{DeliveredSoFar, delivered_so_far, delivered_all}
use Rattle.stm_commands.specs.OpenInvariant.{handed_out}
use Rattle.stm_commands.proofs.EvaluatedJobs.{AreLeft, batch_covered, batch_stands, batch_done, batch_longer, last_batch, batch_fits, rest_fits}
use Rattle.stm_commands.proofs.Growing.{grown_same, grown_trans}
use Rattle.stm_commands.proofs.evaluation.evaluate_jobs.Goals as goal

pub loop-job-init : goal.loop-job-init
loop-job-init g c =
    let r : c.into_iter-job-iterator.result.rest.items ≡ c.args.jobs.items = search rules in
    let e : c.new-batch.result.items ++ c.into_iter-job-iterator.result.rest.items ≡ c.args.jobs.items = ap (λ (js : List Job). js ++ c.into_iter-job-iterator.result.rest.items) c.new-batch.ensures.items ∙ r in
    record {
      left = subst (AreLeft c.args.store.now (record { desk = c.args.desk.now; count = 0; stop = None })
          (delivered_all (record { desk = c.args.desk.now; count = 0; stop = None }) (map (handed_out c.args.store.now) c.args.jobs.items))) (sym e)
          (record { covered = c.requires.covered; stand = c.requires.stand; done = refl });
      grown = grown_same _ _ refl c.requires.start c.requires.legal;
      same_store = refl;
      few = let n : length (c.new-batch.result.items ++ c.into_iter-job-iterator.result.rest.items) ≡ length c.args.jobs.items = ap (λ (js : List Job). length js) e in omega (arith, n);
    }

pub evaluate_batch-requires-clause-few : goal.evaluate_batch-requires-clause-few
evaluate_batch-requires-clause-few g c κs within =
    let e : c.loop-job.job-iterator.rest.items ≡ c.in-Some.job ∷ c.next.new.self.rest.items = search rules in
    let p : c.replace-full.result.items ≡ c.loop-job.batch.items ++ c.in-Some.job ∷ [] = search rules in
    let q = batch_longer c.loop-job.batch.items c.loop-job.job-iterator.rest.items c.replace-full.result.items c.next.new.self.rest.items c.in-Some.job e p in
    let m : length c.replace-full.result.items ≡ vec_len c.replace-full.result = search rules in
    let f = batch_fits c.loop-job.so_far.count (length c.args.jobs.items) 65536 c.replace-full.result.items c.next.new.self.rest.items
    (subst (λ (js : List Job). c.loop-job.so_far.count + length js ≤ length c.args.jobs.items) q c.loop-job.invariant.few) (search rules) in
    omega (arith, f, m)

pub evaluate_batch-requires-clause-start : goal.evaluate_batch-requires-clause-start
evaluate_batch-requires-clause-start g c κs within = c.loop-job.invariant.grown.start

pub evaluate_batch-requires-clause-legal : goal.evaluate_batch-requires-clause-legal
evaluate_batch-requires-clause-legal g c κs within = c.loop-job.invariant.grown.legal

pub evaluate_batch-requires-clause-covered : goal.evaluate_batch-requires-clause-covered
evaluate_batch-requires-clause-covered g c κs within =
    let e : c.loop-job.job-iterator.rest.items ≡ c.in-Some.job ∷ c.next.new.self.rest.items = search rules in
    let p : c.replace-full.result.items ≡ c.loop-job.batch.items ++ c.in-Some.job ∷ [] = search rules in
    let q = batch_longer c.loop-job.batch.items c.loop-job.job-iterator.rest.items c.replace-full.result.items c.next.new.self.rest.items c.in-Some.job e p in
    batch_covered c.args.store.now _ _ c.replace-full.result.items c.next.new.self.rest.items
    (subst (AreLeft c.args.store.now (record { desk = c.loop-job.desk; count = c.loop-job.so_far.count; stop = c.loop-job.so_far.stop })
    (delivered_all (record { desk = c.args.desk.now; count = 0; stop = None }) (map (handed_out c.args.store.now) c.args.jobs.items))) q c.loop-job.invariant.left)

pub evaluate_batch-requires-clause-stand : goal.evaluate_batch-requires-clause-stand
evaluate_batch-requires-clause-stand g c κs within =
    let e : c.loop-job.job-iterator.rest.items ≡ c.in-Some.job ∷ c.next.new.self.rest.items = search rules in
    let p : c.replace-full.result.items ≡ c.loop-job.batch.items ++ c.in-Some.job ∷ [] = search rules in
    let q = batch_longer c.loop-job.batch.items c.loop-job.job-iterator.rest.items c.replace-full.result.items c.next.new.self.rest.items c.in-Some.job e p in
    batch_stands c.args.store.now (record { desk = c.loop-job.desk; count = c.loop-job.so_far.count; stop = c.loop-job.so_far.stop }) _ c.replace-full.result.items c.next.new.self.rest.items
    (subst (AreLeft c.args.store.now (record { desk = c.loop-job.desk; count = c.loop-job.so_far.count; stop = c.loop-job.so_far.stop })
    (delivered_all (record { desk = c.args.desk.now; count = 0; stop = None }) (map (handed_out c.args.store.now) c.args.jobs.items))) q c.loop-job.invariant.left)

pub returns-in_err-so_far-clause-grown : goal.returns-in_err-so_far-clause-grown
returns-in_err-so_far-clause-grown g c = grown_trans _ _ _ c.loop-job.invariant.grown c.evaluate_batch.ensures.grown

pub returns-in_err-so_far-clause-store : goal.returns-in_err-so_far-clause-store
returns-in_err-so_far-clause-store g c = c.evaluate_batch.ensures.store ∙ c.loop-job.invariant.same_store

pub loop-job-preserved-then-bytes-most : goal.loop-job-preserved-then-bytes-most
loop-job-preserved-then-bytes-most g c =
    let i = c.loop-job.invariant in
    let o = c.in_ok-so_far.ensures in
    let e : c.loop-job.job-iterator.rest.items ≡ c.in-Some.job ∷ c.next.new.self.rest.items = search rules in
    let p : c.replace-full.result.items ≡ c.loop-job.batch.items ++ c.in-Some.job ∷ [] = search rules in
    let n : c.replace-full.new.dest.items ≡ [] = search rules in
    let q = batch_longer c.loop-job.batch.items c.loop-job.job-iterator.rest.items c.replace-full.result.items c.next.new.self.rest.items c.in-Some.job e p in
    record {
      left = subst (λ (js : List Job). AreLeft c.args.store.now (record { desk = c.evaluate_batch.new.desk; count = c.in_ok-so_far.so_far.count; stop = c.in_ok-so_far.so_far.stop })
          (delivered_all (record { desk = c.args.desk.now; count = 0; stop = None }) (map (handed_out c.args.store.now) c.args.jobs.items)) (js ++ c.next.new.self.rest.items)) (sym n)
          (batch_done c.args.store.now (record { desk = c.loop-job.desk; count = c.loop-job.so_far.count; stop = c.loop-job.so_far.stop })
          (record { desk = c.evaluate_batch.new.desk; count = c.in_ok-so_far.so_far.count; stop = c.in_ok-so_far.so_far.stop }) _ c.replace-full.result.items c.next.new.self.rest.items o.grown o.done
          (subst (AreLeft c.args.store.now (record { desk = c.loop-job.desk; count = c.loop-job.so_far.count; stop = c.loop-job.so_far.stop })
          (delivered_all (record { desk = c.args.desk.now; count = 0; stop = None }) (map (handed_out c.args.store.now) c.args.jobs.items))) q i.left));
      grown = grown_trans _ _ _ i.grown o.grown;
      same_store = o.store ∙ i.same_store;
      few = subst (λ (js : List Job). c.in_ok-so_far.so_far.count + length (js ++ c.next.new.self.rest.items) ≤ length c.args.jobs.items) (sym n)
          (rest_fits c.loop-job.so_far.count c.in_ok-so_far.so_far.count (length c.args.jobs.items) c.replace-full.result.items c.next.new.self.rest.items
          (subst (λ (js : List Job). c.loop-job.so_far.count + length js ≤ length c.args.jobs.items) q i.few) (search rules));
    }

pub loop-job-preserved : goal.loop-job-preserved
loop-job-preserved g c =
    let i = c.loop-job.invariant in
    let e : c.loop-job.job-iterator.rest.items ≡ c.in-Some.job ∷ c.next.new.self.rest.items = search rules in
    let p : c.push.new.self.items ≡ c.loop-job.batch.items ++ c.in-Some.job ∷ [] = search rules in
    let q = batch_longer c.loop-job.batch.items c.loop-job.job-iterator.rest.items c.push.new.self.items c.next.new.self.rest.items c.in-Some.job e p in
    record {
      left = subst (AreLeft c.args.store.now (record { desk = c.loop-job.desk; count = c.loop-job.so_far.count; stop = c.loop-job.so_far.stop })
          (delivered_all (record { desk = c.args.desk.now; count = 0; stop = None }) (map (handed_out c.args.store.now) c.args.jobs.items))) q i.left;
      grown = i.grown;
      same_store = i.same_store;
      few = subst (λ (js : List Job). c.loop-job.so_far.count + length js ≤ length c.args.jobs.items) q i.few;
    }

pub evaluate_batch-requires-2-clause-few : goal.evaluate_batch-requires-2-clause-few
evaluate_batch-requires-2-clause-few g c κs within =
    let m : length c.loop-job.batch.items ≡ vec_len c.loop-job.batch = search rules in
    let f = batch_fits c.loop-job.so_far.count (length c.args.jobs.items) 65536 c.loop-job.batch.items c.loop-job.job-iterator.rest.items c.loop-job.invariant.few (search rules) in
    omega (arith, f, m)

pub evaluate_batch-requires-2-clause-start : goal.evaluate_batch-requires-2-clause-start
evaluate_batch-requires-2-clause-start g c κs within = c.loop-job.invariant.grown.start

pub evaluate_batch-requires-2-clause-legal : goal.evaluate_batch-requires-2-clause-legal
evaluate_batch-requires-2-clause-legal g c κs within = c.loop-job.invariant.grown.legal

pub evaluate_batch-requires-2-clause-covered : goal.evaluate_batch-requires-2-clause-covered
evaluate_batch-requires-2-clause-covered g c κs within =
    batch_covered c.args.store.now _ _ c.loop-job.batch.items c.loop-job.job-iterator.rest.items c.loop-job.invariant.left

pub evaluate_batch-requires-2-clause-stand : goal.evaluate_batch-requires-2-clause-stand
evaluate_batch-requires-2-clause-stand g c κs within =
    batch_stands c.args.store.now (record { desk = c.loop-job.desk; count = c.loop-job.so_far.count; stop = c.loop-job.so_far.stop }) _ c.loop-job.batch.items c.loop-job.job-iterator.rest.items c.loop-job.invariant.left

pub returns-clause-done : goal.returns-clause-done
returns-clause-done g c =
    let none : length c.loop-job.job-iterator.rest.items ≡ 0 = search rules in
    let last = subst (AreLeft c.args.store.now (record { desk = c.loop-job.desk; count = c.loop-job.so_far.count; stop = c.loop-job.so_far.stop })
    (delivered_all (record { desk = c.args.desk.now; count = 0; stop = None }) (map (handed_out c.args.store.now) c.args.jobs.items))) (last_batch c.loop-job.batch.items c.loop-job.job-iterator.rest.items none) c.loop-job.invariant.left in
    subst (λ (d : DeliveredSoFar). IfOk c.evaluate_batch-2.result (λ p. delivered_so_far c.evaluate_batch-2.new.desk p ≡ d)) last.done c.evaluate_batch-2.ensures.done

pub returns-clause-grown : goal.returns-clause-grown
returns-clause-grown g c = grown_trans _ _ _ c.loop-job.invariant.grown c.evaluate_batch-2.ensures.grown

pub returns-clause-store : goal.returns-clause-store
returns-clause-store g c = c.evaluate_batch-2.ensures.store ∙ c.loop-job.invariant.same_store
