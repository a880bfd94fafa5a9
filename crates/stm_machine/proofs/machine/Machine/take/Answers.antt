use Rattle.std.proofs.Common.{◌≡◌, length, refl, rules, sym, subst}
use Rattle.stm_machine.specs.Machine.{Parts, IsAt}
use Rattle.stm_machine.specs.JobsHandedOut.{AreJobs}
use Rattle.stm_machine.proofs.States.{covered_at, requeued}
use Rattle.stm_machine.proofs.JobsHandedOut.{queued_wait, has_sent, are_jobs, are_covered}
use Rattle.stm_machine.proofs.Ready.{ready_same}
use Rattle.stm_machine.proofs.machine.Machine.take.Goals as goal

pub jobs_of-requires : goal.jobs_of-requires
jobs_of-requires c =
    let s = c.requires.0 in let h = c.requires.1 in
    let k = subst (λ (m : Parts). IsAt m s) (sym c.self.view_is) h in
    queued_wait _ s k

pub returns-clause-taken : goal.returns-clause-taken
returns-clause-taken c =
    let s = c.requires.0 in let h = c.requires.1 in
    let k = subst (λ (m : Parts). IsAt m s) (sym c.self.view_is) h in
    let js : AreJobs s c.in_ok-jobs.jobs.items = are_jobs s c.self.inside.waiting c.in_ok-jobs.jobs.items k.stands.entries_are c.in_ok-jobs.ensures.blocks in
    let n : c.len.result ≡ length c.in_ok-jobs.jobs.items = search rules in (
      record {
        tickets = rw (← c.self.view_is) c.in_ok-jobs.ensures.tickets;
        blocks = λ s h.
            let k = subst (λ (m : Parts). IsAt m s) (sym c.self.view_is) h in
            are_jobs s c.self.inside.waiting c.in_ok-jobs.jobs.items k.stands.entries_are c.in_ok-jobs.ensures.blocks;
        present = rw (← c.self.view_is) c.in_ok-frozen.ensures;
        covered = rw (c.in_ok-frozen.ensures, k.stands.store_is) (are_covered s c.in_ok-jobs.jobs.items (covered_at _ s k) js);
        few = c.in_ok-jobs.ensures.few;
      },
      rw (c.send_out.ensures, n, ← c.self.view_is) refl,
    )

pub returns-clause-kept : goal.returns-clause-kept
returns-clause-kept c = λ s h.
    let k = subst (λ (m : Parts). IsAt m s) (sym c.self.view_is) h in
    rw c.send_out.ensures (requeued _ s _ (λ u. has_sent u c.len.result c.self.inside.pending.entries) k)

pub invariant_of-self : goal.invariant_of-self
invariant_of-self c = rw c.send_out.ensures (ready_same _ _ c.self.inside.pending.entries _ (λ u. has_sent u c.len.result c.self.inside.pending.entries) c.self.invariant)
