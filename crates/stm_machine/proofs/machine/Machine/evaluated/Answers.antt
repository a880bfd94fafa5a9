use Rattle.std.proofs.Common.{◌≡◌, subst, sym}
use Rattle.stm_store.specs.Cells.{plains}
use Rattle.stm_machine.specs.Machine.{Parts, IsAt}
use Rattle.stm_machine.proofs.JobsHandedOut.{kept_waits, job_covered, is_present}
use Rattle.stm_machine.proofs.machine.Machine.evaluated.Goals as goal

pub job_of-requires : goal.job_of-requires
job_of-requires c =
    let s = c.requires.waits.0 in let h = c.requires.waits.1 in
    let k = subst (λ (m : Parts). IsAt m s) (sym c.self.view_is) h in
    kept_waits _ s k c.args.ticket c.requires.waits.2

pub evaluate-requires : goal.evaluate-requires
evaluate-requires c =
    let s = c.requires.waits.0 in let h = c.requires.waits.1 in
    let k = subst (λ (m : Parts). IsAt m s) (sym c.self.view_is) h in
    let same = subst (λ (m : Parts). c.args.frozen.now ≡ plains m.store) (sym c.self.view_is) c.requires.store in
    rw (same, k.stands.store_is) (job_covered _ s k c.in_ok-job.job c.in_ok-job.ensures.block)

pub returns-in-Ok : goal.returns-in-Ok
returns-in-Ok c = λ s h.
    let k = subst (λ (m : Parts). IsAt m s) (sym c.self.view_is) h in
    let same = subst (λ (m : Parts). c.args.frozen.now ≡ plains m.store) (sym c.self.view_is) c.requires.store in
    is_present _ s k c.args.ticket c.in_ok-job.job c.in-Ok.message c.args.frozen.now same c.in_ok-job.ensures.ticket c.in_ok-job.ensures.block
    c.in-Ok.ensures.ticket c.in-Ok.ensures.block c.in-Ok.ensures.verdict_is c.in-Ok.ensures.reads_are
