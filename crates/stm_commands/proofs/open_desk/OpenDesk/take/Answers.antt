use Rattle.std.proofs.Common.{◌≡◌, ◌+◌, false, length, map, arith}
use Rattle.std.proofs.lemmas.Bool.Decides.{nat_tests}
use Rattle.std.proofs.lemmas.Grind.{common_steps}
use Rattle.std.specs.Prelude.{nat_lt}
use Rattle.stm_commands.specs.Jobs.{max_jobs}
use Rattle.stm_commands.specs.OpenInvariant.{job_kept}
use Rattle.stm_commands.proofs.DeskSteps.{take_made}
use Rattle.stm_commands.proofs.Growing.{kept_queued, kept_more}
use Rattle.stm_commands.proofs.open_desk.OpenDesk.take.Goals as goal

pub append-requires-clause-kept : goal.append-requires-clause-kept
append-requires-clause-kept c = (kept_queued _ _ _ _ c.hand_out.ensures.same c.self.invariant).have_stores

pub invariant_of-self : goal.invariant_of-self
invariant_of-self c = kept_queued _ _ _ _ c.hand_out.ensures.same c.self.invariant

pub invariant_of-self-2 : goal.invariant_of-self-2
invariant_of-self-2 c =
    kept_more _ _ _ _ _ _ c.append.result c.hand_out.ensures.same c.in_ok-made.ensures.stand c.append.ensures.ok c.append.ensures.err c.append.ensures.stored c.self.invariant

pub returns : goal.returns
returns c =
    let js = map job_kept c.self.inside.jobs.items in
    let few : nat_lt max_jobs (c.args.n + length js) ≡ false = grind (arith, nat_tests, common_steps) in
    let next : c.len-2.result + 1 ≡ length js + 1 = grind (arith, common_steps) in
    rw (← c.self.view_is) (take_made _ _ _ _ _ _ _ _ _ c.append.result few next c.in_ok-made.ensures.text c.in_ok-made.ensures.made c.in_ok-made.ensures.out c.append.ensures.ok)
