use Rattle.std.proofs.Common.{◌≡◌, ◌-◌, ◌∙◌, arith}
use Rattle.std.proofs.lemmas.Grind.{common_steps}
use Rattle.std.proofs.lemmas.Option.{gets}
use Rattle.std.specs.Option.{option_copied}
use Rattle.std.specs.Prelude.{slice_get}
use Rattle.stm_commands.proofs.KeptStores.{job_get}
use Rattle.stm_commands.proofs.jobs.job_of_number.Goals as goal

pub returns : goal.returns
returns c =
    let e : option_copied c.get.result ≡ slice_get c.args.jobs.now (c.args.number - 1) = grind (arith, common_steps, gets) in
    e ∙ job_get c.args.jobs.now c.args.number (c.args.number - 1) (omega arith)
