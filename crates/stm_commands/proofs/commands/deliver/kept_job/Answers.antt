use Rattle.std.specs.Option.{option_copied}
use Rattle.stm_commands.proofs.KeptStores.{kept_at, stored_at}
use Rattle.stm_commands.proofs.commands.deliver.kept_job.Goals as goal

pub returns-clause-kept : goal.returns-clause-kept
returns-clause-kept c = kept_at c.args.jobs.now c.args.number (option_copied c.job_of_number.result) c.job_of_number.ensures

pub returns-clause-stored : goal.returns-clause-stored
returns-clause-stored c = λ ws h. stored_at ws c.args.jobs.now c.args.number (option_copied c.job_of_number.result) c.job_of_number.ensures h
