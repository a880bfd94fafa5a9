use Rattle.stm_run.proofs.streams.run.Goals as goal

pub returns : goal.returns
returns g c = c.run_from.ensures
