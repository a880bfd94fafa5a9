use Rattle.stm_run.proofs.streams.run_from.Goals as goal

pub returns : goal.returns
returns g c = c.run_counted.ensures.written
