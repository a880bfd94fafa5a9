use Rattle.stm_journaled_run.proofs.streams.run_durable.Given as goal

abbrev pub ghosts-run_begun : goal.ghosts-run_begun
ghosts-run_begun g a = record { name = a.blank.name; parts = a.blank.parts }
