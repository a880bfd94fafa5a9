use Rattle.stm_pool.proofs.storm.run_storm.Given as goal

abbrev pub ghosts-storm_with : goal.ghosts-storm_with
ghosts-storm_with g a = record { name = a.blank.name; parts = a.blank.parts }
