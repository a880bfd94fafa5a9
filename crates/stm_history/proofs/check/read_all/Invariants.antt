use Rattle.stm_history.proofs.check.read_all.Given as goal

abbrev pub ghosts-read_from : goal.ghosts-read_from
ghosts-read_from g a = record { name = a.blank.name; parts = a.blank.parts }
