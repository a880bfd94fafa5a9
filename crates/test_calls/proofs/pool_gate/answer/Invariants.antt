use Rattle.test_calls.proofs.pool_gate.answer.Given as goal

abbrev pub ghosts-answer_with : goal.ghosts-answer_with
ghosts-answer_with g a = record { name = a.blank.name; parts = a.blank.parts }
