use Rattle.test_calls.proofs.main.Given as goal

abbrev pub ghosts-answers_on : goal.ghosts-answers_on
ghosts-answers_on a = record { name = a.blank.name; parts = a.blank.parts }
