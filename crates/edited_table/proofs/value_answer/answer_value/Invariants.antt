use Rattle.edited_table.proofs.value_answer.answer_value.Given as goal

abbrev pub ghosts-counted_value : goal.ghosts-counted_value
ghosts-counted_value a = record { name = a.blank.name; parts = a.blank.parts }
