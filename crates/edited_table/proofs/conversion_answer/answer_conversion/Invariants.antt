use Rattle.edited_table.proofs.conversion_answer.answer_conversion.Given as goal

abbrev pub ghosts-counted_conversion : goal.ghosts-counted_conversion
ghosts-counted_conversion a = record { name = a.blank.name; parts = a.blank.parts }
