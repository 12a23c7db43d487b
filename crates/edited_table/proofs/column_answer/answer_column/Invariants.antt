use Rattle.edited_table.proofs.column_answer.answer_column.Given as goal

abbrev pub ghosts-counted_column : goal.ghosts-counted_column
ghosts-counted_column a = record { name = a.blank.name; parts = a.blank.parts }
