use Rattle.std.proofs.Common.{[]}
use Rattle.def_lines.specs.Blanks.{trimmed_of_blanks}
use Rattle.deck.specs.Edits.{deck_after_defining}
use Rattle.edited_table.proofs.EditOutcomes.{edit_left}
use Rattle.edited_table.proofs.edit_answer.answer_define.Goals as goal

pub returns-clause-edited : goal.returns-clause-edited
returns-clause-edited c =
    edit_left (deck_after_defining (trimmed_of_blanks c.args.line.now) c.args.content.now.table.deck) []
    c.args.content.now
    c.define_line-edited.new.content c.define_line-edited.result c.answer_edit.result c.define_line-edited.ensures.edit
    c.define_line-edited.ensures.noted c.define_line-edited.ensures.has_words c.answer_edit.ensures.answer
    c.answer_edit.ensures.known c.answer_edit.ensures.refused
