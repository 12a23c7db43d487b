use Rattle.std.proofs.Common.{subst}
use Rattle.def_lines.specs.Blanks.{trimmed_of_blanks}
use Rattle.deck.specs.Edits.{deck_after_defining}
use Rattle.edited_table.specs.TableValue.{EditedTableView}
use Rattle.edited_table.specs.EditAnswers.{IsAnsweredCEdit, c_deck_after_edit}
use Rattle.units_c.proofs.Exported.{open_noted}
use Rattle.units_c.proofs.table_edits.units_define.Goals as goal

pub returns-clause-noted : goal.returns-clause-noted
returns-clause-noted c =
    open_noted c.args.table.now.handle.held c.put.new.self.handle.held c.in-Some.content.value _
    c.in-Some.ensures.taken c.put.ensures c.answer_define-answered.result c.args.out.now c.deliver.result
    c.deliver.new.written c.deliver.new.out c.deliver.ensures.memory c.deliver.ensures.handed _
    (subst (λ (e : EditedTableView).
    IsAnsweredCEdit (c_deck_after_edit (deck_after_defining (trimmed_of_blanks c.args.line.now) e.table.deck)
    e.table.deck)
    c.answer_define-answered.result e c.answer_define-answered.new.content) c.deref_mut.ensures.value
    c.answer_define-answered.ensures.edited)
