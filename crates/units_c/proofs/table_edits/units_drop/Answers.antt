use Rattle.std.proofs.Common.{subst}
use Rattle.def_entry.specs.Keys.{key_of_spelling}
use Rattle.edited_table.specs.TableValue.{EditedTableView}
use Rattle.edited_table.specs.EditAnswers.{IsAnsweredCEdit, c_deck_after_drop, c_drop_outcome}
use Rattle.units_c.proofs.Exported.{open_noted}
use Rattle.units_c.proofs.table_edits.units_drop.Goals as goal

pub returns-clause-noted : goal.returns-clause-noted
returns-clause-noted c =
    open_noted c.args.table.now.handle.held c.put.new.self.handle.held c.in-Some.content.value _
    c.in-Some.ensures.taken c.put.ensures c.answer_drop-answered.result c.args.out.now c.deliver.result
    c.deliver.new.written c.deliver.new.out c.deliver.ensures.memory c.deliver.ensures.handed _
    (subst (λ (e : EditedTableView).
    IsAnsweredCEdit (c_deck_after_drop (c_drop_outcome (key_of_spelling c.args.key.now) e.table.deck) e.table.deck)
    c.answer_drop-answered.result e c.answer_drop-answered.new.content) c.deref_mut.ensures.value
    c.answer_drop-answered.ensures.edited)
