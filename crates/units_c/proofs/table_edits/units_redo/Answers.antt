use Rattle.std.proofs.Common.{subst}
use Rattle.edited_table.specs.TableValue.{EditedTableView}
use Rattle.edited_table.specs.TurnAnswers.{IsAnsweredCTurn, IsCEditRedone}
use Rattle.units_c.proofs.Exported.{open_turn}
use Rattle.units_c.proofs.table_edits.units_redo.Goals as goal

pub returns-clause-redone : goal.returns-clause-redone
returns-clause-redone c =
    open_turn c.args.table.now.handle.held c.put.new.self.handle.held c.in-Some.content.value _
    c.in-Some.ensures.taken c.put.ensures c.answer_redo-answered.result c.args.out.now c.deliver.result
    c.deliver.new.written c.deliver.new.out c.deliver.ensures.memory c.deliver.ensures.handed IsCEditRedone
    (subst (λ (e : EditedTableView). IsAnsweredCTurn IsCEditRedone c.answer_redo-answered.result e
    c.answer_redo-answered.new.content) c.deref_mut.ensures.value c.answer_redo-answered.ensures.redone)
