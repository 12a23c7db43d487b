use Rattle.std.proofs.Common.{◌≡◌, ◌+◌, IfOk, arith, length, subst}
use Rattle.deck.specs.Tables.{table_of_deck}
use Rattle.column_convert.specs.Blocks.{block_of_rows}
use Rattle.column_convert.specs.Inputs.{ColumnInput}
use Rattle.column_convert.specs.Rows.{rows}
use Rattle.column_convert.specs.declared.block.Block.{Block}
use Rattle.edited_table.proofs.AllRecords.{first_records_of_text_are_all}
use Rattle.edited_table.proofs.column_answer.counted_column.Goals as goal

pub returns-clause-block : goal.returns-clause-block
returns-clause-block g c =
    let enough : c.in-Some.most ≡ length c.args.text.now + 1 = omega (arith, c.in-Some.ensures) in
    subst (λ (i : ColumnInput). IfOk c.next_rows.result (λ (block : Block). block
    ≡ block_of_rows (rows (table_of_deck c.args.table.now.deck) c.args.column.now.question.options.now
    c.args.column.now.question.from.now
    c.args.column.now.question.to.now i)))
    (first_records_of_text_are_all c.args.text.now c.args.column.now.number c.args.column.now.has_header c.in-Some.most
    c.in_ok-columns.columns c.in_ok-columns.ensures enough)
    c.next_rows.ensures.block
