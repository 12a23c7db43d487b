use Rattle.std.proofs.Common.{◌≡◌, ◌∙◌, subst}
use Rattle.std.specs.Prelude.{IfSome, Ok}
use Rattle.std.specs.declared.option.Option.{Option}
use Rattle.quantity.specs.Amount.{Amount}
use Rattle.column_convert.specs.CellValues.{value_of_cell_product}
use Rattle.column_convert.proofs.KnownCells.{known_cell}
use Rattle.column_convert.proofs.memory.known_cell.Goals as goal

pub returns : goal.returns
returns c = λ shown k s.
    known_cell c.args.question.now.options.now c.args.known.now c.args.number.now.signed c.in-Some.x
    (subst (λ (o : Option Amount). IfSome o (λ p.
    value_of_cell_product c.args.number.now.signed.negative c.args.number.now.signed.numeral
    (Ok c.args.known.now.from_value) ≡ Ok p)) c.in-Some.is
    c.in_ok-x.ensures)
    shown c.args.question.now.from.now c.args.question.now.to.now c.args.number.now.text.now k s
    c.cell_options-options.result c.as_bytes.result.now
    c.trim-to.result.now c.in_ok-reply.reply c.in_ok-cell_of.field-0 c.cell_options-options.ensures.is
    (c.as_bytes.ensures ∙ c.in_ok-asked.ensures) c.trim-to.ensures c.in_ok-reply.ensures c.in_ok-cell_of.ensures
