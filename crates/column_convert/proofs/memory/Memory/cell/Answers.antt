use Rattle.column_convert.proofs.KnownCells.{all_remembered}
use Rattle.column_convert.proofs.memory.Memory.cell.Goals as goal

pub returns-in-Some : goal.returns-in-Some
returns-in-Some c =
    all_remembered c.args.question.now.options.now c.args.self.now c.args.question.now.from.now
    c.args.question.now.to.now c.args.number.now.text.now c.args.number.now.signed
    c.in-Some.known c.in-Some.is c.known_cell.result c.known_cell.ensures
