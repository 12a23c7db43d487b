use Rattle.std.proofs.Common.{◌∙◌}
use Rattle.column_convert.proofs.SingleRows.{column_input_after_one}
use Rattle.column_convert.proofs.columns.Columns.next_row.Goals as goal

pub returns-clause-left : goal.returns-clause-left
returns-clause-left g c = c.in_ok-block.ensures.left ∙ column_input_after_one c.args.self.now
