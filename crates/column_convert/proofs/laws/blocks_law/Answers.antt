use Rattle.column_convert.proofs.Blocks.{row_blocks_law}
use Rattle.column_convert.proofs.laws.blocks_law.Goals as goal

pub returns : goal.returns
returns c = row_blocks_law
