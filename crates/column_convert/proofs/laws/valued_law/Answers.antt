use Rattle.column_convert.proofs.ValueReplies.{cell_reply_law}
use Rattle.column_convert.proofs.laws.valued_law.Goals as goal

pub returns : goal.returns
returns c = cell_reply_law
