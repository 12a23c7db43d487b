use Rattle.reply.proofs.GrantedReplies.{conversion-grant-law}
use Rattle.reply.proofs.laws.grant_law.Goals as goal

pub returns : goal.returns
returns c = conversion-grant-law c.quotient_law.ensures c.kind_law.ensures
