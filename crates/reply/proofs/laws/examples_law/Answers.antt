use Rattle.reply.proofs.Examples.{linear_conversion_law, list_conversions_law, reciprocal_conversion_law}
use Rattle.reply.proofs.Examples.{reply_faults_law}
use Rattle.reply.proofs.laws.examples_law.Goals as goal

pub returns : goal.returns
returns c = (linear_conversion_law, reciprocal_conversion_law, list_conversions_law, reply_faults_law)
