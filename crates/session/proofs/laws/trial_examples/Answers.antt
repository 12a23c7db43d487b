use Rattle.std.proofs.Common.{refl}
use Rattle.std.specs.Fmt.{digits}
use Rattle.session.proofs.laws.trial_examples.Goals as goal

pub returns : goal.returns
unfolding digits
returns c = record { three_units = refl; second_round = refl }
