use Rattle.def_entry.proofs.WrittenPoints.{point_pairs_law}
use Rattle.def_entry.proofs.laws.points_law.Goals as goal

pub returns : goal.returns
returns c = point_pairs_law
