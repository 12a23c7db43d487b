use Rattle.session.proofs.StepIndependence.{leaves}
use Rattle.session.proofs.laws.leaves_law.Goals as goal

pub returns : goal.returns
returns c = leaves
