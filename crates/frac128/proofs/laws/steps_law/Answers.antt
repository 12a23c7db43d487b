use Rattle.frac128.proofs.ExactSteps as steps
use Rattle.frac128.proofs.laws.steps_law.Goals as goal

pub returns : goal.returns
returns c = steps.exact_fraction_steps_law
