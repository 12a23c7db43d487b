use Rattle.quantity.proofs.Steps as steps
use Rattle.quantity.proofs.laws.product_law.Goals as goal

pub returns : goal.returns
returns c = steps.product_exponents_law c.reduced_law.ensures
