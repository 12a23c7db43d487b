use Rattle.digits_print.proofs.ExactTexts as texts
use Rattle.digits_print.proofs.laws.exact_law.Goals as goal

pub returns : goal.returns
returns c = texts.exact_print_law c.reduced_law.ensures c.back_law.ensures
