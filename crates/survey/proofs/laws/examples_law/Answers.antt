use Rattle.survey.proofs.Examples.{check_law, search_rows_law}
use Rattle.survey.proofs.laws.examples_law.Goals as goal

pub returns : goal.returns
returns c = (check_law, search_rows_law)
