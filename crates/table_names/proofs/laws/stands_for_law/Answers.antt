use Rattle.table_names.proofs.StandingMeanings as laws
use Rattle.table_names.proofs.laws.stands_for_law.Goals as goal

pub returns : goal.returns
returns c = laws.stands_for_law
