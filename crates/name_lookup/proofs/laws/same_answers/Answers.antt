use Rattle.name_lookup.proofs.Plans as laws
use Rattle.name_lookup.proofs.laws.same_answers.Goals as goal

pub returns : goal.returns
returns c = laws.same_answers
