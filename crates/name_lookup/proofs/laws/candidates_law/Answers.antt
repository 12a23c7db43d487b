use Rattle.name_lookup.proofs.Candidates as laws
use Rattle.name_lookup.proofs.laws.candidates_law.Goals as goal

pub returns : goal.returns
returns c = laws.candidates_law
