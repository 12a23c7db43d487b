use Rattle.table_names.proofs.Meanings as laws
use Rattle.table_names.proofs.laws.closed_meaning_law.Goals as goal

pub returns : goal.returns
returns c = laws.closed_meaning_law
