use Rattle.table_names.proofs.MeaningKinds as laws
use Rattle.table_names.proofs.laws.kind_law.Goals as goal

pub returns : goal.returns
returns c = laws.meaning_kind_law
