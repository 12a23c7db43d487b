use Rattle.table_names.proofs.Ranks as laws
use Rattle.table_names.proofs.number_laws.rank_law.Goals as goal

pub returns : goal.returns
returns c = laws.numbered_name_rank_law
