use Rattle.digits_print.proofs.Backs as backs
use Rattle.digits_print.proofs.laws.back_law.Goals as goal

pub returns : goal.returns
returns c = backs.digits_read_back_law c.digits_law.ensures
