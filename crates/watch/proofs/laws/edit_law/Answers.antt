use Rattle.watch.proofs.EditReports.{edit_law}
use Rattle.watch.proofs.laws.edit_law.Goals as goal

pub returns : goal.returns
returns c = edit_law
