use Rattle.session.proofs.UndoLaws.{session-history-laws}
use Rattle.session.proofs.laws.history_laws.Goals as goal

pub returns : goal.returns
returns c = session-history-laws
