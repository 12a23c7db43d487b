use Rattle.session.proofs.UndoLaws.{session-save-law}
use Rattle.session.proofs.laws.save_law.Goals as goal

pub returns : goal.returns
returns c = session-save-law c.saved_decks_are_given_back.ensures.file
