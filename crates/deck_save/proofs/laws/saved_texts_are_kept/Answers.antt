use Rattle.deck_save.proofs.SavedAgain.{saved_again}
use Rattle.deck_save.proofs.laws.saved_texts_are_kept.Goals as goal

pub returns : goal.returns
returns c = saved_again
