use Rattle.deck.proofs.ComputedChanges.{keys_changed_by_edit_law}
use Rattle.deck.proofs.laws.changes_are_computed.Goals as goal

pub returns : goal.returns
returns c = keys_changed_by_edit_law c.same_text_law.ensures
