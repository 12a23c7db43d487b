use Rattle.deck_save.proofs.Accepted.{savable_lines_hold_no_comment}
use Rattle.deck_save.proofs.laws.accepted_lines_stay.Goals as goal

pub returns : goal.returns
returns c = savable_lines_hold_no_comment c.entry_law.ensures
