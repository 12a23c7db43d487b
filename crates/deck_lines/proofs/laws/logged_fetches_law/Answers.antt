use Rattle.deck_lines.proofs.LoggedFetches.{logged_fetches_law}
use Rattle.deck_lines.proofs.laws.logged_fetches_law.Goals as goal

pub returns : goal.returns
returns c = logged_fetches_law
