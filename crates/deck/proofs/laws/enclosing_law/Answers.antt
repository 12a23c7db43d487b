use Rattle.deck.proofs.EnclosingLines as lines
use Rattle.deck.proofs.laws.enclosing_law.Goals as goal

pub returns : goal.returns
returns c = lines.enclosing_law
