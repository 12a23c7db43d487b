use Rattle.deck.proofs.TableLines.{deck_table_law}
use Rattle.deck.proofs.laws.tables_are_of_lines.Goals as goal

pub returns : goal.returns
returns c = deck_table_law
