use Rattle.deck_lines.proofs.KeptLines.{load_keeps_lines_law}
use Rattle.deck_lines.proofs.laws.loads_keep_lines.Goals as goal

pub returns : goal.returns
returns c = load_keeps_lines_law
