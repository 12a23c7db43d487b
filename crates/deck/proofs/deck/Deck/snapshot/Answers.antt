use Rattle.std.proofs.Common.{sym, subst}
use Rattle.deck_lines.specs.ClosedBlocks.{AreBlocksClosed}
use Rattle.deck.proofs.deck.Deck.snapshot.Goals as goal

pub from_parts-requires : goal.from_parts-requires
from_parts-requires c = subst AreBlocksClosed (sym c.in_ok-store.ensures) c.self.invariant.indexed.blocks_closed
