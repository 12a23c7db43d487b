use Rattle.std.proofs.Common.{refl}
use Rattle.deck.specs.Tables.{table_of_deck}
use Rattle.live_table.proofs.KeyNumbers.{nodes_are_flagged_by_table}
use Rattle.live_table.proofs.tried_numbers.number_at.Goals as goal

pub number-requires : goal.number-requires
number-requires c = nodes_are_flagged_by_table (table_of_deck c.args.deck.now) c.args.nodes.now
    c.requires.nodes.flags_right

pub returns-clause-added : goal.returns-clause-added
returns-clause-added c before list ends right =
    c.number.ensures.kept.numbered_names (table_of_deck c.args.deck.now) refl c.requires.nodes before list ends right
