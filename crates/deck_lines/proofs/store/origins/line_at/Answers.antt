use Rattle.std.proofs.Common.{List, refl, sym, ◌∙◌}
use Rattle.deck_lines.specs.Origins.{exchanged_store_lines}
use Rattle.deck_lines.specs.declared.line.DeckLine.{DeckLine}
use Rattle.deck_lines.proofs.ExchangedItems.{store_item_found_inside}
use Rattle.deck_lines.proofs.store.origins.line_at.Goals as goal

pub line-requires : goal.line-requires
line-requires c =
    let lines : List DeckLine = c.args.store.now.lines in
    store_item_found_inside (exchanged_store_lines c.args.at c.args.cut c.args.put.now lines) lines c.args.place
    c.in-Stored.place
    c.requires.inside
    (c.in-Stored.ensures lines c.args.put.now (sym c.len.ensures.count) refl)

pub returns-in-Stored : goal.returns-in-Stored
returns-in-Stored c =
    c.in-Stored.ensures c.args.store.now.lines c.args.put.now (sym c.len.ensures.count) refl ∙ c.line.ensures.is
