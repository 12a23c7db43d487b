use Rattle.std.proofs.Common.{map, subst, sym}
use Rattle.deck_lines.specs.StoredDefinitions.{IsStoreDefined}
use Rattle.deck_lines.specs.Readings.{entry_in_store_line}
use Rattle.deck_lines.specs.Stores.{LineStoreView}
use Rattle.deck_lines.proofs.StoredLines.{store_definitions_exchange}
use Rattle.deck_lines.proofs.store.line_store.LineStore.exchange.Goals as goal

pub invariant_of-self-2 : goal.invariant_of-self-2
invariant_of-self-2 c =
    store_definitions_exchange c.self.inside.lines c.args.put c.self.inside.definitions c.room_for.new.self
    c.exchange-2.new.self
    c.self.invariant c.args.definitions.of_lines.items c.args.at c.args.cut c.exchange.new.self
    c.in-Ok.ensures.lines c.in-Ok.ensures.names
    (subst (λ (s : LineStoreView). IsStoreDefined s.names c.args.definitions.of_lines.items
    (map entry_in_store_line c.args.put))
    (sym c.self.view_is) c.requires.defined)
    c.in_ok-gone.ensures.ok c.exchange-2.ensures.lines c.exchange-2.ensures.names
