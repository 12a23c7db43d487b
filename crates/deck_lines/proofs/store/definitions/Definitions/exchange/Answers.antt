use Rattle.std.proofs.Common.{ap, ◌∙◌, ◌++◌, ◌+◌, drop, map, option_map, subst, sym, take}
use Rattle.deck_lines.specs.StoredDefinitions.{IsStoreDefined, seen_store_definition}
use Rattle.deck_lines.specs.Names.{KeyNumberNames}
use Rattle.deck_lines.specs.NumberedKeys.{key_number_names_in}
use Rattle.deck_lines.proofs.DefinitionsByNumber.{store_defined_exchange}
use Rattle.deck_lines.proofs.store.definitions.Definitions.exchange.Goals as goal

pub returns-clause-lines : goal.returns-clause-lines
returns-clause-lines c = λ said by are too.
    subst (λ (ns : KeyNumberNames). IsStoreDefined ns c.from.result.listed
    (take c.args.at said ++ (by ++ drop (c.args.at + c.args.cut) said))) (sym c.take_items-items.ensures.names)
    (ap (map (option_map (seen_store_definition (key_number_names_in c.args.self.now.keys))))
    (c.from.ensures ∙ c.exchange.ensures.items
    ∙ ap (λ ds. take c.args.at ds ++ (c.args.put.items ++ drop (c.args.at + c.args.cut) ds))
    c.take_items-items.ensures.items)
    ∙ store_defined_exchange (key_number_names_in c.args.self.now.keys) c.args.self.now.of_lines.listed c.args.put.items
    said by
    c.args.at
    c.args.cut are too)
