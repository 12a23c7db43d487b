use Rattle.std.proofs.Common.{◌∙◌, ap, option_map}
use Rattle.def_entry.specs.Entries.{Entry}
use Rattle.def_entry.specs.declared.key.Key.{Key}
use Rattle.deck_lines.specs.NumberedKeys.{key_number_names_in}
use Rattle.deck_lines.specs.Stores.{LineStoreView, store_definition_at}
use Rattle.deck_lines.specs.declared.line.DeckLine.{DeckLine}
use Rattle.deck_lines.proofs.Entries.{is_there, no_entry_without_store_definition, said_there}
use Rattle.deck_lines.proofs.store.line_store.LineStore.entry.Goals as goal

pub line-requires : goal.line-requires
line-requires c =
    is_there c.self.inside.lines c.args.place (key_number_names_in c.self.inside.definitions.keys)
    c.in-Some.definition.now
    (c.in-Some.ensures c.self.inside.lines c.self.invariant.definitions_right)

pub returns-in-Some : goal.returns-in-Some
returns-in-Some c =
    let x : DeckLine = record {
      number = c.line.result.number;
      text = c.line.result.text.now;
      mark =
          c.line.result.mark;
    } in
    said_there c.self.inside.lines c.args.place (key_number_names_in c.self.inside.definitions.keys)
    c.in-Some.definition.now
    (c.in-Some.ensures c.self.inside.lines c.self.invariant.definitions_right) x
    c.line.ensures.is
    ∙ ap (λ (s : LineStoreView). option_map (λ (p : Key × Entry). p.1) (store_definition_at s.lines c.args.place))
    c.self.view_is

pub returns-in-None : goal.returns-in-None
returns-in-None c =
    no_entry_without_store_definition (store_definition_at c.self.inside.lines c.args.place)
    (c.in-None.ensures c.self.inside.lines c.self.invariant.definitions_right)
    ∙ ap (λ (s : LineStoreView). option_map (λ (p : Key × Entry). p.1) (store_definition_at s.lines c.args.place))
    c.self.view_is
