use Rattle.std.proofs.Common.{ap, sym, ◌∙◌, option_map, Option, Some}
use Rattle.def_entry.specs.Entries.{Entry, What}
use Rattle.def_entry.specs.declared.key.Key.{Key}
use Rattle.deck_lines.specs.Names.{key_numbered}
use Rattle.deck_lines.specs.Stores.{LineStoreView, store_definition_at}
use Rattle.deck_lines.proofs.DefinitionsByNumber.{keyed_store_definition_key}
use Rattle.deck_lines.proofs.StoredLines.{stored_keys_are_a_numbering}
use Rattle.deck_lines.proofs.store.line_store.LineStore.key_number.Goals as goal

pub returns-in-Some-clause-number : goal.returns-in-Some-clause-number
returns-in-Some-clause-number c =
    ap (λ (s : LineStoreView). Some (key_numbered s.names c.in-Some.definition.now.key)) (sym c.self.view_is)
    ∙ ap (option_map (λ (p : Option Key × What). p.0))
    (c.in-Some.ensures c.self.inside.lines c.self.invariant.definitions_right)
    ∙ keyed_store_definition_key (store_definition_at c.self.inside.lines c.args.place)
    ∙ ap (λ (s : LineStoreView). option_map (λ (p : Key × Entry). Some p.0) (store_definition_at s.lines c.args.place))
    c.self.view_is

pub returns-in-Some-clause-numbering : goal.returns-in-Some-clause-numbering
returns-in-Some-clause-numbering c =
    stored_keys_are_a_numbering c.self.inside.lines c.self.inside.definitions c.args.self.now c.self.invariant
    c.self.view_is

pub returns-in-None-clause-number : goal.returns-in-None-clause-number
returns-in-None-clause-number c =
    ap (option_map (λ (p : Option Key × What). p.0))
    (c.in-None.ensures c.self.inside.lines c.self.invariant.definitions_right)
    ∙ keyed_store_definition_key (store_definition_at c.self.inside.lines c.args.place)
    ∙ ap (λ (s : LineStoreView). option_map (λ (p : Key × Entry). Some p.0) (store_definition_at s.lines c.args.place))
    c.self.view_is

pub returns-in-None-clause-numbering : goal.returns-in-None-clause-numbering
returns-in-None-clause-numbering c =
    stored_keys_are_a_numbering c.self.inside.lines c.self.inside.definitions c.args.self.now c.self.invariant
    c.self.view_is
