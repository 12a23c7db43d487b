use Rattle.std.proofs.Common.{◌≡◌, Option, Some, None, is_some, option_map, refl, sym, ◌∙◌, ap}
use Rattle.std.specs.List.{list_any}
use Rattle.std.specs.Map.{lookup}
use Rattle.std.proofs.lemmas.Map.Made.{is_some-lookup, keys_of-map_values}
use Rattle.def_entry.specs.Keys.{key as key_named}
use Rattle.def_entry.specs.SameKeys.{is_entry_key_among, is_same_entry_key}
use Rattle.def_entry.specs.Tables.{keys_of_entries}
use Rattle.def_entry.specs.declared.key.Key.{Key}
use Rattle.deck.specs.Tables.{DeckDefinitions, active_definitions, definition_place_of, table_of_deck_definitions}
use Rattle.live_table.proofs.deck_table.DeckTablePresent.find.Goals as goal

is_some-option_map : {A B : Type 0} (f : A → B) (o : Option A) → is_some (option_map f o) ≡ is_some o
is_some-option_map f None = refl
is_some-option_map f (Some x) = refl

-- a key has a place exactly if it is among those of the table
placed : (ds : DeckDefinitions) (k : Key) → is_some (definition_place_of ds k) ≡ is_entry_key_among
    (keys_of_entries (table_of_deck_definitions ds)) k
placed ds k =
    is_some-option_map (λ p. p.0) (lookup (is_same_entry_key k) ds)
    ∙ (is_some-lookup (is_same_entry_key k) ds ∙ ap (list_any (is_same_entry_key k))
    (sym (keys_of-map_values (λ p. p.1) ds)))

pub returns-clause-present : goal.returns-clause-present
returns-clause-present c =
    let d = c.args.self.now.0.now in
    ap is_some c.place_of.ensures ∙ placed (active_definitions d.settings d.lines)
    (key_named c.args.kind c.args.name.now)
