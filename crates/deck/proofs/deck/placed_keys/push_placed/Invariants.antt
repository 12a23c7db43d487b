use Rattle.std.proofs.Common.{◌≡◌, ◌++◌, All, drop, map}
use Rattle.deck_lines.specs.Names.{key_number_names_of_kind}
use Rattle.deck.specs.SubstringKeys.{is_deck_number_holding_text}
use Rattle.deck.specs.Numbers.{deck_keys_where}
use Rattle.deck.specs.PlacedKeys.{IsKeyInDefinitionPlace, placed_deck_key}
use Rattle.deck.proofs.deck.placed_keys.push_placed.Given as goal

abbrev pub invariant-loop-number : goal.invariant-loop-number
invariant-loop-number l =
    All (IsKeyInDefinitionPlace l.store.lines) l.keys.items
    × (map placed_deck_key l.keys.items
    ++ deck_keys_where (is_deck_number_holding_text l.store.names l.last l.finder) l.kind l.number
    (drop l.number (key_number_names_of_kind l.store.names l.kind))
    ≡ map placed_deck_key l.initial.keys.items
    ++ deck_keys_where (is_deck_number_holding_text l.store.names l.last l.finder) l.kind 0
    (key_number_names_of_kind l.store.names l.kind))
