use Rattle.std.proofs.Common.{All, ℕ, List, map, ap, subst, ◌∙◌}
use Rattle.std.proofs.lemmas.List.Sorted.{All-permutation, IsPermutation-map}
use Rattle.def_entry.specs.KeyOrder.{key_cmp}
use Rattle.deck.specs.Decks.{DeckContents}
use Rattle.deck.specs.SubstringKeys.{deck_keys_holding_text}
use Rattle.deck.specs.PlacedKeys.{IsKeyInDefinitionPlace, placed_deck_key}
use Rattle.deck.specs.Tables.{active_definitions, table_of_deck, table_of_deck_definitions}
use Rattle.deck.proofs.KeyLists.{keys_found}
use Rattle.deck.proofs.OneKeyList.{deck_keys_holding_are_found}
use Rattle.deck.proofs.PlacedKeys.{keys_in_definition_places, sorted_map}
use Rattle.deck.proofs.PlacedDefinitions.{active_definitions_in_place}
use Rattle.deck.proofs.deck.Deck.placed_keys_holding.Goals as goal

pub returns-clause-keys : goal.returns-clause-keys
returns-clause-keys c =
    let s = c.self.inside in
    let are = keys_found s.store c.in_ok-push_all_placed.ensures.numbering (active_definitions s.settings s.store.lines)
    (active_definitions_in_place s.settings s.store.lines) s.last c.self.invariant.indexed.places
    c.key_order_law.ensures c.new-finder.result
    (map placed_deck_key c.push_all_placed.new.keys.items) (map placed_deck_key c.in_order.result.items)
    c.in_ok-push_all_placed.ensures.keys
    (IsPermutation-map placed_deck_key _ _ c.in_order.ensures.same)
    (sorted_map key_cmp placed_deck_key c.in_order.result.items (c.in_order.ensures.sorted c.key_order_law.ensures)) in
    deck_keys_holding_are_found c.new-finder.result
    (table_of_deck_definitions (active_definitions s.settings s.store.lines))
    (map placed_deck_key c.in_order.result.items) are.0 are.1
    ∙ ap (λ (t : List ℕ).
    deck_keys_holding_text t (table_of_deck_definitions (active_definitions s.settings s.store.lines)))
    c.new-finder.ensures
    ∙ ap (λ (d : DeckContents). deck_keys_holding_text c.args.text.now (table_of_deck d)) c.self.view_is

pub returns-clause-in_place : goal.returns-clause-in_place
returns-clause-in_place c =
    subst (λ (d : DeckContents). All (IsKeyInDefinitionPlace d.lines) c.in_order.result.items) c.self.view_is
    (All-permutation (IsKeyInDefinitionPlace c.self.inside.store.lines) _ _ c.in_order.ensures.same
    c.in_ok-push_all_placed.ensures.in_place)

pub push_all_placed-requires-clause-places : goal.push_all_placed-requires-clause-places
push_all_placed-requires-clause-places c =
    let s = c.self.inside in
    keys_in_definition_places s.store s.last (active_definitions s.settings s.store.lines)
    (active_definitions_in_place s.settings s.store.lines) c.self.invariant.indexed.places
