use Rattle.std.proofs.Common.{◌≡◌, ◌++◌, drop}
use Rattle.std.specs.List.{flat_map}
use Rattle.deck.specs.PlacedKeys.{deck_key_at_place}
use Rattle.deck.specs.Tables.{table_of_deck}
use Rattle.survey.specs.Places.{search_hits_of_key}
use Rattle.survey.specs.Rows.{search_hit_row_of_key}
use Rattle.survey.proofs.name_search.put_rows.Given as goal

-- the rows and those of the places left are the rows of all places
abbrev pub invariant-loop-place : goal.invariant-loop-place
invariant-loop-place l =
    l.rows.items
    ++ flat_map (λ place. search_hits_of_key (search_hit_row_of_key (table_of_deck l.deck))
    (deck_key_at_place l.deck.lines place))
    (drop l.place-index l.places)
    ≡ l.initial.rows.items
    ++ flat_map (λ place. search_hits_of_key (search_hit_row_of_key (table_of_deck l.deck))
    (deck_key_at_place l.deck.lines place)) l.places
