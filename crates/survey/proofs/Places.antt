-- Keys by their places, one place after another.
use Rattle.std.proofs.Common.{◌≡◌, ◌++◌, ℕ, List, [], ◌∷◌, refl, ap, Option, Some, None}
use Rattle.std.specs.List.{cons_option, flat_map}
use Rattle.digits_print.specs.declared.style.Style.{Style}
use Rattle.quantity.specs.Amount.{Amount}
use Rattle.def_entry.specs.declared.key.Key.{Key}
use Rattle.deck.specs.Decks.{DeckContents}
use Rattle.deck.specs.PlacedKeys.{deck_key_at_place, deck_keys_at_places}
use Rattle.deck.specs.Tables.{table_of_deck}
use Rattle.live_table.specs.States.{LiveEvent}
use Rattle.survey.specs.Checks.{check_line, key_finding}
use Rattle.survey.specs.Conformable.{conforming_row, value_of_unit}
use Rattle.survey.specs.Places.{conformable_unit_at_place, search_hits_of_key}

-- what the keys at places give is what the places give, one after another
pub search-hits-of-each-place : {A : Type 0} (f : Key → List A) (deck : DeckContents) (places : List ℕ)
    → flat_map f (deck_keys_at_places deck.lines places) ≡ flat_map
    (λ place. search_hits_of_key f (deck_key_at_place deck.lines place)) places
search-hits-of-each-place f deck [] = refl
search-hits-of-each-place {A} f deck (p ∷ ps) = go (deck_key_at_place deck.lines p)
    (search-hits-of-each-place f deck ps)
  where
    rest : List A
    rest = flat_map (λ place. search_hits_of_key f (deck_key_at_place deck.lines place)) ps

    go : (o : Option Key) → flat_map f (deck_keys_at_places deck.lines ps) ≡ rest
        → flat_map f (cons_option o (deck_keys_at_places deck.lines ps)) ≡ search_hits_of_key f o ++ rest
    go None e = e
    go (Some k) e = ap (λ (xs : List A). f k ++ xs) e

module _ (deck : DeckContents) where
  -- the line of the key at a place, and the queries that are made for it
  abbrev pub line_at : Style → ℕ → List ℕ
  line_at style place = search_hits_of_key (check_line (table_of_deck deck) style) (deck_key_at_place deck.lines place)

  abbrev pub queries_at : ℕ → List LiveEvent
  queries_at place = search_hits_of_key (λ k. (key_finding (table_of_deck deck) k).events)
      (deck_key_at_place deck.lines place)

  -- the row of the unit at a place, and the queries that are made for it
  abbrev pub row_at : Amount → ℕ → List ℕ
  row_at from place = search_hits_of_key (conforming_row (table_of_deck deck) from)
      (conformable_unit_at_place deck place)

  abbrev pub unit_queries_at : ℕ → List LiveEvent
  unit_queries_at place = search_hits_of_key (λ k. (value_of_unit (table_of_deck deck) k).events)
      (conformable_unit_at_place deck place)
