use Rattle.std.proofs.Common.{◌∙◌, ◌++◌, List, ap, arith, sym, ℕ}
use Rattle.std.proofs.lemmas.List.{append-nil, drop_all}
use Rattle.std.specs.List.{flat_map}
use Rattle.deck.specs.PlacedKeys.{deck_key_at_place}
use Rattle.deck.specs.Tables.{table_of_deck}
use Rattle.survey.specs.Places.{search_hits_of_key}
use Rattle.survey.specs.Rows.{search_hit_row_of_key}
use Rattle.survey.proofs.Places.{search-hits-of-each-place}
use Rattle.survey.proofs.name_search.put_rows.Goals as goal

pub returns : goal.returns
returns c =
    let deck = c.args.deck.now in
    let rows : List ℕ → List ℕ =
    flat_map (λ place. search_hits_of_key (search_hit_row_of_key (table_of_deck deck))
    (deck_key_at_place deck.lines place)) in
    sym (append-nil c.loop-place.rows.items)
    ∙ ap (λ places. c.loop-place.rows.items ++ rows places)
    (sym (drop_all c.loop-place.place-index c.args.places.now (omega arith)))
    ∙ c.loop-place.invariant
    ∙ ap (λ xs. c.args.rows.now.items ++ xs)
    (sym (search-hits-of-each-place (search_hit_row_of_key (table_of_deck deck)) deck c.args.places.now))
