use Rattle.std.proofs.Common.{◌≡◌, ◌∙◌, ◌++◌, List, ap, arith, get_or, subst, sym, ℕ}
use Rattle.std.specs.Prelude.{Result}
use Rattle.std.specs.declared.alloc.AllocError.{AllocError}
use Rattle.std.proofs.lemmas.Option.{slice_get-get_or}
use Rattle.std.proofs.lemmas.Result.{err_from_is_err_and}
use Rattle.def_entry.specs.declared.key.Key.{Key}
use Rattle.deck.specs.Decks.{DeckContents}
use Rattle.deck.specs.PlacedKeys.{deck_keys_at_places}
use Rattle.deck.specs.Tables.{table_of_deck}
use Rattle.live_table.specs.Calls.{AreLiveQueries}
use Rattle.live_table.specs.TableView.{AreLiveEventsCutOff, IsAfterLiveEvents}
use Rattle.live_table.specs.States.{LiveEvent}
use Rattle.survey.specs.Conformable.{conforming_row, unit_queries, value_of_unit}
use Rattle.survey.proofs.Places.{row_at, unit_queries_at}
use Rattle.survey.proofs.ItemReports.{underway-cut, underway-follows, underway-next, underway-text}
use Rattle.survey.proofs.UnitRows.{conformable-units-of-each-place}
use Rattle.survey.proofs.conformable_units.UnitSearch.put_rows.Goals as goal

pub loop-place-preserved : goal.loop-place-preserved
loop-place-preserved g c =
    let place = get_or c.args.self.now.places.now c.loop-place.place-index 0 in
    underway-next (row_at c.args.table.now.deck c.args.self.now.from.now) (unit_queries_at c.args.table.now.deck)
    c.args.self.now.places.now c.loop-place.place-index c.args.rows.now.items c.loop-place.rows.items c.args.table.now
    c.loop-place.table c.args.steps.now c.loop-place.steps c.loop-place.invariant place
    (slice_get-get_or c.args.self.now.places.now c.loop-place.place-index 0 (omega arith))
    c.put_row_at.new.table c.put_row_at.new.steps c.put_row_at.new.rows.items
    (subst (λ (d : DeckContents). c.put_row_at.new.rows.items
    ≡ c.loop-place.rows.items ++ row_at d c.args.self.now.from.now place)
    c.loop-place.invariant.deck c.in_ok-put_row_at.ensures.rows)
    c.put_row_at.ensures.deck
    (subst (λ (d : DeckContents). IsAfterLiveEvents (unit_queries_at d place)
    c.loop-place.table c.put_row_at.new.table c.loop-place.steps c.put_row_at.new.steps)
    c.loop-place.invariant.deck c.in_ok-put_row_at.ensures.queries)

pub returns-in_err-put_row_at-clause-queries : goal.returns-in_err-put_row_at-clause-queries
returns-in_err-put_row_at-clause-queries g c =
    let place = get_or c.args.self.now.places.now c.loop-place.place-index 0 in
    let p = err_from_is_err_and c.from_residual.result c.from_residual.ensures.1 in
    let deck = c.args.table.now.deck in
    subst (λ (r : Result (Unit {0}) AllocError). AreLiveQueries
    (unit_queries (table_of_deck deck) (deck_keys_at_places deck.lines c.args.self.now.places.now)) r c.args.table.now
    c.put_row_at.new.table c.args.steps.now c.put_row_at.new.steps) (sym p.1)
    (subst (λ (es : List LiveEvent). AreLiveEventsCutOff es c.args.table.now c.put_row_at.new.table c.args.steps.now
    c.put_row_at.new.steps)
    (sym (conformable-units-of-each-place (λ (k : Key). (value_of_unit (table_of_deck deck) k).events) deck
    c.args.self.now.places.now))
    (underway-cut (row_at deck c.args.self.now.from.now) (unit_queries_at deck) c.args.self.now.places.now
    c.loop-place.place-index c.args.rows.now.items c.loop-place.rows.items c.args.table.now c.loop-place.table
    c.args.steps.now c.loop-place.steps c.loop-place.invariant place
    (slice_get-get_or c.args.self.now.places.now c.loop-place.place-index 0 (omega arith))
    c.put_row_at.new.table c.put_row_at.new.steps
    (subst (λ (d : DeckContents). AreLiveEventsCutOff (unit_queries_at d place)
    c.loop-place.table c.put_row_at.new.table c.loop-place.steps c.put_row_at.new.steps)
    c.loop-place.invariant.deck c.in_err-put_row_at.ensures.queries)))

pub returns-clause-rows : goal.returns-clause-rows
returns-clause-rows g c =
    let deck = c.args.table.now.deck in
    underway-text (row_at deck c.args.self.now.from.now) (unit_queries_at deck) c.args.self.now.places.now
    c.loop-place.place-index
    c.args.rows.now.items c.loop-place.rows.items c.args.table.now c.loop-place.table c.args.steps.now
    c.loop-place.steps c.loop-place.invariant (omega arith)
    ∙ ap (λ (xs : List ℕ). c.args.rows.now.items ++ xs)
    (sym (conformable-units-of-each-place (conforming_row (table_of_deck deck) c.args.self.now.from.now) deck
    c.args.self.now.places.now))

pub returns-clause-queries : goal.returns-clause-queries
returns-clause-queries g c =
    let deck = c.args.table.now.deck in
    subst (λ (es : List LiveEvent). IsAfterLiveEvents es c.args.table.now c.loop-place.table c.args.steps.now
    c.loop-place.steps)
    (sym (conformable-units-of-each-place (λ (k : Key). (value_of_unit (table_of_deck deck) k).events) deck
    c.args.self.now.places.now))
    (underway-follows (row_at deck c.args.self.now.from.now) (unit_queries_at deck) c.args.self.now.places.now
    c.loop-place.place-index c.args.rows.now.items c.loop-place.rows.items c.args.table.now c.loop-place.table
    c.args.steps.now c.loop-place.steps c.loop-place.invariant (omega arith))
