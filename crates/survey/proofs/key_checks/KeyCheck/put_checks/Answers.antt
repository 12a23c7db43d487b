use Rattle.std.proofs.Common.{◌≡◌, ◌∙◌, ◌++◌, List, ap, arith, get_or, subst, sym, ℕ}
use Rattle.std.specs.Prelude.{Result}
use Rattle.std.specs.declared.alloc.AllocError.{AllocError}
use Rattle.std.proofs.lemmas.Option.{slice_get-get_or}
use Rattle.std.proofs.lemmas.Result.{err_from_is_err_and}
use Rattle.def_entry.specs.declared.key.Key.{Key}
use Rattle.deck.specs.Decks.{DeckContents}
use Rattle.deck.specs.PlacedKeys.{deck_keys_at_places}
use Rattle.deck.specs.Tables.{table_of_deck}
use Rattle.live_table.specs.Calls.{AreLiveQueries}
use Rattle.live_table.specs.TableView.{AreLiveEventsCutOff, IsAfterLiveEvents}
use Rattle.live_table.specs.States.{LiveEvent}
use Rattle.reply.specs.Options.{reply_style}
use Rattle.survey.specs.Checks.{check_line, key_finding, queries_among}
use Rattle.survey.proofs.Places.{line_at, queries_at, search-hits-of-each-place}
use Rattle.survey.proofs.ItemReports.{underway-cut, underway-follows, underway-next, underway-text}
use Rattle.survey.proofs.key_checks.KeyCheck.put_checks.Goals as goal

pub loop-place-preserved : goal.loop-place-preserved
loop-place-preserved g c =
    let place = get_or c.args.self.now.places.now c.loop-place.place-index 0 in
    underway-next (line_at c.args.table.now.deck (reply_style c.args.self.now.options.now))
    (queries_at c.args.table.now.deck)
    c.args.self.now.places.now c.loop-place.place-index c.args.lines.now.items c.loop-place.lines.items c.args.table.now
    c.loop-place.table c.args.steps.now c.loop-place.steps c.loop-place.invariant place
    (slice_get-get_or c.args.self.now.places.now c.loop-place.place-index 0 (omega arith))
    c.put_check_at.new.table c.put_check_at.new.steps c.put_check_at.new.lines.items
    (subst (λ (d : DeckContents). c.put_check_at.new.lines.items
    ≡ c.loop-place.lines.items ++ line_at d (reply_style c.args.self.now.options.now) place)
    c.loop-place.invariant.deck c.in_ok-put_check_at.ensures.line)
    c.put_check_at.ensures.deck
    (subst (λ (d : DeckContents). IsAfterLiveEvents (queries_at d place)
    c.loop-place.table c.put_check_at.new.table c.loop-place.steps c.put_check_at.new.steps)
    c.loop-place.invariant.deck c.in_ok-put_check_at.ensures.queries)

pub returns-in_err-put_check_at-clause-queries : goal.returns-in_err-put_check_at-clause-queries
returns-in_err-put_check_at-clause-queries g c =
    let place = get_or c.args.self.now.places.now c.loop-place.place-index 0 in
    let p = err_from_is_err_and c.from_residual.result c.from_residual.ensures.1 in
    let deck = c.args.table.now.deck in
    subst (λ (r : Result (Unit {0}) AllocError). AreLiveQueries
    (queries_among (table_of_deck deck) (deck_keys_at_places deck.lines c.args.self.now.places.now)) r c.args.table.now
    c.put_check_at.new.table c.args.steps.now c.put_check_at.new.steps) (sym p.1)
    (subst (λ (es : List LiveEvent). AreLiveEventsCutOff es c.args.table.now c.put_check_at.new.table c.args.steps.now
    c.put_check_at.new.steps)
    (sym (search-hits-of-each-place (λ (k : Key). (key_finding (table_of_deck deck) k).events) deck
    c.args.self.now.places.now))
    (underway-cut (line_at deck (reply_style c.args.self.now.options.now)) (queries_at deck) c.args.self.now.places.now
    c.loop-place.place-index c.args.lines.now.items c.loop-place.lines.items c.args.table.now c.loop-place.table
    c.args.steps.now c.loop-place.steps c.loop-place.invariant place
    (slice_get-get_or c.args.self.now.places.now c.loop-place.place-index 0 (omega arith))
    c.put_check_at.new.table c.put_check_at.new.steps
    (subst (λ (d : DeckContents). AreLiveEventsCutOff (queries_at d place)
    c.loop-place.table c.put_check_at.new.table c.loop-place.steps c.put_check_at.new.steps)
    c.loop-place.invariant.deck c.in_err-put_check_at.ensures.queries)))

pub returns-clause-lines : goal.returns-clause-lines
returns-clause-lines g c =
    let deck = c.args.table.now.deck in
    underway-text (line_at deck (reply_style c.args.self.now.options.now)) (queries_at deck) c.args.self.now.places.now
    c.loop-place.place-index c.args.lines.now.items c.loop-place.lines.items c.args.table.now c.loop-place.table
    c.args.steps.now c.loop-place.steps c.loop-place.invariant (omega arith)
    ∙ ap (λ (xs : List ℕ). c.args.lines.now.items ++ xs)
    (sym (search-hits-of-each-place (check_line (table_of_deck deck) (reply_style c.args.self.now.options.now)) deck
    c.args.self.now.places.now))

pub returns-clause-queries : goal.returns-clause-queries
returns-clause-queries g c =
    let deck = c.args.table.now.deck in
    subst (λ (es : List LiveEvent). IsAfterLiveEvents es c.args.table.now c.loop-place.table c.args.steps.now
    c.loop-place.steps)
    (sym (search-hits-of-each-place (λ (k : Key). (key_finding (table_of_deck deck) k).events) deck
    c.args.self.now.places.now))
    (underway-follows (line_at deck (reply_style c.args.self.now.options.now)) (queries_at deck)
    c.args.self.now.places.now
    c.loop-place.place-index c.args.lines.now.items c.loop-place.lines.items c.args.table.now c.loop-place.table
    c.args.steps.now c.loop-place.steps c.loop-place.invariant (omega arith))
