-- Blocks of a check report.
use Rattle.std.proofs.Common.{◌≡◌, ◌∙◌, ◌++◌, ℕ, List, ap, subst, sym}
use Rattle.std.specs.Prelude.{Result, Ok, Err, OnErr}
use Rattle.std.specs.List.{flat_map}
use Rattle.def_entry.specs.declared.key.Key.{Key}
use Rattle.deck.specs.Decks.{DeckContents}
use Rattle.deck.specs.PlacedKeys.{deck_keys_at_places}
use Rattle.deck.specs.Tables.{table_of_deck}
use Rattle.digits_print.specs.declared.style.Style.{Style}
use Rattle.live_table.specs.TableView.{AreLiveEventsCutOff, IsAfterLiveEvents, LiveView}
use Rattle.live_table.specs.States.{LiveEvent}
use Rattle.survey.specs.Checks.{check_among, check_line, key_finding, queries_among}
use Rattle.survey.proofs.Places.{line_at, queries_at, search-hits-of-each-place}

-- what holds anyway holds for an error
check_error_holds : {A E : Type 0} (P : Type 0) (r : Result A E) → P → OnErr r P
check_error_holds P (Ok x) p = tt
check_error_holds P (Err e) p = p

module _ (deck : DeckContents) (places : List ℕ) where
  -- the lines of the places are those of the keys there
  pub block_lines : (style : Style) (start bytes : List ℕ) → bytes ≡ start ++ flat_map (line_at deck style) places
      → bytes ≡ start ++ check_among (table_of_deck deck) style (deck_keys_at_places deck.lines places)
  block_lines style start bytes is =
      is ∙ ap (λ (ls : List ℕ). start ++ ls)
      (sym (search-hits-of-each-place (check_line (table_of_deck deck) style) deck places))

  -- the queries of the places are those of the keys there
  pub block_queries : (before after : LiveView) (old new : ℕ)
      → IsAfterLiveEvents (flat_map (queries_at deck) places) before after old new
      → IsAfterLiveEvents (queries_among (table_of_deck deck) (deck_keys_at_places deck.lines places)) before after old
      new
  block_queries before after old new follows =
      subst (λ (es : List LiveEvent). IsAfterLiveEvents es before after old new)
      (sym (search-hits-of-each-place (λ (k : Key). (key_finding (table_of_deck deck) k).events) deck places)) follows

  -- memory ran out: some of the queries of the keys there were made
  pub block_cut : {A E : Type 0} (r : Result A E) (before after : LiveView) (old new : ℕ)
      → AreLiveEventsCutOff (flat_map (queries_at deck) places) before after old new
      → OnErr r (AreLiveEventsCutOff (queries_among (table_of_deck deck) (deck_keys_at_places deck.lines places)) before
      after old new)
  block_cut r before after old new cut =
      check_error_holds (AreLiveEventsCutOff
      (queries_among (table_of_deck deck) (deck_keys_at_places deck.lines places)) before after old new) r
      (subst (λ (es : List LiveEvent). AreLiveEventsCutOff es before after old new)
      (sym (search-hits-of-each-place (λ (k : Key). (key_finding (table_of_deck deck) k).events) deck places)) cut)
