-- The covered lines when the last active line of a key is removed.
use Rattle.std.proofs.Common.{◌≡◌, ◌++◌, ◌<◌, ◌+◌, ℕ, List, false, length, map, set, take, drop, sym, ap, subst, ◌∙◌}
use Rattle.std.proofs.Common.{arith, Option, Some, option_map, slice_get, add-one}
use Rattle.std.proofs.lemmas.List.{length-map}
use Rattle.std.proofs.lemmas.List.Edits.{length-remove}
use Rattle.std.specs.List.{remove}
use Rattle.def_entry.specs.Entries.{Entry}
use Rattle.def_entry.specs.declared.key.Key.{Key}
use Rattle.gap_list.specs.Gaps.{without_gap}
use Rattle.deck_lines.specs.declared.line.DeckLine.{DeckLine}
use Rattle.deck.specs.Active.{active_lines, deck_surroundings_at_start}
use Rattle.deck.specs.CoveredLines.{AreCoveredDefinitionPlaces, MayCoverDefinitions}
use Rattle.deck.specs.Tables.{active_definitions, active_definitions_among, definition_place_of}
use Rattle.deck.specs.declared.settings.Settings.{Settings}
use Rattle.deck.proofs.CoveredPlaces.{covered_last, covered_left}
use Rattle.deck.proofs.ActiveLineFlags.{length-active_line_flags}
use Rattle.deck.proofs.RemovedLine.{DefinesAt, definitions_dropped, dropped, moved, place_in_lines}

module _ (settings : Settings) (lines : List DeckLine) (place : ℕ) (k : Key) (e : Entry)
    (defines : DefinesAt lines place (k, e))
    (was : definition_place_of (active_definitions settings lines) k ≡ Some place)
    (covered : List (Option ℕ))
    (are : MayCoverDefinitions (length lines) (active_definitions settings lines) (Some covered)) where
  count : length (active_lines settings lines) ≡ length lines
  count = length-active_line_flags settings.locale (deck_surroundings_at_start settings) lines

  -- the line covers the last line of the key among the others
  pub covers_last : slice_get covered place
      ≡ Some (definition_place_of (active_definitions_among (set (active_lines settings lines) place false) lines) k)
  unfolding active_definitions
  covers_last = covered_last (active_lines settings lines) lines place k e count defines was covered are.1

  others_covered : AreCoveredDefinitionPlaces
      (moved place (active_definitions_among (set (active_lines settings lines) place false) lines))
      (map (option_map (without_gap place)) (remove covered place))
  unfolding active_definitions
  others_covered = covered_left (active_lines settings lines) lines place k e count defines was covered are.1

  -- the others cover the same lines without it
  pub cover_left : (left : List DeckLine) (rest : List (Option ℕ)) → left ≡ dropped place lines
      → rest ≡ map (option_map (without_gap place)) (remove covered place)
      → MayCoverDefinitions (length left) (active_definitions settings left) (Some rest)
  cover_left left rest left_is rest_is =
      let within : place < length lines = place_in_lines settings lines place (k, e) defines in
      let shorter : length (remove covered place) + 1 ≡ length covered =
      length-remove covered place (omega (arith, within, are.0)) in
      let fewer : length (remove lines place) + 1 ≡ length lines = length-remove lines place within in
      let same : dropped place lines ≡ remove lines place =
      ap (λ n. take place lines ++ drop n lines) (add-one place) in (
        omega (
          arith,
          ap length rest_is,
          length-map (remove covered place) (option_map (without_gap place)),
          shorter,
          are.0,
          ap length (left_is ∙ same),
          fewer,
        ),
        subst (λ ds. AreCoveredDefinitionPlaces ds rest)
            (sym (ap (active_definitions settings) left_is ∙ definitions_dropped settings lines place (k, e) defines))
            (subst (AreCoveredDefinitionPlaces
            (moved place (active_definitions_among (set (active_lines settings lines) place false) lines)))
            (sym rest_is) others_covered),
      )
