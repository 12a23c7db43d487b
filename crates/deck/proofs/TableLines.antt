-- The sizes of the table of a deck and its lines.
use Rattle.std.proofs.Common.{◌≡◌, ◌≤◌, ◌+◌, ◌∷◌, [], ℕ, List, Bool, true, false, length, arith, Option, Some}
use Rattle.std.proofs.Common.{None, length-append}
use Rattle.std.proofs.lemmas.List.{length-map, length-reverse}
use Rattle.def_entry.specs.declared.key.Key.{Key}
use Rattle.def_entry.specs.Entries.{Entry}
use Rattle.deck_lines.specs.Readings.{entry_in_store_line}
use Rattle.deck_lines.specs.declared.line.DeckLine.{DeckLine}
use Rattle.deck.specs.Active.{active_lines}
use Rattle.deck.specs.Decks.{DeckContents}
use Rattle.deck.specs.Tables.{DeckTableLaw, active_definitions, active_definitions_from, definition_of_active_line}
use Rattle.deck.specs.Tables.{table_of_deck}
use Rattle.deck.proofs.ChangedKeys.{deck_entry_has_place}
use Rattle.deck.proofs.PlacedDefinitions.{active_definitions_in_place}

-- a line defines at most one key
active_line_defines_one_at_most : (place : ℕ) (active : Bool) (o : Option (Key × Entry))
    → length (definition_of_active_line place active o) ≤ 1
active_line_defines_one_at_most place active None = omega arith
active_line_defines_one_at_most place true (Some p) = omega arith
active_line_defines_one_at_most place false (Some p) = omega arith

-- lines define at most as many keys as there are lines
active_definitions_from_short : (place : ℕ) (flags : List Bool) (lines : List DeckLine)
    → length (active_definitions_from place flags lines) ≤ length lines
active_definitions_from_short place [] lines = omega arith
active_definitions_from_short place (f ∷ flags) [] = omega arith
active_definitions_from_short place (f ∷ flags) (x ∷ lines) =
    omega (
      arith,
      active_line_defines_one_at_most place f (entry_in_store_line x),
      active_definitions_from_short (place + 1) flags lines,
      length-append (definition_of_active_line place f (entry_in_store_line x))
          (active_definitions_from (place + 1) flags lines),
    )

-- a table has at most as many entries as there are lines
deck_table_is_short : (d : DeckContents) → length (table_of_deck d) ≤ length d.lines
unfolding active_definitions
deck_table_is_short d =
    let mapped : length (table_of_deck d) ≡ length (active_definitions d.settings d.lines) =
    length-map (active_definitions d.settings d.lines) _ in
    let turned : length (active_definitions d.settings d.lines)
    ≡ length (active_definitions_from 0 (active_lines d.settings d.lines) d.lines) = length-reverse _ in
    omega (arith, mapped, turned, active_definitions_from_short 0 (active_lines d.settings d.lines) d.lines)

-- the law of tables
pub deck_table_law : DeckTableLaw
deck_table_law = record {
  table_length = deck_table_is_short;
  gives_each = λ d k e h. deck_entry_has_place d.lines (active_definitions d.settings d.lines)
      (active_definitions_in_place d.settings d.lines) k e
      h;
}
