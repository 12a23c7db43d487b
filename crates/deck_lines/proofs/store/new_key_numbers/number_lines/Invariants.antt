use Rattle.std.proofs.Common.{◌≡◌, map, take}
use Rattle.deck_lines.specs.Loads.{key_numbers_by_definitions}
use Rattle.deck_lines.specs.Names.{AreKeyNumbersOneToOne, no_key_number_names}
use Rattle.deck_lines.specs.NumberedKeys.{key_number_names_in}
use Rattle.deck_lines.specs.Readings.{entry_in_store_line}
use Rattle.deck_lines.specs.Renumberings.{AreKeyNumbersOfLines}
use Rattle.deck_lines.proofs.store.new_key_numbers.number_lines.Given as goal

abbrev pub invariant-loop-place : goal.invariant-loop-place
invariant-loop-place l = record {
  names : key_number_names_in l.keys ≡ key_numbers_by_definitions no_key_number_names (take l.place l.store.lines);
  each : AreKeyNumbersOfLines (key_number_names_in l.keys) l.of_lines.items
      (map entry_in_store_line (take l.place l.store.lines));
  unique : AreKeyNumbersOneToOne (key_number_names_in l.keys);
}
