use Rattle.std.proofs.Common.{map, take}
use Rattle.deck_lines.specs.StoredDefinitions.{IsStoreDefined}
use Rattle.deck_lines.specs.Names.{AreKeyNumbersExtended, AreKeyNumbersOneToOne}
use Rattle.deck_lines.specs.NumberedKeys.{key_number_names_in}
use Rattle.deck_lines.specs.Readings.{entry_in_store_line}
use Rattle.deck_lines.proofs.store.reads.read_definitions.Given as goal

abbrev pub invariant-loop-line : goal.invariant-loop-line
invariant-loop-line l = record {
  extended : AreKeyNumbersExtended (key_number_names_in l.initial.keys) (key_number_names_in l.keys);
  unique : AreKeyNumbersOneToOne (key_number_names_in l.initial.keys)
      → AreKeyNumbersOneToOne (key_number_names_in l.keys);
  defined : IsStoreDefined (key_number_names_in l.keys) l.definitions.items
      (map entry_in_store_line (take l.line-index l.lines));
}
