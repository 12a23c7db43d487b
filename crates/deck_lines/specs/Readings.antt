-- The meaning of a line.
use Rattle.std.specs.Prelude.{ℕ, List, codes, if◌then◌else◌, Option, Some, None, Result, Ok, Err}
use Rattle.def_lines.specs.Kinds.{LineKindWithArguments, kind_of_line, Definition, Include, UnitList, UnknownDirective}
use Rattle.def_lines.specs.Kinds.{BadDirective}
use Rattle.def_entry.specs.declared.key.Key.{Key}
use Rattle.def_entry.specs.declared.fault.EntryFault.{EntryFault}
use Rattle.def_entry.specs.Entries.{Entry}
use Rattle.def_entry.specs.Faults.{entry_fault_text}
use Rattle.def_entry.specs.EntryReading.{entry_of}
use Rattle.deck_lines.specs.Blocks.{block_role_of_kind}
use Rattle.deck_lines.specs.declared.line.DeckLine.{DeckLine}
use Rattle.deck_lines.specs.declared.line.Role.{Role}

-- a line opens or closes a block or does neither, defines a key, includes the file of a name, or has the fault that a
-- text describes
pub data StoreLineReading : Type 0 where
  Stands : Role → StoreLineReading
  Defines : Key × Entry → StoreLineReading
  Includes : List ℕ → StoreLineReading
  Faulty : List ℕ → StoreLineReading

-- the meaning of a line that should define a key
abbrev pub store_line_reading_of_entry : Result (Key × Entry) EntryFault → StoreLineReading
store_line_reading_of_entry (Ok entry) = Defines entry
store_line_reading_of_entry (Err fault) = Faulty (entry_fault_text fault)

-- the meaning of a line of this kind
abbrev pub store_line_reading_by_kind : List ℕ → LineKindWithArguments → StoreLineReading
store_line_reading_by_kind text Definition = store_line_reading_of_entry (entry_of text)
store_line_reading_by_kind text UnitList = store_line_reading_of_entry (entry_of text)
store_line_reading_by_kind text (Include name) = Includes name
store_line_reading_by_kind text UnknownDirective = Faulty (codes "unknown directive")
store_line_reading_by_kind text BadDirective = Faulty (codes "bad directive")
store_line_reading_by_kind text kind = Stands (block_role_of_kind kind)

unfoldable pub store_line_reading_of : List ℕ → StoreLineReading
store_line_reading_of text = store_line_reading_by_kind text (kind_of_line text)

abbrev pub defined_by : StoreLineReading → Option (Key × Entry)
defined_by (Defines entry) = Some entry
defined_by _ = None

-- the definition of a line, if it has one; a line with the mark defines nothing
unfoldable pub entry_in_store_line : DeckLine → Option (Key × Entry)
entry_in_store_line line = if line.mark then None else defined_by (store_line_reading_of line.text)
