-- The view of the meaning of a line.
use Rattle.std.specs.Prelude.{ℕ, List}
use Rattle.def_entry.specs.LineViews.{seen_entry}
use Rattle.deck_lines.specs.Readings.{StoreLineReading, Stands, Defines, Includes, Faulty}
use Rattle.deck_lines.specs.declared.line_meaning.Reading.{Reading as LineReading}
use Rattle.deck_lines.specs.declared.line_meaning.Reading.TheVariants as line

abbrev pub seen_store_line_reading : List ℕ → LineReading → StoreLineReading
seen_store_line_reading text (line.Stands role) = Stands role
seen_store_line_reading text (line.Defines key what) = Defines (seen_entry text (key, what))
seen_store_line_reading text (line.Includes name) = Includes name.now
seen_store_line_reading text (line.Faulty reason) = Faulty reason
