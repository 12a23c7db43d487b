-- The lines of files are those of the deck.
use Rattle.std.specs.Prelude.{◌≡◌, ◌⊎◌, ℕ, List, Contains, map, Some}
use Rattle.std.specs.List.{AllByRecursion}
use Rattle.units_io.specs.FileMap.{FileMap, file_of_name}
use Rattle.def_lines.specs.declared.line.Line.{Line}
use Rattle.def_lines.specs.Lines.{logical_lines, nonblank_lines}
use Rattle.deck_lines.specs.Blocks.{block_end_text}
use Rattle.deck_lines.specs.Includes.{excerpt_of_deck_file}
use Rattle.deck_lines.specs.declared.line.DeckLine.{DeckLine}
use Rattle.deck_lines.specs.declared.line.Ending.{Ending}
use Rattle.value_sources.specs.FileLines.{FileLine, file_lines}

-- a line of a deck has the number and the text of one of these lines, or it is the missing end line of a block and has
-- the number of the line that opens the block
pub record IsLineOfFile (lines : List Line) (line : DeckLine) : Type 0 where
  pub source : Line
  pub source_is_there : Contains lines source
  pub number : line.number ≡ source.number
  pub text : (line.text ≡ source.text) ⊎ ((ending : Ending) × (line.text ≡ block_end_text ending))

-- a line is in its file
abbrev pub IsLineInItsFile : FileMap → FileLine → Type 0
IsLineInItsFile files x =
    (bytes : List ℕ) × (file_of_name files x.file ≡ Some bytes) × IsLineOfFile (nonblank_lines (logical_lines bytes))
    x.line

-- law: without their files, `file_lines` are the lines of the deck, in order, and each is in its file
pub record FileLinesLaw : Type 0 where
  pub lines : (files : FileMap) (name bytes : List ℕ)
      → map (λ x. x.line) (file_lines files name bytes) ≡ (excerpt_of_deck_file files name bytes).lines
  pub files : (files : FileMap) (name bytes : List ℕ) → file_of_name files name ≡ Some bytes
      → AllByRecursion (IsLineInItsFile files) (file_lines files name bytes)
