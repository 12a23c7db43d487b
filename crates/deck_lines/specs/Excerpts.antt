-- The deck of a file, given the result of each include.
use Rattle.std.specs.Prelude.{◌++◌, ℕ, List, [], ◌∷◌, Bool, false, if◌then◌else◌, codes, map, reverse}
use Rattle.std.specs.Fmt.{decimal}
use Rattle.def_lines.specs.declared.line.Line.{Line}
use Rattle.def_lines.specs.Lines.{logical_lines, nonblank_lines}
use Rattle.deck_lines.specs.Blocks.{block_end_text, same_block_ending}
use Rattle.deck_lines.specs.Marks.{marked_store_line, plain_store_line}
use Rattle.deck_lines.specs.Readings.{StoreLineReading, Stands, Defines, Includes, Faulty, store_line_reading_of}
use Rattle.deck_lines.specs.declared.line.DeckLine.{DeckLine}
use Rattle.deck_lines.specs.declared.line.Ending.{Ending}
use Rattle.deck_lines.specs.declared.line.Block.{Block}
use Rattle.deck_lines.specs.declared.line.Role.{Role}
use Rattle.deck_lines.specs.declared.line.Role.TheVariants.{Opens, Closes, Inside}

-- the lines and the notices of a file or of a part of a file, in order
pub record Excerpt : Type 0 where
  pub lines : List DeckLine
  pub notices : List (List ℕ)

-- the result of an include: the deck of a file that is read, or the text of the notice about a file that is not read
pub data Included : Type 0 where
  Read : Excerpt → Included
  NotRead : List ℕ → Included

-- two parts of a file, one after the other
abbrev pub excerpts_in_turn : Excerpt → Excerpt → Excerpt
excerpts_in_turn first second =
    record { lines = first.lines ++ second.lines; notices = first.notices ++ second.notices }

-- a notice: the name of its file, the number of its line, and its text
abbrev pub notice : List ℕ → ℕ → List ℕ → List ℕ
notice file number text = file ++ codes ":" ++ decimal number ++ codes ": " ++ text

-- a line that has effect
abbrev pub line_without_notice : Line → Excerpt
line_without_notice line = record { lines = plain_store_line line.number line.text ∷ []; notices = [] }

-- a line that has no effect, and its notice
abbrev pub line_with_notice : List ℕ → Line → List ℕ → Excerpt
line_with_notice file line text =
    record { lines = marked_store_line line.number line.text ∷ []; notices = notice file line.number text ∷ [] }

-- an include line, followed by the deck of the file if that is read
abbrev pub include_excerpt : List ℕ → Line → Included → Excerpt
include_excerpt file line (Read excerpt) = excerpts_in_turn (line_without_notice line) excerpt
include_excerpt file line (NotRead text) = line_with_notice file line text

-- an end line with this ending closes the innermost of the open blocks, which comes first
abbrev pub closes_innermost_block : Ending → List Block → Bool
closes_innermost_block ending [] = false
closes_innermost_block ending (block ∷ blocks) = same_block_ending ending block.ending

-- the excerpt of a line that opens a block, closes one, or does neither; an end line that does not close the innermost
-- block gets a notice
abbrev pub role_excerpt : List ℕ → List Block → Line → Role → Excerpt
role_excerpt file blocks line (Closes ending) =
    if closes_innermost_block ending blocks then line_without_notice line else line_with_notice file line
    (codes "stray end")
role_excerpt file blocks line (Opens ending) = line_without_notice line
role_excerpt file blocks line Inside = line_without_notice line

-- the excerpt of one line of a file in which these blocks are open, given the meaning of the line
abbrev pub line_excerpt : (List ℕ → Included) → List ℕ → List Block → Line → StoreLineReading → Excerpt
line_excerpt included file blocks line (Stands role) = role_excerpt file blocks line role
line_excerpt included file blocks line (Defines entry) = line_without_notice line
line_excerpt included file blocks line (Includes name) = include_excerpt file line (included name)
line_excerpt included file blocks line (Faulty text) = line_with_notice file line text

-- all blocks but the innermost
abbrev pub outer_blocks : List Block → List Block
outer_blocks [] = []
outer_blocks (block ∷ blocks) = blocks

-- the open blocks of a file after a line with this number and role
abbrev pub blocks_behind_role : List Block → ℕ → Role → List Block
blocks_behind_role blocks number (Opens ending) = record { ending = ending; number = number } ∷ blocks
blocks_behind_role blocks number (Closes ending) = if closes_innermost_block ending blocks then outer_blocks blocks else
    blocks
blocks_behind_role blocks number Inside = blocks

-- the open blocks of a file after a line; the blocks of an included file are closed at its end
abbrev pub blocks_behind_line : List Block → Line → StoreLineReading → List Block
blocks_behind_line blocks line (Stands role) = blocks_behind_role blocks line.number role
blocks_behind_line blocks line _ = blocks

-- the missing end line of a block, with the number of the line that opened the block
abbrev pub missing_block_end : Block → DeckLine
missing_block_end block = plain_store_line block.number (block_end_text block.ending)

-- the notice for a block without an end line, at the line that opened the block
abbrev pub unclosed_notice : List ℕ → Block → List ℕ
unclosed_notice file block = notice file block.number (codes "unclosed block")

-- the end of a file: the missing end lines, innermost first, and their notices in the order of the lines that opened
-- the blocks
abbrev pub excerpt_of_file_end : List ℕ → List Block → Excerpt
excerpt_of_file_end file blocks =
    record { lines = map missing_block_end blocks; notices = map (unclosed_notice file) (reverse blocks) }

-- the excerpt of the rest of a file in which these blocks are open, innermost first
unfoldable pub rest_excerpt : (List ℕ → Included) → List ℕ → List Block → List Line → Excerpt
rest_excerpt included file blocks [] = excerpt_of_file_end file blocks
rest_excerpt included file blocks (line ∷ lines) =
    excerpts_in_turn (line_excerpt included file blocks line (store_line_reading_of line.text))
    (rest_excerpt included file (blocks_behind_line blocks line (store_line_reading_of line.text)) lines)

-- the deck of a file with this name and these bytes: the excerpts of its logical lines except blank ones
abbrev pub file_excerpt : (List ℕ → Included) → List ℕ → List ℕ → Excerpt
file_excerpt included file bytes = rest_excerpt included file [] (nonblank_lines (logical_lines bytes))
