-- The lines of a deck with their files.
use Rattle.std.specs.Prelude.{◌++◌, ℕ, zero, suc, List, [], ◌∷◌, map, Result, Ok, Err}
use Rattle.units_io.specs.FileMap.{FileMap, file_of_name}
use Rattle.units_io.specs.FetchResults.{file_fetch_answer}
use Rattle.units_io.specs.declared.files.FetchFault.{FetchFault}
use Rattle.def_lines.specs.declared.line.Line.{Line}
use Rattle.def_lines.specs.Lines.{logical_lines, nonblank_lines}
use Rattle.deck_lines.specs.Excerpts.{Excerpt, Included, Read, NotRead, blocks_behind_line, excerpt_of_file_end}
use Rattle.deck_lines.specs.Excerpts.{line_excerpt}
use Rattle.deck_lines.specs.Includes.{included_by, included_name, most_include_depth}
use Rattle.deck_lines.specs.Marks.{marked_store_line, plain_store_line}
use Rattle.deck_lines.specs.Readings.{StoreLineReading, Stands, Defines, Includes, Faulty, store_line_reading_of}
use Rattle.deck_lines.specs.declared.line.Block.{Block}
use Rattle.deck_lines.specs.declared.line.DeckLine.{DeckLine}

-- a line of a deck, and the name of its file
pub record FileLine : Type 0 where
  pub file : List ℕ
  pub line : DeckLine

abbrev pub line_in_file : List ℕ → DeckLine → FileLine
line_in_file file line = record { file = file; line = line }

-- the lines of an excerpt of one file
abbrev pub excerpt_lines_in_file : List ℕ → Excerpt → List FileLine
excerpt_lines_in_file file excerpt = map (line_in_file file) excerpt.lines

-- an include line, followed by the lines of the included file if that is read
abbrev pub file_lines_of_include : List ℕ → Line → Included → List FileLine → List FileLine
file_lines_of_include file line (Read excerpt) below = line_in_file file (plain_store_line line.number line.text) ∷
    below
file_lines_of_include file line (NotRead text) below = line_in_file file (marked_store_line line.number line.text) ∷ []

module _ (included : List ℕ → Included) (below : List ℕ → List FileLine) (file : List ℕ) where
  -- the lines that one line of a file with these open blocks contributes, given its reading
  abbrev pub line_lines : List Block → Line → StoreLineReading → List FileLine
  line_lines blocks line (Includes name) = file_lines_of_include file line (included name) (below name)
  line_lines blocks line (Stands role) = excerpt_lines_in_file file
      (line_excerpt included file blocks line (Stands role))
  line_lines blocks line (Defines entry) = excerpt_lines_in_file file
      (line_excerpt included file blocks line (Defines entry))
  line_lines blocks line (Faulty text) = excerpt_lines_in_file file
      (line_excerpt included file blocks line (Faulty text))

  -- the lines of the rest of a file with these open blocks
  unfoldable pub rest_lines : List Block → List Line → List FileLine
  rest_lines blocks [] = excerpt_lines_in_file file (excerpt_of_file_end file blocks)
  rest_lines blocks (line ∷ lines) =
      line_lines blocks line (store_line_reading_of line.text)
      ++ rest_lines (blocks_behind_line blocks line (store_line_reading_of line.text)) lines

abbrev pub file_lines_of_answer : (List ℕ → Included) → (List ℕ → List FileLine) → List ℕ → Result (List ℕ) FetchFault
    → List FileLine
file_lines_of_answer included below name (Ok bytes) = rest_lines included below name []
    (nonblank_lines (logical_lines bytes))
file_lines_of_answer included below name (Err fault) = []

-- the lines of an included file and of the files below it, if files may be nested this deep, counting this file
unfoldable pub file_lines_below : FileMap → ℕ → List ℕ → List FileLine
file_lines_below files zero name = []
file_lines_below files (suc depth) name =
    file_lines_of_answer (included_by files depth name) (λ word. file_lines_below files depth (included_name name word))
    name
    (file_fetch_answer (file_of_name files name))

-- the lines of a file with this name and these bytes, if files may be nested this deep below it
abbrev pub file_lines_above : FileMap → ℕ → List ℕ → List ℕ → List FileLine
file_lines_above files depth name bytes =
    rest_lines (included_by files depth name) (λ word. file_lines_below files depth (included_name name word)) name []
    (nonblank_lines (logical_lines bytes))

-- the lines that one line of a file contributes
abbrev pub file_lines_of_line : FileMap → ℕ → List ℕ → List Block → Line → List FileLine
file_lines_of_line files depth name blocks line =
    line_lines (included_by files depth name) (λ word. file_lines_below files depth (included_name name word)) name
    blocks
    line
    (store_line_reading_of line.text)

-- the lines of a file with this name and these bytes, and of the files that it includes
abbrev pub file_lines : FileMap → List ℕ → List ℕ → List FileLine
file_lines files name bytes = file_lines_above files most_include_depth name bytes

-- the file of each line
abbrev pub line_file_names : List FileLine → List (List ℕ)
line_file_names lines = map (λ line. line.file) lines
