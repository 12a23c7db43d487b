-- The lines of files are those of the deck.
use Rattle.std.proofs.Common.{◌≡◌, ◌++◌, false, ℕ, zero, suc, List, [], ◌∷◌, map, refl, ap, ◌∙◌, Result, Ok, Err}
use Rattle.std.proofs.lemmas.List.{map-append}
use Rattle.units_io.specs.FileMap.{FileMap, file_of_name}
use Rattle.units_io.specs.FetchResults.{file_fetch_answer}
use Rattle.units_io.specs.declared.files.FetchFault.{FetchFault}
use Rattle.units_io.specs.declared.files.FetchFault.TheVariants.{Absent, TooLong, Failed, OutOfMemory}
use Rattle.def_lines.specs.declared.line.Line.{Line}
use Rattle.def_lines.specs.Lines.{logical_lines, nonblank_lines}
use Rattle.deck_lines.specs.Excerpts.{Included, NotRead, Read, blocks_behind_line, excerpt_of_file_end, include_excerpt}
use Rattle.deck_lines.specs.Excerpts.{line_excerpt, rest_excerpt}
use Rattle.deck_lines.specs.Includes.{excerpt_of_deck_file, include_of_answer, included_below, included_by}
use Rattle.deck_lines.specs.Includes.{included_name, most_include_depth}
use Rattle.deck_lines.specs.Readings.{Defines, Faulty, Includes, Stands, StoreLineReading, store_line_reading_of}
use Rattle.deck_lines.specs.declared.line.Block.{Block}
use Rattle.deck_lines.specs.declared.line.DeckLine.{DeckLine}
use Rattle.value_sources.specs.FileLines.{FileLine, file_lines, file_lines_of_include, line_in_file, line_lines}
use Rattle.value_sources.specs.FileLines.{file_lines_below, file_lines_of_answer, rest_lines}

-- lines without their files
abbrev pub bare : List FileLine → List DeckLine
bare xs = map (λ x. x.line) xs

-- the lines of the result of an include
abbrev pub included_lines : Included → List DeckLine
included_lines (Read excerpt) = excerpt.lines
included_lines (NotRead text) = []

-- lines that are put in a file are the same lines without the file
lines_in_file_are_same : (file : List ℕ) (lines : List DeckLine) → bare (map (line_in_file file) lines) ≡ lines
lines_in_file_are_same file [] = refl
lines_in_file_are_same file (line ∷ lines) = ap (λ (ls : List DeckLine). line ∷ ls) (lines_in_file_are_same file lines)

module _ (included : List ℕ → Included) (below : List ℕ → List FileLine)
    (same_includes : (name : List ℕ) → bare (below name) ≡ included_lines (included name)) (file : List ℕ) where
  same_include : (line : Line) (i : Included) (xs : List FileLine) → bare xs ≡ included_lines i
      → bare (file_lines_of_include file line i xs) ≡ (include_excerpt file line i).lines
  same_include line (Read excerpt) xs e =
      ap (λ (ls : List DeckLine). record { number = line.number; text = line.text; mark = false } ∷ ls) e
  same_include line (NotRead text) xs e = refl

  same_line : (blocks : List Block) (line : Line) (r : StoreLineReading)
      → bare (line_lines included below file blocks line r) ≡ (line_excerpt included file blocks line r).lines
  same_line blocks line (Includes name) = same_include line (included name) (below name) (same_includes name)
  same_line blocks line (Stands role) = lines_in_file_are_same file
      (line_excerpt included file blocks line (Stands role)).lines
  same_line blocks line (Defines entry) = lines_in_file_are_same file
      (line_excerpt included file blocks line (Defines entry)).lines
  same_line blocks line (Faulty text) = lines_in_file_are_same file
      (line_excerpt included file blocks line (Faulty text)).lines

  pub same_rest : (blocks : List Block) (lines : List Line)
      → bare (rest_lines included below file blocks lines) ≡ (rest_excerpt included file blocks lines).lines
  unfolding rest_lines rest_excerpt
  same_rest blocks [] = lines_in_file_are_same file (excerpt_of_file_end file blocks).lines
  same_rest blocks (line ∷ lines) =
      let r = store_line_reading_of line.text in
      let behind = blocks_behind_line blocks line r in
      map-append (λ (x : FileLine). x.line) (line_lines included below file blocks line r)
      (rest_lines included below file behind lines)
      ∙ (λ i. same_line blocks line r i ++ same_rest behind lines i)

unread_file_has_no_lines : (included : List ℕ → Included) (name : List ℕ) (fault : FetchFault)
    → [] ≡ included_lines (include_of_answer included name (Err fault))
unread_file_has_no_lines included name Absent = refl
unread_file_has_no_lines included name TooLong = refl
unread_file_has_no_lines included name Failed = refl
unread_file_has_no_lines included name OutOfMemory = refl

pub file_lines_below_are_same : (files : FileMap) (depth : ℕ) (name : List ℕ)
    → bare (file_lines_below files depth name) ≡ included_lines (included_below files depth name)
unfolding file_lines_below included_below
file_lines_below_are_same files zero name = refl
file_lines_below_are_same files (suc depth) name =
    by (λ word. file_lines_below_are_same files depth (included_name name word))
    (file_fetch_answer (file_of_name files name))
  where
    by : ((word : List ℕ) → bare (file_lines_below files depth (included_name name word))
        ≡ included_lines (included_below files depth (included_name name word))) → (answer : Result (List ℕ) FetchFault)
        → bare (file_lines_of_answer (included_by files depth name)
        (λ word. file_lines_below files depth (included_name name word))
        name answer) ≡ included_lines (include_of_answer (included_by files depth name) name answer)
    by deeper (Ok bytes) =
        same_rest (included_by files depth name) (λ word. file_lines_below files depth (included_name name word)) deeper
        name
        []
        (nonblank_lines (logical_lines bytes))
    by deeper (Err fault) = unread_file_has_no_lines (included_by files depth name) name fault

pub file_lines_are_same : (files : FileMap) (name bytes : List ℕ)
    → bare (file_lines files name bytes) ≡ (excerpt_of_deck_file files name bytes).lines
unfolding excerpt_of_deck_file
file_lines_are_same files name bytes =
    same_rest (included_by files most_include_depth name)
    (λ word. file_lines_below files most_include_depth (included_name name word))
    (λ word. file_lines_below_are_same files most_include_depth (included_name name word)) name []
    (nonblank_lines (logical_lines bytes))
