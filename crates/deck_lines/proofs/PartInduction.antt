-- Induction over the parts of a load.
use Rattle.std.proofs.Common.{◌++◌, ◌∷◌, [], ℕ, zero, suc, List, codes, if◌then◌else◌}
use Rattle.def_lines.specs.declared.line.Line.{Line}
use Rattle.def_lines.specs.Lines.{logical_lines, nonblank_lines}
use Rattle.deck_lines.specs.Excerpts.{Excerpt, NotRead, blocks_behind_line, excerpt_of_file_end, line_excerpt}
use Rattle.deck_lines.specs.Excerpts.{line_with_notice, line_without_notice}
use Rattle.deck_lines.specs.Includes.{included_name}
use Rattle.deck_lines.specs.Limits.{pass_store_limit}
use Rattle.deck_lines.specs.LineLoads.{LoadPart, load_above, load_below, load_of_answer, load_of_excerpt, load_of_line}
use Rattle.deck_lines.specs.LineLoads.{load_of_rest}
use Rattle.deck_lines.specs.Marks.{plain_store_line}
use Rattle.deck_lines.specs.Readings.{StoreLineReading, Stands, Defines, Includes, Faulty, store_line_reading_of}
use Rattle.deck_lines.specs.Transcripts.{Fails, load_after_fetch, loads_in_turn}
use Rattle.deck_lines.specs.declared.draft.LoadFault.TheVariants.{DeckFull}
use Rattle.deck_lines.specs.declared.line.Block.{Block}

-- two parts in turn
abbrev pub both_parts : LoadPart → LoadPart → LoadPart
both_parts first second before fetches = loads_in_turn (first before fetches) second

-- an include line that is fetched if it has room, given the load of the bytes of its file
abbrev pub include_part : (List ℕ → LoadPart) → List ℕ → List ℕ → Line → LoadPart
include_part load includer name line before fetches =
    if pass_store_limit (before.lines ++ plain_store_line line.number line.text ∷ []) then Fails DeckFull fetches else
    load_after_fetch name (λ answer. load_of_answer load includer name line answer before) fetches

-- a property of the parts of which loads consist
pub record IsInductive (P : LoadPart → Type 0) : Type 0 where
  pub of_excerpt : (excerpt : Excerpt) → P (load_of_excerpt excerpt)
  pub of_both : (first second : LoadPart) → P first → P second → P (both_parts first second)
  pub of_include : (load : List ℕ → LoadPart) (includer name : List ℕ) (line : Line)
      → ((bytes : List ℕ) → P (load bytes))
      → P (include_part load includer name line)

module _ (P : LoadPart → Type 0) (inductive : IsInductive P) where
  of_line : (includes : List ℕ → Line → LoadPart) (each : (word : List ℕ) (line : Line) → P (includes word line))
      (file : List ℕ) (blocks : List Block) (line : Line) (reading : StoreLineReading)
      → P (load_of_line includes file blocks line reading)
  of_line includes each file blocks line (Includes word) = each word line
  of_line includes each file blocks line (Stands role) =
      inductive.of_excerpt (line_excerpt (λ word. NotRead []) file blocks line (Stands role))
  of_line includes each file blocks line (Defines entry) = inductive.of_excerpt (line_without_notice line)
  of_line includes each file blocks line (Faulty text) = inductive.of_excerpt (line_with_notice file line text)

  of_rest : (includes : List ℕ → Line → LoadPart) (each : (word : List ℕ) (line : Line) → P (includes word line))
      (file : List ℕ) (lines : List Line) (blocks : List Block) → P (load_of_rest includes file blocks lines)
  unfolding load_of_rest
  of_rest includes each file [] blocks = inductive.of_excerpt (excerpt_of_file_end file blocks)
  of_rest includes each file (line ∷ lines) blocks =
      inductive.of_both (load_of_line includes file blocks line (store_line_reading_of line.text))
      (load_of_rest includes file (blocks_behind_line blocks line (store_line_reading_of line.text)) lines)
      (of_line includes each file blocks line (store_line_reading_of line.text))
      (of_rest includes each file lines (blocks_behind_line blocks line (store_line_reading_of line.text)))

  of_below : (depth : ℕ) (includer name : List ℕ) (line : Line) → P (load_below depth includer name line)
  unfolding load_below
  of_below zero includer name line = inductive.of_excerpt
      (line_with_notice includer line (codes "include too deep: " ++ name))
  of_below (suc depth) includer name line =
      inductive.of_include (load_above depth name) includer name line
      (λ bytes. of_rest (λ word. load_below depth name (included_name name word))
      (λ word x. of_below depth name (included_name name word) x) name (nonblank_lines (logical_lines bytes)) [])

  -- such a property holds of the load of a file
  pub of_above : (depth : ℕ) (name bytes : List ℕ) → P (load_above depth name bytes)
  of_above depth name bytes = of_rest (λ word. load_below depth name (included_name name word))
      (λ word x. of_below depth name (included_name name word) x) name (nonblank_lines (logical_lines bytes)) []
