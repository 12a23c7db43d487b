-- The load of a file, as one recursion over its lines and over what its fetches answer.
use Rattle.std.specs.Prelude.{◌++◌, ℕ, zero, suc, List, [], ◌∷◌, codes, if◌then◌else◌, Result, Ok, Err}
use Rattle.units_io.specs.Faults.{next_io_count}
use Rattle.units_io.specs.declared.files.FetchFault.{FetchFault}
use Rattle.units_io.specs.declared.files.FetchFault.TheVariants as fetch
use Rattle.def_lines.specs.declared.line.Line.{Line}
use Rattle.def_lines.specs.Lines.{logical_lines, nonblank_lines}
use Rattle.deck_lines.specs.Excerpts.{Excerpt, NotRead, blocks_behind_line, excerpt_of_file_end, excerpts_in_turn}
use Rattle.deck_lines.specs.Excerpts.{include_excerpt, line_excerpt, line_with_notice, line_without_notice}
use Rattle.deck_lines.specs.Includes.{include_not_read, included_name, most_include_depth}
use Rattle.deck_lines.specs.Limits.{pass_store_limit}
use Rattle.deck_lines.specs.Marks.{plain_store_line}
use Rattle.deck_lines.specs.Readings.{StoreLineReading, Includes, store_line_reading_of}
use Rattle.deck_lines.specs.Transcripts.{TranscriptFetch, Load, Yields, Fails, load_after_fetch, loads_in_turn}
use Rattle.deck_lines.specs.declared.draft.Draft.{Draft}
use Rattle.deck_lines.specs.declared.draft.LoadFault.{LoadFault}
use Rattle.deck_lines.specs.declared.draft.LoadFault.TheVariants.{DeckFull, ReadFailed, OutOfMemory}
use Rattle.deck_lines.specs.declared.line.Block.{Block}

-- a part of a load: its outcome, given the lines and notices before it and the fetches that are left
abbrev pub LoadPart : Type 0
LoadPart = Excerpt → List TranscriptFetch → Load LoadFault

-- the load of an excerpt, which needs no fetch; it fails if the lines have no room
abbrev pub load_of_excerpt : Excerpt → LoadPart
load_of_excerpt excerpt before fetches =
    if pass_store_limit (before.lines ++ excerpt.lines) then Fails DeckFull fetches else Yields
    (excerpts_in_turn before excerpt)
    fetches

-- the load of a line of the file `includer` that includes the file with this name, given the answer of the fetch of
-- that file, and the load of its bytes
abbrev pub load_of_answer : (List ℕ → LoadPart) → List ℕ → List ℕ → Line → Result (List ℕ) FetchFault → LoadPart
load_of_answer load includer name line (Ok bytes) before fetches =
    loads_in_turn (load_of_excerpt (line_without_notice line) before fetches) (load bytes)
load_of_answer load includer name line (Err fetch.Failed) before fetches = Fails ReadFailed fetches
load_of_answer load includer name line (Err fetch.OutOfMemory) before fetches = Fails OutOfMemory fetches
load_of_answer load includer name line (Err fault) before fetches =
    load_of_excerpt (include_excerpt includer line (include_not_read name fault)) before fetches

-- the load of a line of a file in which these blocks are open, given the loads of include lines by their words
abbrev pub load_of_line : (List ℕ → Line → LoadPart) → List ℕ → List Block → Line → StoreLineReading → LoadPart
load_of_line includes file blocks line (Includes word) = includes word line
load_of_line includes file blocks line reading =
    load_of_excerpt (line_excerpt (λ word. NotRead []) file blocks line reading)

-- the load of the rest of a file in which these blocks are open: that of each line in turn, and then that of the end
unfoldable pub load_of_rest : (List ℕ → Line → LoadPart) → List ℕ → List Block → List Line → LoadPart
load_of_rest includes file blocks [] before fetches = load_of_excerpt (excerpt_of_file_end file blocks) before fetches
load_of_rest includes file blocks (line ∷ lines) before fetches =
    loads_in_turn (load_of_line includes file blocks line (store_line_reading_of line.text) before fetches)
    (load_of_rest includes file (blocks_behind_line blocks line (store_line_reading_of line.text)) lines)

-- the load of a file with this name and these bytes, given the loads of include lines
abbrev pub load_of_bytes : (List ℕ → Line → LoadPart) → List ℕ → List ℕ → LoadPart
load_of_bytes includes name bytes = load_of_rest includes name [] (nonblank_lines (logical_lines bytes))

-- the load of a line of the file `includer` that includes the file with this name, if files may be nested this deep,
-- counting this file; the file is fetched if the line has room
unfoldable pub load_below : ℕ → List ℕ → List ℕ → Line → LoadPart
load_below zero includer name line before fetches =
    load_of_excerpt (line_with_notice includer line (codes "include too deep: " ++ name)) before fetches
load_below (suc depth) includer name line before fetches =
    if pass_store_limit (before.lines ++ plain_store_line line.number line.text ∷ []) then Fails DeckFull fetches else
    load_after_fetch name
    (λ answer. load_of_answer (load_of_bytes (λ word. load_below depth name (included_name name word)) name) includer
    name line answer before)
    fetches

-- the load of a file with this name and these bytes, if files may be nested this deep below it
abbrev pub load_above : ℕ → List ℕ → List ℕ → LoadPart
load_above depth name bytes = load_of_bytes (λ word. load_below depth name (included_name name word)) name bytes

-- the load of a file with this name and these bytes
abbrev pub load_of_file : List ℕ → List ℕ → LoadPart
load_of_file name bytes = load_above most_include_depth name bytes

-- the lines and the notices of a draft
abbrev pub excerpt_in : Draft → Excerpt
excerpt_in draft = record { lines = draft.store.lines; notices = draft.notices }

-- the count of failed fetches after a load, which ends with the first failed fetch
abbrev pub faults_after_load : {T : Type 0} → ℕ → Result T LoadFault → ℕ
faults_after_load faults (Err ReadFailed) = next_io_count faults
faults_after_load faults _ = faults
