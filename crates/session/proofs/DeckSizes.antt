-- The size of the deck of a text that includes no file: it is within the limits.
use Rattle.std.proofs.Common.{◌≡◌, ◌≤◌, ◌<◌, inl, inr, Result, Ok, Err, ◌+◌, ◌*◌, ◌++◌, ℕ, List, [], ◌∷◌, Bool, true}
use Rattle.std.proofs.Common.{false, length, if◌then◌else◌, sym, ap, subst, ◌∙◌, arith, map}
use Rattle.std.specs.Prelude.{◌||◌, codes, nat_lt, suc}
use Rattle.std.proofs.lemmas.Bool.Decides.{nat_tests}
use Rattle.std.specs.List.{sum_by}
use Rattle.std.proofs.lemmas.List.Sums.{sum_by-append, sum_by-cons}
use Rattle.def_lines.specs.declared.line.Line.{Line}
use Rattle.deck_lines.specs.declared.line.DeckLine.{DeckLine}
use Rattle.deck_lines.specs.declared.line.Ending.{Ending}
use Rattle.deck_lines.specs.declared.line.Ending.TheVariants as ending
use Rattle.deck_lines.specs.declared.line.Block.{Block}
use Rattle.deck_lines.specs.declared.line.Role.TheVariants.{Opens, Closes, Inside}
use Rattle.deck_lines.specs.Blocks.{block_end_text}
use Rattle.deck_lines.specs.Excerpts.{Included, NotRead, blocks_behind_line, closes_innermost_block, include_excerpt}
use Rattle.deck_lines.specs.Excerpts.{line_excerpt, line_with_notice, line_without_notice, missing_block_end}
use Rattle.deck_lines.specs.Excerpts.{outer_blocks, rest_excerpt}
use Rattle.deck_lines.specs.Limits.{most_store_bytes, most_store_lines, pass_store_limit, stored_text_len}
use Rattle.deck_lines.specs.Includes.{excerpt_of_deck_file, excerpt_of_lone_deck_file, included_below, included_by}
use Rattle.deck_lines.specs.Includes.{included_name, include_of_answer, most_include_depth}
use Rattle.std.specs.FinMap.{get-empty}
use Rattle.std.specs.Ordering.{nat_cmp}
use Rattle.std.specs.Cmp.Lexicographic.{slice_cmp}
use Rattle.units_io.specs.FetchResults.{file_fetch_answer}
use Rattle.std.specs.declared.option.Option.{Option}
use Rattle.units_io.specs.FileMap.{no_files_in_map}
use Rattle.def_lines.specs.Lines.{logical_lines, nonblank_lines}
use Rattle.deck.specs.Decks.{DeckContents}
use Rattle.deck.specs.Edits.{deck_with_excerpt}
use Rattle.deck.specs.FileLoads.{deck_after_text_loading, empty_deck, IsDeckLoadResult}
use Rattle.deck.specs.declared.fault.DeckFault.{DeckFault}
use Rattle.deck.specs.declared.fault.DeckFault.TheVariants.{DeckFull, OutOfMemory}
use Rattle.deck.specs.declared.settings.Settings.{Settings}
use Rattle.session.specs.TextDecks.{FitsDeck, line_feeds_of_deck_text, text_deck}
use Rattle.session.proofs.LogicalSizes.{room, text_deck_logical_lines_room}
use Rattle.deck_lines.specs.Readings.{StoreLineReading, Stands, Defines, Includes, Faulty, store_line_reading_of}
use Rattle.general_lemmas.proofs.Results.{err-ok}

-- the size of a line: its bytes, and a constant for the line itself
abbrev pub size : DeckLine → ℕ
size line = length line.text + 671

text_deck_count_in_size : (lines : List DeckLine) → 671 * length lines ≤ sum_by size lines
text_deck_count_in_size [] = omega arith
text_deck_count_in_size (line ∷ lines) =
    let more : sum_by size (line ∷ lines) ≡ size line + sum_by size lines = sum_by-cons size line lines in
    let rest : 671 * length lines ≤ sum_by size lines = text_deck_count_in_size lines in
    omega arith

text_deck_text_in_size : (lines : List DeckLine) → stored_text_len lines ≤ sum_by size lines
text_deck_text_in_size [] = omega arith
text_deck_text_in_size (line ∷ lines) =
    let more : sum_by size (line ∷ lines) ≡ size line + sum_by size lines = sum_by-cons size line lines in
    let text : stored_text_len (line ∷ lines) ≡ length line.text + stored_text_len lines =
    sum_by-cons (λ (l : DeckLine). length l.text) line lines in
    let rest : stored_text_len lines ≤ sum_by size lines = text_deck_text_in_size lines in
    omega arith

text_deck_missing_end_size : (block : Block) → size (missing_block_end block) ≤ 681
text_deck_missing_end_size block = by block.ending
  where
    by : (e : Ending) → length (block_end_text e) + 671 ≤ 681
    by ending.ByLocale = omega arith
    by ending.ByVar = omega arith
    by ending.ByUtf8 = omega arith

text_deck_missing_ends_size : (blocks : List Block) → sum_by size (map missing_block_end blocks) ≤ 681 * length blocks
text_deck_missing_ends_size [] = omega arith
text_deck_missing_ends_size (block ∷ blocks) =
    let more : sum_by size (map missing_block_end (block ∷ blocks))
    ≡ size (missing_block_end block) + sum_by size (map missing_block_end blocks) =
    sum_by-cons size (missing_block_end block) (map missing_block_end blocks) in
    let one : size (missing_block_end block) ≤ 681 = text_deck_missing_end_size block in
    let rest : sum_by size (map missing_block_end blocks) ≤ 681 * length blocks = text_deck_missing_ends_size blocks in
    omega arith

text_deck_outer_blocks_are_fewer : (blocks : List Block) → length (outer_blocks blocks) ≤ length blocks
text_deck_outer_blocks_are_fewer [] = omega arith
text_deck_outer_blocks_are_fewer (block ∷ blocks) = omega arith

text_deck_blocks_after_line : (line : Line) (blocks : List Block) (reading : StoreLineReading)
    → length (blocks_behind_line blocks line reading) ≤ length blocks + 1
text_deck_blocks_after_line line blocks (Stands (Opens ending)) = omega arith
text_deck_blocks_after_line line blocks (Stands (Closes ending)) = by (closes_innermost_block ending blocks)
  where
    by : (b : Bool) → length (if b then outer_blocks blocks else blocks) ≤ length blocks + 1
    by true = let few : length (outer_blocks blocks) ≤ length blocks = text_deck_outer_blocks_are_fewer blocks in
        omega arith
    by false = omega arith
text_deck_blocks_after_line line blocks (Stands Inside) = omega arith
text_deck_blocks_after_line line blocks (Defines entry) = omega arith
text_deck_blocks_after_line line blocks (Includes name) = omega arith
text_deck_blocks_after_line line blocks (Faulty text) = omega arith

-- no include is read
abbrev pub ReadsNone : (List ℕ → Included) → Type 0
ReadsNone included = (word : List ℕ) → (text : List ℕ) × (included word ≡ NotRead text)

text_deck_line_size : (included : List ℕ → Included) (file : List ℕ) (blocks : List Block) (line : Line)
    → ReadsNone included
    → (reading : StoreLineReading)
    → sum_by size (line_excerpt included file blocks line reading).lines ≡ length line.text + 671
text_deck_line_size included file blocks line none (Stands (Opens ending)) = omega arith
text_deck_line_size included file blocks line none (Stands (Closes ending)) = by (closes_innermost_block ending blocks)
  where
    by : (b : Bool)
        → sum_by size (if b then line_without_notice line else line_with_notice file line (codes "stray end")).lines
        ≡ length line.text + 671
    by true = omega arith
    by false = omega arith
text_deck_line_size included file blocks line none (Stands Inside) = omega arith
text_deck_line_size included file blocks line none (Defines entry) = omega arith
text_deck_line_size included file blocks line none (Includes name) =
    let unread = none name in
    subst (λ (i : Included). sum_by size (include_excerpt file line i).lines ≡ length line.text + 671) (sym unread.1)
    (by unread.0)
  where
    by : (text : List ℕ) → sum_by size (include_excerpt file line (NotRead text)).lines ≡ length line.text + 671
    by text = omega arith
text_deck_line_size included file blocks line none (Faulty text) = omega arith

text_deck_rest_size : (included : List ℕ → Included) (file : List ℕ) (blocks : List Block) (lines : List Line)
    → ReadsNone included
    → sum_by size (rest_excerpt included file blocks lines).lines ≤ 681 * length blocks + sum_by room lines
unfolding rest_excerpt
text_deck_rest_size included file blocks [] none =
    let ends : sum_by size (map missing_block_end blocks) ≤ 681 * length blocks = text_deck_missing_ends_size blocks in
    omega arith
text_deck_rest_size included file blocks (line ∷ lines) none =
    let first = line_excerpt included file blocks line (store_line_reading_of line.text) in
    let behind = blocks_behind_line blocks line (store_line_reading_of line.text) in
    let second = rest_excerpt included file behind lines in
    let both : sum_by size (first.lines ++ second.lines) ≡ sum_by size first.lines + sum_by size second.lines =
    sum_by-append size first.lines second.lines in
    let one : sum_by size first.lines ≡ length line.text + 671 =
    text_deck_line_size included file blocks line none (store_line_reading_of line.text) in
    let rest : sum_by size second.lines ≤ 681 * length behind + sum_by room lines =
    text_deck_rest_size included file behind lines none in
    let few : length behind ≤ length blocks + 1 = text_deck_blocks_after_line line blocks
    (store_line_reading_of line.text) in
    let more : sum_by room (line ∷ lines) ≡ room line + sum_by room lines = sum_by-cons room line lines in
    omega arith

-- lines with a small total size are within the limits
small_text_deck_is_within_limits : (lines : List DeckLine) → sum_by size lines ≤ 60000000
    → pass_store_limit lines ≡ false
unfolding pass_store_limit
small_text_deck_is_within_limits lines small =
    let many : 671 * length lines ≤ sum_by size lines = text_deck_count_in_size lines in
    let long : stored_text_len lines ≤ sum_by size lines = text_deck_text_in_size lines in
    let few : nat_lt most_store_lines (length lines) ≡ false = grind (arith, nat_tests) in
    let short : nat_lt most_store_bytes (stored_text_len lines) ≡ false = grind (arith, nat_tests) in
    neither (nat_lt most_store_lines (length lines)) (nat_lt most_store_bytes (stored_text_len lines)) few short
  where
    neither : (a b : Bool) → a ≡ false → b ≡ false → (a || b) ≡ false
    neither a b e f = ap (λ (x : Bool). x || b) e ∙ f

-- if there is no file, no include is read
text_deck_reads_no_include : (depth : ℕ) (file : List ℕ) → ReadsNone (included_by no_files_in_map (suc depth) file)
unfolding included_below
text_deck_reads_no_include depth file word = (
  codes "no file: " ++ included_name file word,
  ap (λ (bytes : Option (List ℕ)).
      include_of_answer (λ w. included_below no_files_in_map depth (included_name (included_name file word) w))
      (included_name file word) (file_fetch_answer bytes))
      (get-empty (slice_cmp nat_cmp) (included_name file word)),
)

-- the deck of a text that has room is within the limits
pub text_deck_is_within_limits : (name text : List ℕ) → FitsDeck text
    → pass_store_limit (excerpt_of_lone_deck_file name text).lines ≡ false
unfolding excerpt_of_deck_file
text_deck_is_within_limits name text has =
    let lines = (excerpt_of_lone_deck_file name text).lines in
    let most : sum_by size lines ≤ 681 * 0 + sum_by room (nonblank_lines (logical_lines text)) =
    text_deck_rest_size (included_by no_files_in_map most_include_depth name) name []
    (nonblank_lines (logical_lines text)) (text_deck_reads_no_include 15 name) in
    let few : sum_by room (nonblank_lines (logical_lines text)) ≤ length text + 1352 * line_feeds_of_deck_text text
    + 1352 =
    text_deck_logical_lines_room text in
    let feeds : line_feeds_of_deck_text text < 30000 = has.0 in
    let short : length text ≤ 16777216 = has.1 in
    small_text_deck_is_within_limits lines (omega arith)

-- a text that has room has a deck
pub text_deck_is_made : (name text : List ℕ) (settings : Settings) → FitsDeck text
    → deck_after_text_loading text name settings ≡ Ok (text_deck name text settings)
unfolding text_deck
text_deck_is_made name text settings has =
    ap (λ (b : Bool). if b then Err DeckFull else Ok
    (deck_with_excerpt (excerpt_of_lone_deck_file name text) (empty_deck settings)))
    (text_deck_is_within_limits name text has)

text_deck_outcome_is_unique : (x y : DeckContents) (outcome : Result DeckContents DeckFault) → outcome ≡ Ok x
    → outcome ≡ Ok y → y ≡ x
text_deck_outcome_is_unique x y outcome a b = cc

-- a text that has room has no other deck
pub text_deck_made_is_unique : (name text : List ℕ) (settings : Settings) (deck : DeckContents) → FitsDeck text
    → deck_after_text_loading text name settings ≡ Ok deck → deck ≡ text_deck name text settings
text_deck_made_is_unique name text settings deck has is =
    text_deck_outcome_is_unique (text_deck name text settings) deck (deck_after_text_loading text name settings)
    (text_deck_is_made name text settings has) is

pub text_deck_is_never_refused : (name text : List ℕ) (settings : Settings) (fault : DeckFault) → FitsDeck text
    → (fault ≡ OutOfMemory → ⊥) → IsDeckLoadResult (deck_after_text_loading text name settings) (Err fault) → ⊥
text_deck_is_never_refused name text settings fault has memory (inl is) = memory is
text_deck_is_never_refused name text settings fault has memory (inr is) =
    err-ok fault (text_deck name text settings) (sym (sym (text_deck_is_made name text settings has) ∙ is))
