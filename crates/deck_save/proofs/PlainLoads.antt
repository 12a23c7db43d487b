-- The load of a saved text, whatever the contents of the files are.
use Rattle.std.proofs.Common.{◌≡◌, ◌≤◌, ◌++◌, ◌∷◌, [], ℕ, List, Bool, false, cond, length, ap, ◌∙◌, arith}
use Rattle.std.proofs.Common.{append_assoc, length-append}
use Rattle.std.specs.Prelude.{nat_lt}
use Rattle.std.proofs.lemmas.Bool.{le-ltb, ltb-false, or_from, or_parts}
use Rattle.std.proofs.lemmas.List.{append-nil}
use Rattle.std.proofs.lemmas.List.Sums.{sum_by-append}
use Rattle.def_lines.specs.declared.line.Line.{Line}
use Rattle.def_entry.specs.declared.key.Key.{Key}
use Rattle.def_entry.specs.Entries.{Entry}
use Rattle.deck_lines.specs.Excerpts.{Excerpt, blocks_behind_line, excerpts_in_turn, line_without_notice}
use Rattle.deck_lines.specs.Limits.{most_store_bytes, most_store_lines, pass_store_limit, stored_text_len}
use Rattle.deck_lines.specs.Marks.{plain_store_line}
use Rattle.deck_lines.specs.Transcripts.{Fails, Load, TranscriptFetch, Yields, loads_in_turn}
use Rattle.deck_lines.specs.declared.draft.LoadFault.{LoadFault}
use Rattle.deck_lines.specs.LineLoads.{LoadPart, load_of_line, load_of_rest}
use Rattle.deck_lines.specs.declared.draft.LoadFault.TheVariants.{DeckFull}
use Rattle.deck_lines.specs.declared.line.DeckLine.{DeckLine}
use Rattle.deck_save.proofs.LoadedLines.{plain_excerpt, plain_lines}
use Rattle.deck_save.proofs.ReadLines.{number_behind, read_lines}
use Rattle.deck_save.proofs.SavedTexts.{AreGiving}

-- if lines and more lines together are within the limits, so are the lines alone
fewer_saved_lines_within_limit : (lines more : List DeckLine) → pass_store_limit (lines ++ more) ≡ false
    → pass_store_limit lines ≡ false
unfolding pass_store_limit
fewer_saved_lines_within_limit lines more within =
    let parts : (nat_lt most_store_lines (length (lines ++ more)) ≡ false)
    × (nat_lt most_store_bytes (stored_text_len (lines ++ more)) ≡ false) = or_parts _ _ within in
    let few : length (lines ++ more) ≤ most_store_lines = ltb-false most_store_lines (length (lines ++ more)) parts.0 in
    let small : stored_text_len (lines ++ more) ≤ most_store_bytes = ltb-false most_store_bytes
    (stored_text_len (lines ++ more)) parts.1 in
    or_from (nat_lt most_store_lines (length lines)) (nat_lt most_store_bytes (stored_text_len lines))
    (le-ltb most_store_lines (length lines) (omega (arith, length-append lines more)))
    (le-ltb most_store_bytes (stored_text_len lines)
    (omega (arith, sum_by-append (λ (l : DeckLine). length l.text) lines more)))

-- the excerpt of the texts is that of the first text followed by that of the others
saved_excerpts_joined : (before : Excerpt) (n : ℕ) (text : List ℕ) (texts : List (List ℕ)) →
    excerpts_in_turn (excerpts_in_turn before (line_without_notice (record { number = n; text = text })))
    (plain_excerpt (number_behind n text) texts) ≡ excerpts_in_turn before (plain_excerpt n (text ∷ texts))
saved_excerpts_joined before n text texts =
    let lines = append_assoc before.lines (plain_store_line n text ∷ []) (plain_lines (number_behind n text) texts) in
    let notices = append-nil (before.notices ++ []) in
    (λ i. record { lines = lines i; notices = notices i })

-- the load of an excerpt, by whether its lines pass a limit
abbrev load_by : Bool → Excerpt → List TranscriptFetch → Load LoadFault
load_by full now fetches = cond full (Fails DeckFull fetches) (Yields now fetches)

-- lines that define keys are loaded without a fetch
pub saved_plain_lines_load : (includes : List ℕ → Line → LoadPart) (file : List ℕ) (n : ℕ) (texts : List (List ℕ))
    (ds : List (Key × Entry)) (before : Excerpt) (fetches : List TranscriptFetch)
    → AreGiving texts ds → pass_store_limit (before.lines ++ plain_lines n texts) ≡ false
    → load_of_rest includes file [] (read_lines n texts) before fetches
    ≡ Yields (excerpts_in_turn before (plain_excerpt n texts)) fetches
unfolding load_of_rest
saved_plain_lines_load includes file n [] ds before fetches give within =
    ap (λ full. load_by full (excerpts_in_turn before (plain_excerpt n [])) fetches) within
saved_plain_lines_load includes file n (text ∷ texts) [] before fetches give within = absurd give
saved_plain_lines_load includes file n (text ∷ texts) (d ∷ ds) before fetches give within =
    let line : Line = record { number = n; text = text } in
    let next : Excerpt = excerpts_in_turn before (line_without_notice line) in
    let assoc : (before.lines ++ plain_store_line n text ∷ []) ++ plain_lines (number_behind n text)
    texts ≡ before.lines
    ++ plain_lines n (text ∷ texts) =
    append_assoc before.lines (plain_store_line n text ∷ []) (plain_lines (number_behind n text) texts) in
    let within_all : pass_store_limit (next.lines ++ plain_lines (number_behind n text) texts) ≡ false =
    ap pass_store_limit assoc
    ∙ within in
    ap (λ reading. loads_in_turn (load_of_line includes file [] line reading before fetches)
    (load_of_rest includes file (blocks_behind_line [] line reading) (read_lines (number_behind n text) texts)))
    give.0.reading
    ∙ ap (λ full. loads_in_turn (load_by full next fetches)
    (load_of_rest includes file [] (read_lines (number_behind n text) texts)))
    (fewer_saved_lines_within_limit next.lines (plain_lines (number_behind n text) texts) within_all)
    ∙ saved_plain_lines_load includes file (number_behind n text) texts ds next fetches give.1 within_all
    ∙ ap (λ e. Yields e fetches) (saved_excerpts_joined before n text texts)
