-- The deck of a saved text.
use Rattle.std.proofs.Common.{◌≡◌, ◌≤◌, ◌++◌, ◌∷◌, [], ℕ, suc, List, Bool, true, false, cond, length, refl, ap}
use Rattle.std.proofs.Common.{◌∙◌, arith, length-append}
use Rattle.std.specs.Prelude.{nat_lt}
use Rattle.std.proofs.lemmas.Bool.{le-ltb, or_from}
use Rattle.std.proofs.lemmas.List.Sums.{sum_by-cons}
use Rattle.units_io.specs.FileMap.{FileMap}
use Rattle.def_lines.specs.declared.line.Line.{Line}
use Rattle.def_lines.specs.Lines.{line_ends_with}
use Rattle.def_entry.specs.declared.key.Key.{Key}
use Rattle.def_entry.specs.Entries.{Entry}
use Rattle.deck_lines.specs.Excerpts.{Excerpt, Included, blocks_behind_line, excerpts_in_turn, line_excerpt}
use Rattle.deck_lines.specs.Excerpts.{line_without_notice, rest_excerpt}
use Rattle.deck_lines.specs.Includes.{excerpt_of_deck_file, included_by, most_include_depth}
use Rattle.deck_lines.specs.Limits.{most_store_bytes, most_store_lines, pass_store_limit, stored_text_len}
use Rattle.deck_lines.specs.Marks.{plain_store_line}
use Rattle.deck_lines.specs.declared.line.DeckLine.{DeckLine}
use Rattle.deck_save.specs.SavedLines.{saved_line, saved_lines}
use Rattle.deck_save.proofs.ReadLines.{number_behind, read_lines, saved_lines_are_read_back}
use Rattle.deck_save.proofs.SavedTexts.{AreGiving, saved_texts_are_plain}

-- saved lines as lines of a deck, the first of which has this number
abbrev pub plain_lines : ℕ → List (List ℕ) → List DeckLine
plain_lines n [] = []
plain_lines n (text ∷ texts) = plain_store_line n text ∷ plain_lines (number_behind n text) texts

abbrev pub plain_excerpt : ℕ → List (List ℕ) → Excerpt
plain_excerpt n texts = record { lines = plain_lines n texts; notices = [] }

saved_rest_is_loaded : (included : List ℕ → Included) (file : List ℕ) (n : ℕ) (texts : List (List ℕ))
    (ds : List (Key × Entry))
    → AreGiving texts ds
    → rest_excerpt included file [] (read_lines n texts) ≡ plain_excerpt n texts
unfolding rest_excerpt
saved_rest_is_loaded included file n [] ds give = refl
saved_rest_is_loaded included file n (text ∷ texts) [] give = absurd give
saved_rest_is_loaded included file n (text ∷ texts) (d ∷ ds) give =
    let line : Line = record { number = n; text = text } in
    let rest : List Line = read_lines (number_behind n text) texts in
    ap (λ r. excerpts_in_turn (line_excerpt included file [] line r)
    (rest_excerpt included file (blocks_behind_line [] line r) rest)) give.0.reading
    ∙ ap (excerpts_in_turn (line_without_notice line))
    (saved_rest_is_loaded included file (number_behind n text) texts ds give.1)

-- the deck of saved texts has these texts as its lines, and no notices
pub saved_texts_are_loaded : (files : FileMap) (name : List ℕ) (texts : List (List ℕ)) (ds : List (Key × Entry))
    → AreGiving texts ds
    → excerpt_of_deck_file files name (saved_lines texts) ≡ plain_excerpt 1 texts
unfolding excerpt_of_deck_file
saved_texts_are_loaded files name texts ds give =
    ap (rest_excerpt (included_by files most_include_depth name) name [])
    (saved_lines_are_read_back texts (saved_texts_are_plain texts ds give))
    ∙ saved_rest_is_loaded (included_by files most_include_depth name) name 1 texts ds give

-- the lines are within the limits

pub saved_plain_lines_count : (n : ℕ) (texts : List (List ℕ)) → length (plain_lines n texts) ≡ length texts
saved_plain_lines_count n [] = refl
saved_plain_lines_count n (text ∷ texts) = ap suc (saved_plain_lines_count (number_behind n text) texts)

saved_line_is_longer : (text : List ℕ) → length text ≤ length (saved_line text)
saved_line_is_longer text = go (line_ends_with 92 text)
  where
    go : (t : Bool) → length text ≤ length (text ++ cond t (92 ∷ 10 ∷ 10 ∷ []) (10 ∷ []))
    go true = omega (arith, length-append text (92 ∷ 10 ∷ 10 ∷ []))
    go false = omega (arith, length-append text (10 ∷ []))

saved_plain_lines_bytes : (n : ℕ) (texts : List (List ℕ)) → stored_text_len (plain_lines n texts) ≤ length
    (saved_lines texts)
saved_plain_lines_bytes n [] = omega arith
saved_plain_lines_bytes n (text ∷ texts) =
    omega (
      arith,
      saved_plain_lines_bytes (number_behind n text) texts,
      saved_line_is_longer text,
      length-append (saved_line text)
          (saved_lines texts),
      sum_by-cons (λ (l : DeckLine). length l.text) (plain_store_line n text)
          (plain_lines (number_behind n text) texts),
    )

pub saved_plain_lines_within_limit : (n : ℕ) (texts : List (List ℕ)) → length texts ≤ most_store_lines
    → length (saved_lines texts) ≤ most_store_bytes
    → pass_store_limit (plain_lines n texts) ≡ false
unfolding pass_store_limit
saved_plain_lines_within_limit n texts few small =
    or_from (nat_lt most_store_lines (length (plain_lines n texts)))
    (nat_lt most_store_bytes (stored_text_len (plain_lines n texts)))
    (le-ltb most_store_lines (length (plain_lines n texts)) (omega (arith, saved_plain_lines_count n texts)))
    (le-ltb most_store_bytes (stored_text_len (plain_lines n texts)) (omega (arith, saved_plain_lines_bytes n texts)))
