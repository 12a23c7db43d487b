-- Saving the lines of a deck one after another.
use Rattle.std.proofs.Common.{◌≡◌, ◌<◌, ◌+◌, ◌-◌, ◌++◌, ◌∷◌, [], ℕ, List, Bool, true, false, drop, get_or, length, map}
use Rattle.std.proofs.Common.{refl, sym, ap, ◌∙◌, arith, append_assoc, length-append, Some, slice_get}
use Rattle.std.proofs.lemmas.Grind.{flat_map-append}
use Rattle.std.proofs.lemmas.List.{drop_more, map-append}
use Rattle.std.proofs.lemmas.Option.{slice_get-get_or}
use Rattle.units_io.specs.FileMap.{longest_file}
use Rattle.def_lines.specs.Blanks.{trimmed_of_blanks}
use Rattle.deck_lines.specs.Marks.{plain_store_line}
use Rattle.deck_lines.specs.declared.line.DeckLine.{DeckLine}
use Rattle.deck.specs.Messages.{active_lines_by_flags, deck_definition_text, texts_of_deck_lines}
use Rattle.deck_save.specs.LineTexts.{saved_texts_of_line, saved_texts_of_lines}
use Rattle.deck_save.specs.SavedLines.{saved_line, saved_lines}

-- the saved lines from a place on, and those of the line at the place
abbrev pub from_place : List Bool → List DeckLine → ℕ → List ℕ
from_place flags lines i = saved_lines (saved_texts_of_lines (drop i flags) (drop i lines))

-- the line at a place
abbrev pub line_at : List DeckLine → ℕ → DeckLine
line_at lines i = get_or lines i (plain_store_line 0 [])

abbrev pub at_place : List Bool → List DeckLine → ℕ → List ℕ
at_place flags lines i = saved_lines (saved_texts_of_line (get_or flags i false) (line_at lines i))

first_saved_line : (active : Bool) (flags : List Bool) (x : DeckLine) (lines : List DeckLine) →
    saved_lines (saved_texts_of_lines (active ∷ flags) (x ∷ lines)) ≡ saved_lines (saved_texts_of_line active x)
    ++ saved_lines
    (saved_texts_of_lines flags lines)
first_saved_line true flags x lines =
    ap saved_lines (map-append trimmed_of_blanks (deck_definition_text x)
    (texts_of_deck_lines deck_definition_text (active_lines_by_flags flags lines)))
    ∙ flat_map-append saved_line (map trimmed_of_blanks (deck_definition_text x)) (saved_texts_of_lines flags lines)
first_saved_line false flags x lines = refl

module _ (flags : List Bool) (lines : List DeckLine) (i : ℕ) (same : length flags ≡ length lines)
    (within : i < length flags) where
  inside : i < length lines
  inside = omega arith

  pub line_at_place : slice_get lines i ≡ Some (line_at lines i)
  line_at_place = slice_get-get_or lines i (plain_store_line 0 []) inside

  next : from_place flags lines i ≡ at_place flags lines i ++ from_place flags lines (i + 1)
  next =
      (λ j. saved_lines (saved_texts_of_lines (drop_more flags i false within j)
      (drop_more lines i (plain_store_line 0 []) inside j)))
      ∙ first_saved_line (get_or flags i false) (drop (i + 1) flags) (line_at lines i) (drop (i + 1) lines)

  next_len : length (from_place flags lines i) ≡ length (at_place flags lines i) + length
      (from_place flags lines (i + 1))
  next_len = ap length next ∙ length-append (at_place flags lines i) (from_place flags lines (i + 1))

  -- the bytes after one more line is saved
  pub line_put : (old now all : List ℕ) → now ≡ old ++ at_place flags lines i → old ++ from_place flags lines i ≡ all
      → now ++ from_place flags lines (i + 1) ≡ all
  line_put old now all put so_far =
      ap (λ t. t ++ from_place flags lines (i + 1)) put
      ∙ append_assoc old (at_place flags lines i) (from_place flags lines (i + 1))
      ∙ ap (λ t. old ++ t) (sym next)
      ∙ so_far

  -- the number of bytes after one more line is counted
  pub line_counted : (old more all : ℕ) → more ≡ length (at_place flags lines i)
      → old + length (from_place flags lines i) ≡ all
      → (old + more) + length (from_place flags lines (i + 1)) ≡ all
  line_counted old more all is so_far = omega (arith, next_len)

  -- the number of bytes if the next line has no room
  pub line_over : (old more all : ℕ) → more ≡ length (at_place flags lines i)
      → old + length (from_place flags lines i) ≡ all
      → longest_file - old < more → longest_file < all
  line_over old more all is so_far over = omega (arith, next_len)
