-- The saved text, which may be too long for a file.
use Rattle.std.proofs.Common.{◌≡◌, ◌<◌, ◌≤◌, ◌∷◌, [], ℕ, suc, List, Bool, cond, length, refl, subst, sym, ap, ◌∙◌, Ok}
use Rattle.std.proofs.Common.{Err}
use Rattle.std.proofs.lemmas.Bool.{le-ltb, lt-ltb}
use Rattle.units_io.specs.FileMap.{longest_file}
use Rattle.deck_lines.specs.declared.line.DeckLine.{DeckLine}
use Rattle.deck.specs.Active.{DeckSurroundings, active_line_flags, active_lines, deck_surroundings_after_line}
use Rattle.deck.specs.Active.{deck_surroundings_at_start}
use Rattle.deck.specs.Decks.{DeckContents}
use Rattle.deck_save.specs.LineTexts.{saved_texts_of_lines}
use Rattle.deck_save.specs.SavedText.{saved_file, saved_text}
use Rattle.deck_save.specs.SavedLines.{saved_lines}
use Rattle.deck_save.specs.declared.fault.SaveFault.TheVariants.{TooLong}

saved_line_flag_count : (locale : List ℕ) (around : DeckSurroundings) (lines : List DeckLine)
    → length (active_line_flags locale around lines) ≡ length lines
saved_line_flag_count locale around [] = refl
saved_line_flag_count locale around (x ∷ lines) =
    ap suc (saved_line_flag_count locale (deck_surroundings_after_line locale around x) lines)

module _ (d : DeckContents) (flags : List Bool) (are : flags ≡ active_lines d.settings d.lines) where
  -- there is a flag for each line
  pub one_each : length flags ≡ length d.lines
  one_each = ap length are ∙ saved_line_flag_count d.settings.locale (deck_surroundings_at_start d.settings) d.lines

  saved_is : saved_lines (saved_texts_of_lines flags d.lines) ≡ saved_text d
  unfolding saved_text
  saved_is = ap (λ (f : List Bool). saved_lines (saved_texts_of_lines f d.lines)) are

  pub too_long : longest_file < length (saved_lines (saved_texts_of_lines flags d.lines)) → saved_file d ≡ Err TooLong
  too_long more =
      ap (λ t. cond t (Err TooLong) (Ok (saved_text d)))
      (lt-ltb longest_file (length (saved_text d)) (subst (λ t. longest_file < length t) saved_is more))

  pub short_enough : (text : List ℕ) → text ≡ saved_lines (saved_texts_of_lines flags d.lines)
      → length (saved_lines (saved_texts_of_lines flags d.lines)) ≤ longest_file → saved_file d ≡ Ok text
  short_enough text is few =
      ap (λ t. cond t (Err TooLong) (Ok (saved_text d)))
      (le-ltb longest_file (length (saved_text d)) (subst (λ t. length t ≤ longest_file) saved_is few))
      ∙ ap Ok (sym (is ∙ saved_is))
