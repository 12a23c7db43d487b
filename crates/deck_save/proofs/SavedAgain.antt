-- A deck that was given back has the same saved text.
use Rattle.std.proofs.Common.{◌≡◌, ◌∷◌, [], ℕ, List, map, refl, sym, ap, ◌∙◌}
use Rattle.std.proofs.lemmas.List.{append-nil}
use Rattle.def_lines.specs.Blanks.{after_blanks, before_blanks, trimmed_of_blanks}
use Rattle.def_lines.proofs.TrimmedTexts.{trimmed-after_blanks}
use Rattle.def_entry.proofs.Fronts.{entry_text-trimmed-before_blanks}
use Rattle.deck.specs.Messages.{active_definition_texts}
use Rattle.deck_save.specs.Laws.{SavedAgainLaw}
use Rattle.deck_save.specs.SavedText.{saved_text}
use Rattle.deck_save.specs.SavedLines.{saved_lines}

saved_text_trimmed_again : (text : List ℕ) → trimmed_of_blanks (trimmed_of_blanks text) ≡ trimmed_of_blanks text
saved_text_trimmed_again text =
    ap trimmed_of_blanks (sym (append-nil (after_blanks (before_blanks text))))
    ∙ trimmed-after_blanks (before_blanks text) []
    ∙ ap trimmed_of_blanks (append-nil (before_blanks text))
    ∙ entry_text-trimmed-before_blanks text

saved_texts_trimmed_again : (texts : List (List ℕ)) → map trimmed_of_blanks (map trimmed_of_blanks texts) ≡ map
    trimmed_of_blanks texts
saved_texts_trimmed_again [] = refl
saved_texts_trimmed_again (text ∷ texts) = (λ i. saved_text_trimmed_again text i ∷ saved_texts_trimmed_again texts i)

pub saved_again : SavedAgainLaw
unfolding saved_text
saved_again d loaded back = ap (λ ts. saved_lines (map trimmed_of_blanks ts)) back.texts
    ∙ ap saved_lines (saved_texts_trimmed_again (active_definition_texts d))
