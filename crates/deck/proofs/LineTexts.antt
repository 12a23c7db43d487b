-- Collecting texts from lines, one line after another.
use Rattle.std.proofs.Common.{◌≡◌, ◌++◌, ◌∷◌, ◌+◌, ◌<◌, ◌≤◌, [], ℕ, List, Bool, true, false, cond, length}
use Rattle.std.proofs.Common.{drop, get_or, append_assoc, refl, sym, ap, ◌∙◌}
use Rattle.std.proofs.lemmas.List.{drop_all, drop_more}
use Rattle.deck_lines.specs.declared.line.DeckLine.{DeckLine}
use Rattle.deck.specs.Messages.{active_lines_by_flags, texts_of_deck_lines}

-- the texts of the lines, extended by those of the next line
pub active_line_texts_step : (say : DeckLine → List (List ℕ)) (fs : List Bool) (lines : List DeckLine) (i : ℕ)
    (x : DeckLine)
    (texts now whole : List (List ℕ)) → i < length fs →
    drop i lines ≡ x ∷ drop (i + 1) lines → texts ++ texts_of_deck_lines say
    (active_lines_by_flags (drop i fs) (drop i lines)) ≡ whole
    → now ≡ texts ++ cond (get_or fs i false) (say x) [] →
    now ++ texts_of_deck_lines say (active_lines_by_flags (drop (i + 1) fs) (drop (i + 1) lines)) ≡ whole
active_line_texts_step say fs lines i x texts now whole h at e f =
    let rest = active_lines_by_flags (drop (i + 1) fs) (drop (i + 1) lines) in
    ap (λ t. t ++ texts_of_deck_lines say rest) f ∙ append_assoc texts (cond (get_or fs i false) (say x) [])
    (texts_of_deck_lines say rest)
    ∙ ap (λ t. texts ++ t) (by (get_or fs i false) rest)
    ∙ sym (ap (λ ls. texts ++ texts_of_deck_lines say (active_lines_by_flags (get_or fs i false ∷ drop (i + 1) fs) ls))
    at)
    ∙ sym (ap (λ t. texts ++ texts_of_deck_lines say (active_lines_by_flags t (drop i lines))) (drop_more fs i false h))
    ∙ e
  where
    by : (b : Bool) (rest : List DeckLine)
        → cond b (say x) [] ++ texts_of_deck_lines say rest ≡ texts_of_deck_lines say (cond b (x ∷ rest) rest)
    by true rest = refl
    by false rest = refl

-- after the last line no text is left
pub active_line_texts_all : (say : DeckLine → List (List ℕ)) (fs : List Bool) (lines : List DeckLine) (i : ℕ)
    → length lines ≤ i
    → texts_of_deck_lines say (active_lines_by_flags (drop i fs) (drop i lines)) ≡ []
active_line_texts_all say fs lines i h = ap (λ ls. texts_of_deck_lines say (active_lines_by_flags (drop i fs) ls))
    (drop_all i lines h)
    ∙ none (drop i fs)
  where
    none : (gs : List Bool) → texts_of_deck_lines say (active_lines_by_flags gs []) ≡ []
    none [] = refl
    none (g ∷ gs) = refl
