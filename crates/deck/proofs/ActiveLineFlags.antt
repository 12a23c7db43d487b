-- Lines with their marks.
use Rattle.std.proofs.Common.{◌≡◌, ◌∷◌, ◌++◌, [], ℕ, suc, List, length, append_assoc, Bool, refl, sym, ap, ◌∙◌}
use Rattle.deck_lines.specs.declared.line.DeckLine.{DeckLine}
use Rattle.deck.specs.Active.{DeckSurroundings, active_line_flags, deck_surroundings_after_line, is_active_line}

-- the flags of the lines, extended by the flag of the next line
pub active_line_flags_step : (locale : List ℕ) (around : DeckSurroundings) (xs rest : List DeckLine)
    (flags whole : List Bool)
    (x : DeckLine) →
    xs ≡ x ∷ rest → flags ++ active_line_flags locale around xs ≡ whole →
    (flags ++ is_active_line around x ∷ [])
    ++ active_line_flags locale (deck_surroundings_after_line locale around x) rest ≡ whole
active_line_flags_step locale around xs rest flags whole x e h =
    append_assoc flags (is_active_line around x ∷ [])
    (active_line_flags locale (deck_surroundings_after_line locale around x) rest)
    ∙ sym (ap (λ t. flags ++ active_line_flags locale around t) e) ∙ h

-- there are as many flags as lines
pub length-active_line_flags : (locale : List ℕ) (around : DeckSurroundings) (xs : List DeckLine)
    → length (active_line_flags locale around xs) ≡ length xs
length-active_line_flags locale around [] = refl
length-active_line_flags locale around (x ∷ xs) = ap suc
    (length-active_line_flags locale (deck_surroundings_after_line locale around x) xs)
