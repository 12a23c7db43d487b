-- Lines that continue.
use Rattle.std.proofs.Common.{◌≡◌, ◌++◌, ◌∷◌, [], ℕ, List, false, cond, ◌+◌, map, sym, ap, ◌∙◌}
use Rattle.std.proofs.lemmas.List.{append-nil}
use Rattle.def_lines.specs.declared.line.Line.{Line}
use Rattle.def_lines.specs.Blanks.{trimmed_of_blanks}
use Rattle.def_lines.specs.Lines.{line_ends_with, line_without_last_byte, logical_lines_with_front}
use Rattle.def_lines.specs.Lines.{numbered_logical_lines, physical_line_continuation, physical_lines, without_comment}
use Rattle.def_lines.specs.Lines.{trimmed_logical_line}

-- the line that ends with these bytes
pub logical_line-ended : (number : ℕ) (line : Line) (old new bytes : List ℕ) → line.number ≡ number
    → line.text ≡ trimmed_of_blanks new
    → ((behind : List ℕ) → trimmed_of_blanks (new ++ behind) ≡ trimmed_of_blanks (old ++ (bytes ++ behind)))
    → (more : List Line) → line ∷ map trimmed_logical_line more ≡ trimmed_logical_line
    (record { number = number; text = old ++ bytes })
    ∷ map trimmed_logical_line more
logical_line-ended number line old new bytes named text put more =
    let all : line.text ≡ trimmed_of_blanks (old ++ bytes) =
    text ∙ ap trimmed_of_blanks (sym (append-nil new)) ∙ put [] ∙ ap (λ t. trimmed_of_blanks (old ++ t))
    (append-nil bytes) in
    (λ i. (record { number = named i; text = all i } ∷ map trimmed_logical_line more))

-- the logical lines from a physical line on that does not continue
pub logical_lines-ended : (number : ℕ) (bytes line behind left : List ℕ)
    → physical_lines bytes ≡ line ∷ physical_lines behind
    → left ≡ without_comment line
    → line_ends_with 92 left ≡ false
    → numbered_logical_lines number (physical_lines bytes) ≡ record { number = number; text = left }
    ∷ numbered_logical_lines (number + 1) (physical_lines behind)
logical_lines-ended number bytes line behind left first clean ends =
    ap (numbered_logical_lines number) first
    ∙ ap (λ text. physical_line_continuation number text (numbered_logical_lines (number + 1) (physical_lines behind)))
    (sym clean)
    ∙ ap (λ b. cond b (logical_lines_with_front number (line_without_last_byte left ++ 32 ∷ [])
    (numbered_logical_lines (number + 1) (physical_lines behind)))
    (record { number = number; text = left } ∷ numbered_logical_lines (number + 1) (physical_lines behind))) ends
