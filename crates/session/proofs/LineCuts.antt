-- The lines of an input, cut part by part.
use Rattle.std.proofs.Common.{◌≡◌, ◌==◌, ◌++◌, ◌∷◌, ◌-◌, [], ℕ, List, Bool, true, false, cond, not, length, take, refl}
use Rattle.std.proofs.Common.{sym, ap, ◌∙◌, arith, append_assoc, length-append}
use Rattle.std.proofs.lemmas.Bool.{and_parts}
use Rattle.std.proofs.lemmas.List.{append-nil, take-append-le, take_all}
use Rattle.def_entry.specs.Cuts.{entry_text_lacks}
use Rattle.session.specs.Input.{InputCut, input_cut_from, input_cut_with_line, whole_input_lines, unfinished_input_line}
use Rattle.session.specs.Input.{input_lines, input_line_if_any}

-- the cut of two parts together
abbrev pub both : InputCut → InputCut → InputCut
both a b = record { complete_lines = a.complete_lines ++ b.complete_lines; open_line = b.open_line }

pub input-cut-of-append : (part xs ys : List ℕ)
    → input_cut_from part (xs ++ ys) ≡ both (input_cut_from part xs)
    (input_cut_from (input_cut_from part xs).open_line ys)
input-cut-of-append part [] ys = refl
input-cut-of-append part (x ∷ xs) ys = by (input-cut-of-append [] xs ys) (input-cut-of-append (part ++ x ∷ []) xs ys)
    (x == 10)
  where
    by : input_cut_from [] (xs ++ ys) ≡ both (input_cut_from [] xs) (input_cut_from (input_cut_from [] xs).open_line ys)
        → input_cut_from (part ++ x ∷ []) (xs ++ ys)
        ≡ both (input_cut_from (part ++ x ∷ []) xs) (input_cut_from (input_cut_from (part ++ x ∷ []) xs).open_line ys)
        → (b : Bool)
        → cond b (input_cut_with_line part (input_cut_from [] (xs ++ ys))) (input_cut_from (part ++ x ∷ []) (xs ++ ys))
        ≡ both (cond b (input_cut_with_line part (input_cut_from [] xs)) (input_cut_from (part ++ x ∷ []) xs))
        (input_cut_from (cond b (input_cut_with_line part (input_cut_from [] xs))
        (input_cut_from (part ++ x ∷ []) xs)).open_line ys)
    by ends goes true = ap (input_cut_with_line part) ends
    by ends goes false = goes

-- a piece without a line feed continues the line
pub input-cut-of-piece : (part piece : List ℕ) → entry_text_lacks 10 piece ≡ true
    → input_cut_from part piece ≡ record { complete_lines = []; open_line = part ++ piece }
input-cut-of-piece part [] e = ap (λ t. record { complete_lines = []; open_line = t }) (sym (append-nil part))
input-cut-of-piece part (b ∷ piece) e = by (b == 10) (and_parts (not (b == 10)) (entry_text_lacks 10 piece) e)
    (input-cut-of-piece (part ++ b ∷ []) piece)
  where
    by : (t : Bool) → (not t ≡ true) × (entry_text_lacks 10 piece ≡ true)
        → (entry_text_lacks 10 piece ≡ true
        → input_cut_from (part ++ b ∷ []) piece ≡ record { complete_lines = []; open_line = (part ++ b ∷ []) ++ piece })
        → cond t (input_cut_with_line part (input_cut_from [] piece)) (input_cut_from (part ++ b ∷ []) piece)
        ≡ record { complete_lines = []; open_line = part ++ b ∷ piece }
    by true clear ih = cc
    by false clear ih =
        ih clear.1 ∙ ap (λ t. record { complete_lines = []; open_line = t }) (append_assoc part (b ∷ []) piece)

pub whole_input_lines_with_piece : (taken piece : List ℕ) → entry_text_lacks 10 piece ≡ true
    → whole_input_lines (taken ++ piece) ≡ whole_input_lines taken
whole_input_lines_with_piece taken piece e =
    ap (λ (c : InputCut). c.complete_lines) (input-cut-of-append [] taken piece)
    ∙ ap (λ (c : InputCut). whole_input_lines taken ++ c.complete_lines)
    (input-cut-of-piece (unfinished_input_line taken) piece e)
    ∙ append-nil (whole_input_lines taken)

pub unfinished_input_line_with_piece : (taken piece : List ℕ) → entry_text_lacks 10 piece ≡ true
    → unfinished_input_line (taken ++ piece) ≡ unfinished_input_line taken ++ piece
unfinished_input_line_with_piece taken piece e =
    ap (λ (c : InputCut). c.open_line) (input-cut-of-append [] taken piece)
    ∙ ap (λ (c : InputCut). c.open_line) (input-cut-of-piece (unfinished_input_line taken) piece e)

-- a line feed ends the line
whole_input_lines_with_feed : (taken : List ℕ) → whole_input_lines (taken ++ 10 ∷ []) ≡ whole_input_lines taken
    ++ unfinished_input_line taken ∷ []
whole_input_lines_with_feed taken = ap (λ (c : InputCut). c.complete_lines) (input-cut-of-append [] taken (10 ∷ []))

no_unfinished_input_line_at_feed : (taken : List ℕ) → unfinished_input_line (taken ++ 10 ∷ []) ≡ []
no_unfinished_input_line_at_feed taken = ap (λ (c : InputCut). c.open_line) (input-cut-of-append [] taken (10 ∷ []))

input_lines_with_feed : (taken more : List ℕ)
    → input_lines (taken ++ 10 ∷ more) ≡ whole_input_lines taken ++ unfinished_input_line taken ∷ input_lines more
input_lines_with_feed taken more =
    ap (λ (c : InputCut). c.complete_lines ++ input_line_if_any c.open_line) (input-cut-of-append [] taken (10 ∷ more))
    ∙ append_assoc (whole_input_lines taken) (unfinished_input_line taken ∷ whole_input_lines more)
    (input_line_if_any (unfinished_input_line more))

-- a piece and a line feed end the line, and the bytes after them have their own lines
module _ (taken piece : List ℕ) (clear : entry_text_lacks 10 piece ≡ true) where
  pub whole_line : whole_input_lines (taken ++ (piece ++ 10 ∷ [])) ≡ whole_input_lines taken
      ++ (unfinished_input_line taken ++ piece) ∷
      []
  whole_line =
      ap whole_input_lines (sym (append_assoc taken piece (10 ∷ []))) ∙ whole_input_lines_with_feed (taken ++ piece)
      ∙ ap (λ ls. ls ++ unfinished_input_line (taken ++ piece) ∷ []) (whole_input_lines_with_piece taken piece clear)
      ∙ ap (λ l. whole_input_lines taken ++ l ∷ []) (unfinished_input_line_with_piece taken piece clear)

  pub open_line : unfinished_input_line (taken ++ (piece ++ 10 ∷ [])) ≡ []
  open_line = ap unfinished_input_line (sym (append_assoc taken piece (10 ∷ []))) ∙ no_unfinished_input_line_at_feed
      (taken ++ piece)

  pub lines_line : (more : List ℕ)
      → input_lines (taken ++ (piece ++ 10 ∷ more)) ≡ whole_input_lines taken ++ (unfinished_input_line taken ++ piece)
      ∷ input_lines more
  lines_line more =
      ap input_lines (sym (append_assoc taken piece (10 ∷ more))) ∙ input_lines_with_feed (taken ++ piece) more
      ∙ ap (λ ls. ls ++ unfinished_input_line (taken ++ piece) ∷ input_lines more)
      (whole_input_lines_with_piece taken piece clear)
      ∙ ap (λ l. whole_input_lines taken ++ l ∷ input_lines more) (unfinished_input_line_with_piece taken piece clear)

-- the lines of all bytes begin with the complete lines of a front of them
pub input_lines_begin_with_whole : (front rest : List ℕ)
    → (more : List (List ℕ)) × (input_lines (front ++ rest) ≡ whole_input_lines front ++ more)
input_lines_begin_with_whole front rest = (
  (input_cut_from (unfinished_input_line front) rest).complete_lines ++ input_line_if_any
      (unfinished_input_line (front ++ rest)),
  ap (λ (c : InputCut). c.complete_lines ++ input_line_if_any (unfinished_input_line (front ++ rest)))
      (input-cut-of-append [] front rest)
      ∙ append_assoc (whole_input_lines front) (input_cut_from (unfinished_input_line front) rest).complete_lines
      (input_line_if_any (unfinished_input_line (front ++ rest))),
)

-- if no line is open at the end, all lines are complete
pub finished_input_lines_are_whole : (taken : List ℕ) → unfinished_input_line taken ≡ []
    → input_lines taken ≡ whole_input_lines taken
finished_input_lines_are_whole taken e = ap (λ l. whole_input_lines taken ++ input_line_if_any l) e
    ∙ append-nil (whole_input_lines taken)

nonempty_input_line_is_there : (l : List ℕ) → (l ≡ [] → ⊥) → input_line_if_any l ≡ l ∷ []
nonempty_input_line_is_there [] h = absurd (h refl)
nonempty_input_line_is_there (b ∷ l) h = refl

pub input_lines_with_unfinished_line : (taken : List ℕ) → (unfinished_input_line taken ≡ [] → ⊥)
    → input_lines taken ≡ whole_input_lines taken ++ unfinished_input_line taken
    ∷ []
input_lines_with_unfinished_line taken h = ap (λ t. whole_input_lines taken ++ t)
    (nonempty_input_line_is_there (unfinished_input_line taken) h)

-- the complete lines of all bytes begin with those of a front of them
pub whole_input_lines_of_split : (front rest : List ℕ)
    → whole_input_lines (front ++ rest) ≡ whole_input_lines front
    ++ (input_cut_from (unfinished_input_line front) rest).complete_lines
whole_input_lines_of_split front rest = ap (λ (c : InputCut). c.complete_lines) (input-cut-of-append [] front rest)

-- the bytes taken are those before the bytes left
pub input-taken-is-before-left : (xs ys : List ℕ) → take (length (xs ++ ys) - length ys) (xs ++ ys) ≡ xs
input-taken-is-before-left xs ys =
    let n : length (xs ++ ys) - length ys ≡ length xs = omega (arith, length-append xs ys) in
    ap (λ n. take n (xs ++ ys)) n ∙ take-append-le (length xs) xs ys (omega arith)
    ∙ take_all (length xs) xs (omega arith)
