-- The bytes of the lines are those of the input, and no other cut has these properties.
use Rattle.std.proofs.Common.{◌≡◌, ◌==◌, ◌&&◌, ◌++◌, ◌∷◌, ◌∙◌, [], ℕ, List, Bool, true, false, cond, not, refl, sym}
use Rattle.std.proofs.Common.{ap, ap₂, append_assoc}
use Rattle.std.specs.List.{list_all}
use Rattle.std.proofs.lemmas.Bool.{and_parts, eqb-true}
use Rattle.std.proofs.lemmas.List.{append-nil}
use Rattle.std.proofs.lemmas.List.Folds.{list_all-append}
use Rattle.def_entry.specs.Cuts.{entry_text_lacks}
use Rattle.session.specs.Input.{InputCut, input_cut_from, input_cut_with_line, unfinished_input_line, whole_input_lines}
use Rattle.session.specs.Laws.{input_line_bytes}
use Rattle.session.proofs.LineCuts.{both, input-cut-of-append, input-cut-of-piece}

abbrev bytes_of : InputCut → List ℕ
bytes_of cut = input_line_bytes cut.complete_lines ++ cut.open_line

-- a cut loses none of the bytes
pub input_cut_keeps_bytes : (part bytes : List ℕ) → bytes_of (input_cut_from part bytes) ≡ part ++ bytes
input_cut_keeps_bytes part [] = sym (append-nil part)
input_cut_keeps_bytes part (b ∷ bytes) = by (b == 10) refl (input_cut_keeps_bytes [] bytes)
    (input_cut_keeps_bytes (part ++ b ∷ []) bytes)
  where
    by : (t : Bool) → (b == 10) ≡ t → bytes_of (input_cut_from [] bytes) ≡ bytes
        → bytes_of (input_cut_from (part ++ b ∷ []) bytes) ≡ (part ++ b ∷ []) ++ bytes
        → bytes_of (cond t (input_cut_with_line part (input_cut_from [] bytes)) (input_cut_from (part ++ b ∷ []) bytes))
        ≡ part ++ b ∷
        bytes
    by true e ends goes =
        append_assoc part (10 ∷ input_line_bytes (input_cut_from [] bytes).complete_lines)
        (input_cut_from [] bytes).open_line
        ∙ ap (λ t. part ++ 10 ∷ t) ends ∙ ap (λ n. part ++ n ∷ bytes) (sym (eqb-true b 10 e))
    by false e ends goes = goes ∙ append_assoc part (b ∷ []) bytes

-- a part without a line feed, followed by another byte, has none
input-part-stays-without-feed : (part : List ℕ) (b : ℕ) → (b == 10) ≡ false → entry_text_lacks 10 part ≡ true
    → entry_text_lacks 10 (part ++ b ∷ []) ≡ true
input-part-stays-without-feed part b q e =
    list_all-append (λ b. not (b == 10)) part (b ∷ []) ∙ ap₂ (λ (x y : Bool). x && (not y && true)) e q

-- no line contains a line feed
pub input-lines-have-no-feed : (part bytes : List ℕ) → entry_text_lacks 10 part ≡ true
    → list_all (entry_text_lacks 10) (input_cut_from part bytes).complete_lines ≡ true
input-lines-have-no-feed part [] e = refl
input-lines-have-no-feed part (b ∷ bytes) e = by (b == 10) refl (input-lines-have-no-feed [] bytes refl)
    (input-lines-have-no-feed (part ++ b ∷ []) bytes)
  where
    by : (t : Bool) → (b == 10) ≡ t → list_all (entry_text_lacks 10) (input_cut_from [] bytes).complete_lines ≡ true
        → (entry_text_lacks 10 (part ++ b ∷ []) ≡ true
        → list_all (entry_text_lacks 10) (input_cut_from (part ++ b ∷ []) bytes).complete_lines ≡ true)
        → list_all (entry_text_lacks 10)
        (cond t (input_cut_with_line part (input_cut_from [] bytes))
        (input_cut_from (part ++ b ∷ []) bytes)).complete_lines
        ≡ true
    by true q ends goes = ap₂ (λ (x y : Bool). x && y) e ends
    by false q ends goes = goes (input-part-stays-without-feed part b q e)

pub unfinished-input-line-has-no-feed : (part bytes : List ℕ) → entry_text_lacks 10 part ≡ true
    → entry_text_lacks 10 (input_cut_from part bytes).open_line ≡ true
unfinished-input-line-has-no-feed part [] e = e
unfinished-input-line-has-no-feed part (b ∷ bytes) e =
    by (b == 10) refl (unfinished-input-line-has-no-feed [] bytes refl)
    (unfinished-input-line-has-no-feed (part ++ b ∷ []) bytes)
  where
    by : (t : Bool) → (b == 10) ≡ t → entry_text_lacks 10 (input_cut_from [] bytes).open_line ≡ true
        → (entry_text_lacks 10 (part ++ b ∷ []) ≡ true
        → entry_text_lacks 10 (input_cut_from (part ++ b ∷ []) bytes).open_line ≡ true)
        → entry_text_lacks 10
        (cond t (input_cut_with_line part (input_cut_from [] bytes)) (input_cut_from (part ++ b ∷ []) bytes)).open_line
        ≡ true
    by true q ends goes = ends
    by false q ends goes = goes (input-part-stays-without-feed part b q e)

-- lines without line feeds are the lines of their bytes
input-cut-of-line-bytes : (lines : List (List ℕ)) (rest : List ℕ) → list_all (entry_text_lacks 10) lines ≡ true
    → entry_text_lacks 10 rest ≡ true
    → input_cut_from [] (input_line_bytes lines ++ rest) ≡ record { complete_lines = lines; open_line = rest }
input-cut-of-line-bytes [] rest h k = input-cut-of-piece [] rest k
input-cut-of-line-bytes (line ∷ lines) rest h k =
    let parts : (entry_text_lacks 10 line ≡ true) × (list_all (entry_text_lacks 10) lines ≡ true) =
    and_parts (entry_text_lacks 10 line) (list_all (entry_text_lacks 10) lines) h in
    ap (input_cut_from []) (append_assoc line (10 ∷ input_line_bytes lines) rest)
    ∙ input-cut-of-append [] line (10 ∷ (input_line_bytes lines ++ rest))
    ∙ ap (λ (c : InputCut). both c (input_cut_from c.open_line (10 ∷ (input_line_bytes lines ++ rest))))
    (input-cut-of-piece [] line parts.0)
    ∙ ap (input_cut_with_line line) (input-cut-of-line-bytes lines rest parts.1 k)

pub whole-input-lines-of-bytes : (lines : List (List ℕ)) (rest : List ℕ) → list_all (entry_text_lacks 10) lines ≡ true
    → entry_text_lacks 10 rest ≡ true
    → (whole_input_lines (input_line_bytes lines ++ rest) ≡ lines)
    × (unfinished_input_line (input_line_bytes lines ++ rest) ≡ rest)
whole-input-lines-of-bytes lines rest h k = (
  ap (λ (c : InputCut). c.complete_lines) (input-cut-of-line-bytes lines rest h k),
  ap
      (λ (c : InputCut). c.open_line) (input-cut-of-line-bytes lines rest h k),
)
