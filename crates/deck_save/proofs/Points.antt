-- The points of a table contain no line feed, carriage return or `#`.
use Rattle.std.proofs.Common.{◌≡◌, ◌&&◌, inl, inr, ◌++◌, ◌∷◌, ℕ, List, true, not, codes, ap, ◌∙◌, refl}
use Rattle.std.specs.List.{list_all}
use Rattle.std.specs.Option.{is_some}
use Rattle.std.proofs.lemmas.Bool.{and_parts}
use Rattle.units_io.specs.Blanks.{is_blank_text_byte}
use Rattle.def_lines.specs.Words.{is_empty}
use Rattle.piecewise.specs.Lines.{Point}
use Rattle.def_entry.specs.Numbers.{entry_text_number}
use Rattle.def_entry.specs.PointGrammar.{ArePointPairs, AreWrittenPointPairs, PointPairEnd, Apart, Comma}
use Rattle.def_entry.specs.PointGrammar.{WrittenPointPairs, NoPair, NextPair, are_point_pairs, ends_point_pair_number}
use Rattle.def_entry.specs.PointGrammar.{is_point_pair_end, is_point_pair_number, point_pair_end, spelled_point_pairs}
use Rattle.deck_save.specs.SavedLines.{is_saved_line_byte}
use Rattle.deck_save.proofs.PlainBytes.{saved_bytes_all_both}
use Rattle.deck_save.proofs.Names.{saved_blanks_stay}
use Rattle.deck_save.proofs.Numbers.{saved_some_number_stays}

saved_number_text_stays : (x : List ℕ) → is_point_pair_number x ≡ true → list_all is_saved_line_byte x ≡ true
saved_number_text_stays x is =
    saved_some_number_stays x
    (and_parts (list_all (λ b. not (ends_point_pair_number b)) x) (is_some (entry_text_number x)) is).1

saved_pair_end_stays : (end : PointPairEnd) (rest : List ℕ) → is_point_pair_end end rest ≡ true
    → list_all is_saved_line_byte rest ≡ true
    → list_all is_saved_line_byte (point_pair_end end rest) ≡ true
saved_pair_end_stays Apart rest is clear = clear
saved_pair_end_stays (Comma blanks) rest is clear = saved_bytes_all_both is_saved_line_byte blanks (44 ∷ rest)
    (saved_blanks_stay blanks is) clear

saved_written_points_stay : (w : WrittenPointPairs) → are_point_pairs w ≡ true
    → list_all is_saved_line_byte (spelled_point_pairs w) ≡ true
saved_written_points_stay (NoPair blanks) is = saved_blanks_stay blanks is
saved_written_points_stay (NextPair before x gap y end rest) is =
    let a : ((list_all is_blank_text_byte before && is_point_pair_number x && not (is_empty gap) && list_all
    is_blank_text_byte gap &&
    is_point_pair_number y &&
    is_point_pair_end end (spelled_point_pairs rest)) ≡ true) × (are_point_pairs rest ≡ true) = and_parts _ _ is in
    let b : ((list_all is_blank_text_byte before && is_point_pair_number x && not (is_empty gap) && list_all
    is_blank_text_byte gap &&
    is_point_pair_number y)
    ≡ true) × (is_point_pair_end end (spelled_point_pairs rest) ≡ true) = and_parts _ _ a.0 in
    let c : ((list_all is_blank_text_byte before && is_point_pair_number x && not (is_empty gap) && list_all
    is_blank_text_byte gap) ≡ true)
    × (is_point_pair_number y ≡ true) = and_parts _ _ b.0 in
    let d : ((list_all is_blank_text_byte before && is_point_pair_number x && not (is_empty gap)) ≡ true)
    × (list_all is_blank_text_byte gap ≡ true) =
    and_parts _ _ c.0 in
    let e : ((list_all is_blank_text_byte before && is_point_pair_number x) ≡ true) × (not (is_empty gap) ≡ true) =
    and_parts _ _ d.0 in
    let f : (list_all is_blank_text_byte before ≡ true) × (is_point_pair_number x ≡ true) = and_parts _ _ e.0 in
    let behind : list_all is_saved_line_byte (point_pair_end end (spelled_point_pairs rest)) ≡ true =
    saved_pair_end_stays end (spelled_point_pairs rest) b.1
    (saved_written_points_stay rest a.1) in
    saved_bytes_all_both is_saved_line_byte before (x ++ (gap ++ (y ++ point_pair_end end (spelled_point_pairs rest))))
    (saved_blanks_stay before f.0)
    (saved_bytes_all_both is_saved_line_byte x (gap ++ (y ++ point_pair_end end (spelled_point_pairs rest)))
    (saved_number_text_stays x f.1)
    (saved_bytes_all_both is_saved_line_byte gap (y ++ point_pair_end end (spelled_point_pairs rest))
    (saved_blanks_stay gap d.1)
    (saved_bytes_all_both is_saved_line_byte y (point_pair_end end (spelled_point_pairs rest))
    (saved_number_text_stays y c.1) behind)))

saved_pairs_stay : (text : List ℕ) (list : List Point) → ArePointPairs text list
    → list_all is_saved_line_byte text ≡ true
saved_pairs_stay text list are = ap (list_all is_saved_line_byte) are.spelled_text
    ∙ saved_written_points_stay are.written_points are.well_formed

pub saved_points_stay : (text : List ℕ) (list : List Point) → AreWrittenPointPairs text list
    → list_all is_saved_line_byte text ≡ true
saved_points_stay text list (inl are) = saved_pairs_stay text list are
saved_points_stay text list (inr are) =
    ap (list_all is_saved_line_byte) are.spelled_text
    ∙ saved_bytes_all_both is_saved_line_byte are.blanks (codes "noerror" ++ are.pairs_text)
    (saved_blanks_stay are.blanks are.blanks_only)
    (saved_bytes_all_both is_saved_line_byte (codes "noerror") are.pairs_text refl
    (saved_pairs_stay are.pairs_text list are.pairs))
