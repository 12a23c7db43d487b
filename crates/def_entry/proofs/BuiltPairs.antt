-- Pairs that are read are written that way: the steps of the proof.
use Rattle.std.proofs.Common.{◌≡◌, ◌≢◌, ◌<◌, ◌==◌, ◌&&◌, ◌||◌, ◌∷◌, [], ◌++◌, ℕ, List, Bool, true}
use Rattle.std.proofs.Common.{false, not, length, Option, Some, None, refl, sym, ap, ◌∙◌, subst, arith}
use Rattle.std.proofs.Common.{append_assoc, length-append, true≢false}
use Rattle.std.specs.List.{list_all}
use Rattle.std.specs.Option.{is_some}
use Rattle.std.proofs.lemmas.Bool.{eqb-true, not-true}
use Rattle.std.proofs.lemmas.List.{append-nil}
use Rattle.frac128.specs.Fraction.{Fraction}
use Rattle.units_io.specs.Blanks.{is_blank_text_byte}
use Rattle.def_lines.specs.Blanks.{after_blanks}
use Rattle.def_lines.specs.Parts.{begins_without_blank}
use Rattle.def_lines.specs.Words.{is_empty, words_between_blanks}
use Rattle.piecewise.specs.Lines.{Point}
use Rattle.def_entry.specs.Cuts.{entry_text_lacks}
use Rattle.def_entry.specs.Headings.{stands_apart}
use Rattle.def_entry.specs.Numbers.{entry_text_number}
use Rattle.def_entry.specs.Options.{text_after_choice}
use Rattle.def_entry.specs.PointGrammar.{ArePointPairs, Apart, Comma, NextPair, ends_point_pair_number, point_pair_then}
use Rattle.def_entry.specs.PointLists.{point_pairs_between_commas, point_pairs_of_words, some_point_pairs}
use Rattle.def_entry.specs.Steps.{◌>>=◌}
use Rattle.def_entry.proofs.CutParts.{entry_parts-none}
use Rattle.def_entry.proofs.CutTexts.{entry_cut-at, entry_cut-lacks}
use Rattle.def_entry.proofs.Fronts.{Parted, entry_text-after_blanks-begun, stops}
use Rattle.def_entry.proofs.PointRuns.{both, point_pairs-cut, points_in_runs}
use Rattle.def_entry.proofs.WrittenIntervals.{option_bind_some}
use Rattle.def_entry.proofs.WrittenOptions.{Fronted, option_text_after_blanks}
use Rattle.def_entry.proofs.PairSteps.{Front, Number, blank_pair_text_has_no_words, blank_pair_text_lacks_comma}
use Rattle.def_entry.proofs.PairSteps.{point_pair-apart-step, point_pair_blanks_are_apart, front_of, no_comma_next}
use Rattle.def_entry.proofs.PairSteps.{pair_number_lacks_blank_and_comma, point_pair-comma-step}
use Rattle.def_entry.proofs.PairSteps.{point_pair_texts_lack_comma, point_pair-word-step}

-- pairs that are read are written that way

-- a pair of two numbers and the points after it
pub record PairIs (x y : List ℕ) (found : Option (List Point)) (list : List Point) : Type 0 where
  pub first : Fraction
  pub second : Fraction
  pub behind_pair : List Point
  pub x_is : entry_text_number x ≡ Some first
  pub y_is : entry_text_number y ≡ Some second
  pub found_is : found ≡ Some behind_pair
  pub whole : (first, second) ∷ behind_pair ≡ list

-- a pair that is found consists of two numbers and the points after it
point_pair-is : (x y : List ℕ) (found : Option (List Point)) (list : List Point) → point_pair_then x y found ≡ Some list
    → PairIs x y found list
point_pair-is x y found list e =
    let one = option_bind_some (entry_text_number x)
    (λ a. entry_text_number y >>= (λ b. found >>= (λ ps. Some ((a, b) ∷ ps)))) list e in
    let two = option_bind_some (entry_text_number y) (λ b. found >>= (λ ps. Some ((one.0, b) ∷ ps))) list one.2 in
    let three = option_bind_some found (λ ps. Some ((one.0, two.0) ∷ ps)) list two.2 in
    record {
      first = one.0;
      second = two.0;
      behind_pair = three.0;
      x_is = one.1;
      y_is = two.1;
      found_is = three.1;
      whole = same ((one.0, two.0) ∷ three.0) list three.2;
    }
  where
    same : (ps qs : List Point) → ◌≡◌ {A = Option (List Point)} (Some ps) (Some qs) → ps ≡ qs
    same ps qs e = cc

-- a number between blanks is a single word
lone_pair_number_words : (before x blanks : List ℕ) → list_all is_blank_text_byte before ≡ true → Number x
    → list_all is_blank_text_byte blanks ≡ true
    → words_between_blanks (before ++ (x ++ blanks)) ≡ x ∷ []
lone_pair_number_words before x blanks clear is blank =
    point_pair-word-step before x blanks clear is.word is.some (point_pair_blanks_are_apart blanks blank)
    ∙ ap (λ ws. x ∷ ws) (blank_pair_text_has_no_words blanks blank)

-- if no comma follows a number, the text contains no comma
lone_pair_number_lacks_comma : (before x rest : List ℕ) → list_all is_blank_text_byte before ≡ true → Number x
    → entry_text_lacks 44 rest ≡ true
    → entry_text_lacks 44 (before ++ (x ++ rest)) ≡ true
lone_pair_number_lacks_comma before x rest clear is none =
    point_pair_texts_lack_comma before (x ++ rest) (blank_pair_text_lacks_comma before clear)
    (point_pair_texts_lack_comma x rest is.clear none)

-- a single number before a comma or the end is not a pair

-- the text is empty or starts with a comma
abbrev pub is_end : List ℕ → Bool
is_end [] = true
is_end (b ∷ rest) = b == 44

-- a single number before a comma or the end has no points
pub lone-number-has-no-point-pairs : (before x blanks rest : List ℕ) → list_all is_blank_text_byte before ≡ true
    → Number x
    → list_all is_blank_text_byte blanks ≡ true
    → is_end rest ≡ true
    → points_in_runs (before ++ (x ++ (blanks ++ rest))) ≡ None
lone-number-has-no-point-pairs before x blanks [] clear is blank end =
    let all : list_all is_blank_text_byte (blanks ++ []) ≡ true = ap (list_all is_blank_text_byte) (append-nil blanks)
    ∙ blank in
    let whole : entry_text_lacks 44 (before ++ (x ++ (blanks ++ []))) ≡ true =
    lone_pair_number_lacks_comma before x (blanks ++ []) clear is (blank_pair_text_lacks_comma (blanks ++ []) all) in
    ap point_pairs_between_commas
    (entry_parts-none 44 (before ++ (x ++ (blanks ++ []))) (entry_cut-lacks 44 (before ++ (x ++ (blanks ++ []))) whole))
    ∙ ap point_pairs_of_words (lone_pair_number_words before x (blanks ++ []) clear is all)
lone-number-has-no-point-pairs before x blanks (b ∷ rest) clear is blank end =
    let run : List ℕ = before ++ (x ++ blanks) in
    let mark : before ++ (x ++ (blanks ++ (b ∷ rest))) ≡ (before ++ (x ++ blanks)) ++ (44 ∷ rest) =
    ap (λ c. before ++ (x ++ (blanks ++ (c ∷ rest)))) (eqb-true b 44 end)
    ∙ ap (λ t. before ++ t) (sym (append_assoc x blanks (44 ∷ rest)))
    ∙ sym (append_assoc before (x ++ blanks) (44 ∷ rest)) in
    ap points_in_runs mark
    ∙ point_pairs-cut (run ++ (44 ∷ rest)) run rest
    (entry_cut-at 44 run rest
    (lone_pair_number_lacks_comma before x blanks clear is (blank_pair_text_lacks_comma blanks blank)))
    ∙ ap (λ ws. both (some_point_pairs ws) (points_in_runs rest))
    (lone_pair_number_words before x blanks clear is blank)

-- a text that starts with a comma has no points
pub leading-comma-has-no-point-pairs : (before rest : List ℕ) → list_all is_blank_text_byte before ≡ true
    → points_in_runs (before ++ (44 ∷ rest)) ≡ None
leading-comma-has-no-point-pairs before rest clear =
    point_pairs-cut (before ++ (44 ∷ rest)) before rest
    (entry_cut-at 44 before rest (blank_pair_text_lacks_comma before clear))
    ∙ ap (λ ws. both (some_point_pairs ws) (points_in_runs rest)) (blank_pair_text_has_no_words before clear)

-- a gap that is not the empty text is not empty
point_pair_gap_not_empty : (gap : List ℕ) → gap ≢ [] → not (is_empty gap) ≡ true
point_pair_gap_not_empty [] some = absurd (some refl)
point_pair_gap_not_empty (b ∷ gap) some = refl

-- the text after a pair is shorter than the whole text
text_after_point_pair_is_shorter : (before x gap y rest : List ℕ) → x ≢ []
    → length rest < length (front_of before x gap y rest)
text_after_point_pair_is_shorter before [] gap y rest some = absurd (some refl)
text_after_point_pair_is_shorter before (b ∷ x) gap y rest some =
    omega (
      arith,
      length-append before ((b ∷ x) ++ (gap ++ (y ++ rest))),
      length-append x (gap ++ (y ++ rest)),
      length-append gap (y ++ rest),
      length-append y rest,
    )

-- shorter texts whose points are read are written that way
abbrev pub Shorter : List ℕ → Type 0
Shorter text = (t : List ℕ) (l : List Point) → length t < length text → points_in_runs t ≡ Some l → ArePointPairs t l

-- a pair and the text after it
pub record Paired (before x gap y : List ℕ) : Type 0 where
  pub front : Front before x gap y
  pub x_clear : list_all (λ b. not (ends_point_pair_number b)) x ≡ true
  pub y_clear : list_all (λ b. not (ends_point_pair_number b)) y ≡ true

-- a pair that is followed by a comma is written that way
point_pair-comma-built : (before x gap y blanks rest : List ℕ) (list : List Point) → Paired before x gap y
    → list_all is_blank_text_byte blanks ≡ true
    → points_in_runs (front_of before x gap y (blanks ++ (44 ∷ rest))) ≡ Some list
    → Shorter (front_of before x gap y (blanks ++ (44 ∷ rest)))
    → ArePointPairs (front_of before x gap y (blanks ++ (44 ∷ rest))) list
point_pair-comma-built before x gap y blanks rest list is clear e next =
    let pair : PairIs x y (points_in_runs rest) list =
    point_pair-is x y (points_in_runs rest) list (sym (point_pair-comma-step before x gap y blanks rest is.front clear)
    ∙ e) in
    let less : length rest < length (front_of before x gap y (blanks ++ (44 ∷ rest))) =
    omega (
      arith,
      text_after_point_pair_is_shorter before x gap y (blanks ++ (44 ∷ rest))
          is.front.first.some,
      length-append blanks (44 ∷ rest),
    )
    in
    let more : ArePointPairs rest pair.behind_pair = next rest pair.behind_pair less pair.found_is in
    record {
      written_points = NextPair before x gap y (Comma blanks) more.written_points;
      spelled_text = ap (λ t. front_of before x gap y (blanks ++ (44 ∷ t))) more.spelled_text;
      well_formed =
          (λ i. is.front.blank i && (is.x_clear i && is_some (pair.x_is i)) && point_pair_gap_not_empty gap
          is.front.wide i
          && is.front.gap_blank i && (is.y_clear i && is_some (pair.y_is i))
          && clear i
          && more.well_formed i);
      values_same =
          (λ i. pair.x_is i >>= (λ a. pair.y_is i >>= (λ b. more.values_same i >>= (λ ps. Some ((a, b) ∷ ps)))))
          ∙ ap Some pair.whole;
    }

-- a pair that is followed by a blank or by nothing is written that way
point_pair-apart-built : (before x gap y rest : List ℕ) (list : List Point) → Paired before x gap y
    → stands_apart rest ≡ true
    → no_comma_next (after_blanks rest) ≡ true
    → points_in_runs (front_of before x gap y rest) ≡ Some list → Shorter (front_of before x gap y rest)
    → ArePointPairs (front_of before x gap y rest) list
point_pair-apart-built before x gap y rest list is apart none e next =
    let pair : PairIs x y (points_in_runs rest) list =
    point_pair-is x y (points_in_runs rest) list (sym (point_pair-apart-step before x gap y rest is.front apart none)
    ∙ e) in
    let more : ArePointPairs rest pair.behind_pair =
    next rest pair.behind_pair (text_after_point_pair_is_shorter before x gap y rest is.front.first.some) pair.found_is
    in
    record {
      written_points = NextPair before x gap y Apart more.written_points;
      spelled_text = ap (front_of before x gap y) more.spelled_text;
      well_formed =
          (λ i. is.front.blank i && (is.x_clear i && is_some (pair.x_is i)) && point_pair_gap_not_empty gap
          is.front.wide i
          && is.front.gap_blank i && (is.y_clear i && is_some (pair.y_is i))
          && (ap stands_apart (sym more.spelled_text) ∙ apart) i
          && more.well_formed i);
      values_same =
          (λ i. pair.x_is i >>= (λ a. pair.y_is i >>= (λ b. more.values_same i >>= (λ ps. Some ((a, b) ∷ ps)))))
          ∙ ap Some pair.whole;
    }

-- if a number ends and no comma follows, a blank or nothing does
ended_pair_number_is_apart : (rest : List ℕ) → stops ends_point_pair_number rest ≡ true
    → no_comma_next (after_blanks rest) ≡ true
    → stands_apart rest ≡ true
ended_pair_number_is_apart [] stop none = refl
ended_pair_number_is_apart (b ∷ rest) stop none = go (is_blank_text_byte b) refl (b == 44) refl stop
  where
    go : (s : Bool) → is_blank_text_byte b ≡ s → (t : Bool) → (b == 44) ≡ t → (s || t) ≡ true
        → is_blank_text_byte b ≡ true
    go true e t f stop = e
    go false e true f stop =
        absurd (true≢false (sym none ∙ ap no_comma_next (entry_text-after_blanks-begun (b ∷ rest) (ap not e))
        ∙ ap not f))
    go false e false f stop = cc

-- each pair is written in one of these ways
pub point_pair-built : (before x gap y rest : List ℕ) (list : List Point) → Paired before x gap y
    → stops ends_point_pair_number rest ≡ true
    → points_in_runs (front_of before x gap y rest) ≡ Some list → Shorter (front_of before x gap y rest)
    → ArePointPairs (front_of before x gap y rest) list
point_pair-built before x gap y rest list is stop e next = go (after_blanks rest) refl (option_text_after_blanks rest)
  where
    by : (b : ℕ) (text : List ℕ) → after_blanks rest ≡ b ∷ text → (t : Bool) → (b == 44) ≡ t → Fronted rest
        → ArePointPairs (front_of before x gap y rest) list
    by b text f true g front =
        let whole : rest ≡ front.blanks ++ (44 ∷ text) = front.whole
        ∙ ap (λ t. front.blanks ++ t) (f ∙ ap (λ c. c ∷ text) (eqb-true b 44 g)) in
        subst (λ r. ArePointPairs (front_of before x gap y r) list) (sym whole)
        (point_pair-comma-built before x gap y front.blanks text list is front.clear
        (ap (λ r. points_in_runs (front_of before x gap y r)) (sym whole) ∙ e)
        (subst (λ r. Shorter (front_of before x gap y r)) whole next))
    by b text f false g front =
        let none : no_comma_next (after_blanks rest) ≡ true = ap no_comma_next f ∙ ap not g in
        point_pair-apart-built before x gap y rest list is (ended_pair_number_is_apart rest stop none) none e next

    go : (t : List ℕ) → after_blanks rest ≡ t → Fronted rest → ArePointPairs (front_of before x gap y rest) list
    go [] f front =
        let none : no_comma_next (after_blanks rest) ≡ true = ap no_comma_next f in
        point_pair-apart-built before x gap y rest list is (ended_pair_number_is_apart rest stop none) none e next
    go (b ∷ text) f front = by b text f (b == 44) refl front

-- if a byte does not end a number, the number before the next such byte is not empty
pub pair_number_front_not_empty : (b : ℕ) (text : List ℕ) (part : Parted ends_point_pair_number (b ∷ text))
    → is_blank_text_byte b ≡ false → (b == 44) ≡ false
    → part.front ≢ []
pair_number_front_not_empty b text part f g e =
    let rest : b ∷ text ≡ part.behind = part.whole ∙ ap (λ t. t ++ part.behind) e in
    true≢false (sym (ap (stops ends_point_pair_number) rest ∙ part.stop) ∙ (λ i. f i || g i))

-- bytes of which none ends a number are a number, if there are any
pub point_pair_number_by_bytes : (x : List ℕ) → list_all (λ b. not (ends_point_pair_number b)) x ≡ true → x ≢ []
    → Number x
point_pair_number_by_bytes x clear some = record {
  word = (pair_number_lacks_blank_and_comma x clear).0;
  clear =
      (pair_number_lacks_blank_and_comma x clear).1;
  some = some;
}

-- the first byte of a text that does not start with a blank is not a blank
pub begun_entry_byte_not_blank : (b : ℕ) (text : List ℕ) → begins_without_blank (b ∷ text) ≡ true
    → is_blank_text_byte b ≡ false
begun_entry_byte_not_blank b text begun = not-true (is_blank_text_byte b) begun
