-- Points are read the way they are written.
use Rattle.std.proofs.Common.{◌≡◌, ◌≢◌, inl, inr, ◌<◌, ◌==◌, ◌&&◌, ◌||◌, ◌∷◌, [], ◌++◌, ℕ, zero, suc, List, Bool, true}
use Rattle.std.proofs.Common.{false, not, cond, length, codes, Some, None, refl, sym, ap, ◌∙◌, subst, arith}
use Rattle.std.proofs.Common.{append_assoc, true≢false}
use Rattle.std.specs.List.{list_all}
use Rattle.std.specs.Option.{is_some}
use Rattle.std.proofs.lemmas.Bool.{and_parts, eqb-true}
use Rattle.std.proofs.lemmas.List.{append-nil}
use Rattle.std.proofs.lemmas.List.Folds.{list_all-append}
use Rattle.std.proofs.lemmas.Option.{none-some, same_Some}
use Rattle.units_io.specs.Blanks.{is_blank_text_byte}
use Rattle.def_lines.specs.Blanks.{after_blanks}
use Rattle.def_lines.specs.Parts.{begins_without_blank}
use Rattle.def_lines.specs.Words.{first_word_before_blank, is_empty}
use Rattle.def_lines.proofs.TrimmedTexts.{begins_without_blank-after_blanks}
use Rattle.piecewise.specs.Lines.{Point}
use Rattle.def_entry.specs.declared.options.Choice.TheVariants.{NoError}
use Rattle.def_entry.specs.Headings.{stands_apart}
use Rattle.def_entry.specs.Numbers.{entry_text_number}
use Rattle.def_entry.specs.Options.{begins_with_no_error, begins_with_option, text_after_choice}
use Rattle.def_entry.specs.PointGrammar.{ArePointPairs, AreWrittenPointPairs, PointPairsLaw, WrittenPointPairs, NoPair}
use Rattle.def_entry.specs.PointGrammar.{NextPair, are_point_pairs, ends_point_pair_number, is_point_pair_end}
use Rattle.def_entry.specs.PointGrammar.{is_point_pair_number, point_pair_end, point_pair_values, spelled_point_pairs}
use Rattle.def_entry.specs.PointLists.{behind_no_error, points_of}
use Rattle.def_entry.proofs.Fronts.{Parted, entry_front-before-at, entry_text-parted, entry_text-stops-apart, stops}
use Rattle.def_entry.proofs.PointRuns.{points_in_runs}
use Rattle.def_entry.proofs.WrittenOptions.{Fronted, option-after_blanks-front, option_start-is}
use Rattle.def_entry.proofs.WrittenOptions.{option_text_after_blanks}
use Rattle.def_entry.proofs.PairSteps.{Front, Number, point_pair_gap_is_apart, point_pair-front-parts}
use Rattle.def_entry.proofs.PairSteps.{point_pair_number_is_begun, point_pairs-read}
use Rattle.def_entry.proofs.BuiltPairs.{Paired, Shorter, begun_entry_byte_not_blank, is_end}
use Rattle.def_entry.proofs.BuiltPairs.{leading-comma-has-no-point-pairs, lone-number-has-no-point-pairs}
use Rattle.def_entry.proofs.BuiltPairs.{pair_number_front_not_empty, point_pair-built, point_pair_number_by_bytes}

-- the pairs of a text whose first number was read are written that way
point_pairs-second-built : (before x rest : List ℕ) (list : List Point) → list_all is_blank_text_byte before ≡ true
    → list_all (λ b. not (ends_point_pair_number b)) x ≡ true
    → x ≢ [] → stops ends_point_pair_number rest ≡ true
    → points_in_runs (before ++ (x ++ rest)) ≡ Some list → Shorter (before ++ (x ++ rest))
    → ArePointPairs (before ++ (x ++ rest)) list
point_pairs-second-built before x rest list clear x_clear some stop e next = go (after_blanks rest) refl
    (option_text_after_blanks rest)
  where
    alone : (gap text : List ℕ) → rest ≡ gap ++ text → list_all is_blank_text_byte gap ≡ true → is_end text ≡ true
        → ArePointPairs (before ++ (x ++ rest)) list
    alone gap text whole blank end =
        absurd
        (none-some list
        (sym (ap (λ t. points_in_runs (before ++ (x ++ t))) whole
        ∙ lone-number-has-no-point-pairs before x gap text clear (point_pair_number_by_bytes x x_clear some) blank end)
        ∙ e))

    wide : (gap text : List ℕ) (b : ℕ) → rest ≡ gap ++ (b ∷ text) → is_blank_text_byte b ≡ false → (b == 44) ≡ false
        → gap ≢ []
    wide gap text b whole f g none =
        true≢false (sym (ap (stops ends_point_pair_number) (sym (whole ∙ ap (λ t. t ++ (b ∷ text)) none)) ∙ stop)
        ∙ (λ i. f i || g i))

    by : (b : ℕ) (text : List ℕ) → after_blanks rest ≡ b ∷ text → (t : Bool) → (b == 44) ≡ t → Fronted rest
        → Parted ends_point_pair_number (b ∷ text)
        → ArePointPairs (before ++ (x ++ rest)) list
    by b text f true g front part =
        alone front.blanks (b ∷ text) (front.whole ∙ ap (λ t. front.blanks ++ t) f) front.clear g
    by b text f false g front part =
        let word : is_blank_text_byte b ≡ false = begun_entry_byte_not_blank b text
        (ap begins_without_blank (sym f) ∙ begins_without_blank-after_blanks rest) in
        let gap_whole : rest ≡ front.blanks ++ (b ∷ text) = front.whole ∙ ap (λ t. front.blanks ++ t) f in
        let whole : rest ≡ front.blanks ++ (part.front ++ part.behind) =
        gap_whole ∙ ap (λ t. front.blanks ++ t) part.whole in
        let is : Paired before x front.blanks part.front = record {
          front = record {
            blank = clear;
            first = point_pair_number_by_bytes x x_clear some;
            wide = wide front.blanks text b gap_whole word g;
            gap_blank = front.clear;
            second = point_pair_number_by_bytes part.front part.clear (pair_number_front_not_empty b text part word g);
          };
          x_clear = x_clear;
          y_clear = part.clear;
        } in
        subst (λ t. ArePointPairs (before ++ (x ++ t)) list) (sym whole)
        (point_pair-built before x front.blanks part.front part.behind list is part.stop
        (ap (λ t. points_in_runs (before ++ (x ++ t))) (sym whole) ∙ e)
        (subst (λ t. Shorter (before ++ (x ++ t))) whole next))

    go : (t : List ℕ) → after_blanks rest ≡ t → Fronted rest → ArePointPairs (before ++ (x ++ rest)) list
    go [] f front = alone front.blanks [] (front.whole ∙ ap (λ t. front.blanks ++ t) f) front.clear refl
    go (b ∷ text) f front = by b text f (b == 44) refl front (entry_text-parted ends_point_pair_number (b ∷ text))

-- pairs that are read are written that way
point_pairs-built : (n : ℕ) (text : List ℕ) (list : List Point) → length text < n → points_in_runs text ≡ Some list
    → ArePointPairs text list
point_pairs-built zero text list less e = absurd (omega arith)
point_pairs-built (suc n) text list less e = go (after_blanks text) refl (option_text_after_blanks text)
    (point_pairs-built n)
  where
    by : (b : ℕ) (rest : List ℕ) → after_blanks text ≡ b ∷ rest → (t : Bool) → (b == 44) ≡ t → Fronted text
        → Parted ends_point_pair_number (b ∷ rest)
        → ((t : List ℕ) (l : List Point) → length t < n → points_in_runs t ≡ Some l → ArePointPairs t l)
        → ArePointPairs text list
    by b rest f true g front part next =
        let mark : text ≡ front.blanks ++ (44 ∷ rest) = front.whole
        ∙ ap (λ t. front.blanks ++ t) (f ∙ ap (λ c. c ∷ rest) (eqb-true b 44 g)) in
        absurd (none-some list
        (sym (ap points_in_runs mark ∙ leading-comma-has-no-point-pairs front.blanks rest front.clear) ∙ e))
    by b rest f false g front part next =
        let word : is_blank_text_byte b ≡ false = begun_entry_byte_not_blank b rest
        (ap begins_without_blank (sym f) ∙ begins_without_blank-after_blanks text) in
        let whole : text ≡ front.blanks ++ (part.front ++ part.behind) = front.whole
        ∙ ap (λ t. front.blanks ++ t) (f ∙ part.whole) in
        subst (λ t. ArePointPairs t list) (sym whole)
        (point_pairs-second-built front.blanks part.front part.behind list front.clear part.clear
        (pair_number_front_not_empty b rest part word g) part.stop (ap points_in_runs (sym whole) ∙ e)
        (λ t l shorter given. next t l (omega (arith, shorter, less, ap length whole)) given))

    go : (t : List ℕ) → after_blanks text ≡ t → Fronted text
        → ((t : List ℕ) (l : List Point) → length t < n → points_in_runs t ≡ Some l → ArePointPairs t l)
        → ArePointPairs text list
    go [] f front next =
        let blanks : text ≡ front.blanks = front.whole ∙ ap (λ t. front.blanks ++ t) f ∙ append-nil front.blanks in
        record {
          written_points = NoPair front.blanks;
          spelled_text = blanks;
          well_formed = front.clear;
          values_same = ap Some
              (same_Some [] list (sym (ap points_in_runs blanks ∙ point_pairs-read (NoPair front.blanks) front.clear)
              ∙ e));
        }
    go (b ∷ rest) f front next = by b rest f (b == 44) refl front (entry_text-parted ends_point_pair_number (b ∷ rest))
        next

-- the leading word

-- pairs that are written are read
point_pairs-found : (text : List ℕ) (list : List Point) → ArePointPairs text list → points_in_runs text ≡ Some list
point_pairs-found text list is = ap points_in_runs is.spelled_text ∙ point_pairs-read is.written_points is.well_formed
    ∙ is.values_same

-- pairs without leading blanks are written pairs
bare_point_pairs : (w : WrittenPointPairs) (list : List Point) → are_point_pairs w ≡ true
    → point_pair_values w ≡ Some list
    → ArePointPairs (after_blanks (spelled_point_pairs w)) list
bare_point_pairs (NoPair blanks) list whole same = record {
  written_points = NoPair [];
  spelled_text = ap after_blanks (sym (append-nil blanks)) ∙ option-after_blanks-front blanks [] whole refl;
  well_formed = refl;
  values_same = same;
}
bare_point_pairs (NextPair before x gap y end rest) list whole same =
    let a : ((list_all is_blank_text_byte before && is_point_pair_number x && not (is_empty gap) && list_all
    is_blank_text_byte gap &&
    is_point_pair_number y
    && is_point_pair_end end (spelled_point_pairs rest)) ≡ true) × (are_point_pairs rest ≡ true) =
    and_parts _ _ whole in
    let is : Front before x gap y = point_pair-front-parts before x gap y (and_parts _ _ a.0).0 in
    record {
      written_points = NextPair [] x gap y end rest;
      spelled_text = option-after_blanks-front before
          (x ++ (gap ++ (y ++ point_pair_end end (spelled_point_pairs rest)))) is.blank
          (point_pair_number_is_begun x (gap ++ (y ++ point_pair_end end (spelled_point_pairs rest))) is.first);
      well_formed = without_blanks (list_all is_blank_text_byte before) (is_point_pair_number x) (not (is_empty gap))
          (list_all is_blank_text_byte gap)
          (is_point_pair_number y) (is_point_pair_end end (spelled_point_pairs rest)) (are_point_pairs rest) whole;
      values_same = same;
    }
  where
    without_blanks : (p q r s t u v : Bool) → (p && q && r && s && t && u && v) ≡ true
        → (true && q && r && s && t && u && v) ≡ true
    without_blanks true q r s t u v e = e
    without_blanks false q r s t u v e = cc

-- pairs after further blanks are written pairs
point_pairs-after-blanks : (blanks : List ℕ) (w : WrittenPointPairs) (list : List Point)
    → list_all is_blank_text_byte blanks ≡ true
    → are_point_pairs w ≡ true
    → point_pair_values w ≡ Some list → ArePointPairs (blanks ++ spelled_point_pairs w) list
point_pairs-after-blanks blanks (NoPair others) list clear whole same = record {
  written_points = NoPair (blanks ++ others);
  spelled_text = refl;
  well_formed = list_all-append is_blank_text_byte blanks others ∙ (λ i. clear i && whole i);
  values_same = same;
}
point_pairs-after-blanks blanks (NextPair before x gap y end rest) list clear whole same = record {
  written_points = NextPair (blanks ++ before) x gap y end rest;
  spelled_text = sym (append_assoc blanks before (x ++ (gap ++ (y ++ point_pair_end end (spelled_point_pairs rest)))));
  well_formed =
      ap (λ t. t && is_point_pair_number x && not (is_empty gap) && list_all is_blank_text_byte gap &&
      is_point_pair_number y
      && is_point_pair_end end (spelled_point_pairs rest) && are_point_pairs rest)
      (list_all-append is_blank_text_byte blanks before ∙ ap (λ t. t && list_all is_blank_text_byte before) clear)
      ∙ whole;
  values_same = same;
}

-- `noerror` is not a number
no_error_is_no_pair_number : entry_text_number (codes "noerror") ≡ None
unfolding entry_text_number
no_error_is_no_pair_number = refl

-- pairs do not start with `noerror`
point_pairs_not_led_by_no_error : (text : List ℕ) (list : List Point) → ArePointPairs text list
    → begins_with_no_error (after_blanks text) ≡ false
point_pairs_not_led_by_no_error text list is = ap (λ t. begins_with_no_error (after_blanks t)) is.spelled_text
    ∙ go is.written_points is.well_formed
  where
    words : (x rest : List ℕ) → Number x → is_point_pair_number x ≡ true → stands_apart rest ≡ true → (t : Bool)
        → begins_with_no_error (x ++ rest) ≡ t
        → t ≡ false
    words x rest is number apart false e = refl
    words x rest is number apart true e =
        let parts : (begins_with_option NoError (x ++ rest) ≡ true)
        × (stands_apart (text_after_choice NoError (x ++ rest)) ≡ true)
        =
        and_parts _ _ e in
        let led : x ++ rest ≡ codes "noerror" ++ text_after_choice NoError (x ++ rest) =
        option_start-is (x ++ rest) (codes "noerror") parts.0 in
        let word : x ≡ codes "noerror" =
        sym (entry_front-before-at is_blank_text_byte x rest is.word (entry_text-stops-apart rest apart))
        ∙ ap first_word_before_blank led
        ∙ entry_front-before-at is_blank_text_byte (codes "noerror") (text_after_choice NoError (x ++ rest)) refl
        (entry_text-stops-apart (text_after_choice NoError (x ++ rest)) parts.1) in
        absurd (true≢false (sym (and_parts _ _ number).1 ∙ ap (λ w. is_some (entry_text_number w)) word
        ∙ ap is_some no_error_is_no_pair_number))

    go : (w : WrittenPointPairs) → are_point_pairs w ≡ true
        → begins_with_no_error (after_blanks (spelled_point_pairs w)) ≡ false
    go (NoPair blanks) whole =
        ap begins_with_no_error
        (ap after_blanks (sym (append-nil blanks)) ∙ option-after_blanks-front blanks [] whole refl)
    go (NextPair before x gap y end rest) whole =
        let a : ((list_all is_blank_text_byte before && is_point_pair_number x && not (is_empty gap) && list_all
        is_blank_text_byte gap &&
        is_point_pair_number y
        && is_point_pair_end end (spelled_point_pairs rest)) ≡ true) × (are_point_pairs rest ≡ true) =
        and_parts _ _ whole in
        let b : ((list_all is_blank_text_byte before && is_point_pair_number x && not (is_empty gap) && list_all
        is_blank_text_byte gap &&
        is_point_pair_number y)
        ≡ true) × (is_point_pair_end end (spelled_point_pairs rest) ≡ true) = and_parts _ _ a.0 in
        let c : ((list_all is_blank_text_byte before && is_point_pair_number x && not (is_empty gap) && list_all
        is_blank_text_byte gap) ≡ true)
        × (is_point_pair_number y ≡ true) = and_parts _ _ b.0 in
        let d : ((list_all is_blank_text_byte before && is_point_pair_number x && not (is_empty gap)) ≡ true)
        × (list_all is_blank_text_byte gap ≡ true) = and_parts _ _ c.0 in
        let f : ((list_all is_blank_text_byte before && is_point_pair_number x) ≡ true) × (not (is_empty gap) ≡ true) =
        and_parts _ _ d.0 in
        let front : Front before x gap y = point_pair-front-parts before x gap y b.0 in
        let others : List ℕ = gap ++ (y ++ point_pair_end end (spelled_point_pairs rest)) in
        ap begins_with_no_error
        (option-after_blanks-front before (x ++ others) front.blank (point_pair_number_is_begun x others front.first))
        ∙ words x others front.first (and_parts _ _ f.0).1
        (point_pair_gap_is_apart gap (y ++ point_pair_end end (spelled_point_pairs rest)) front.wide front.gap_blank)
        (begins_with_no_error (x ++ others)) refl

-- the law of points
pub point_pairs_law : PointPairsLaw
unfolding points_of
point_pairs_law text list = (to, from)
  where
    with_word : (t : Bool) → begins_with_no_error (after_blanks text) ≡ t → points_of text ≡ Some list
        → AreWrittenPointPairs text list
    with_word true e given =
        let parts : (begins_with_option NoError (after_blanks text) ≡ true)
        × (stands_apart (text_after_choice NoError (after_blanks text)) ≡ true) = and_parts _ _ e in
        let front : Fronted text = option_text_after_blanks text in
        let led : after_blanks text ≡ codes "noerror" ++ text_after_choice NoError (after_blanks text) =
        option_start-is (after_blanks text) (codes "noerror") parts.0 in
        let rest : points_in_runs (text_after_choice NoError (after_blanks text)) ≡ Some list =
        sym (ap (λ t. points_in_runs (cond t (text_after_choice NoError (after_blanks text)) (after_blanks text))) e)
        ∙ given in
        let less : length (text_after_choice NoError (after_blanks text)) < suc
        (length (text_after_choice NoError (after_blanks text))) =
        omega arith in
        inr (record {
          blanks = front.blanks;
          pairs_text = text_after_choice NoError (after_blanks text);
          spelled_text = front.whole ∙ ap (λ t. front.blanks ++ t) led;
          blanks_only = front.clear;
          rest_apart = parts.1;
          pairs = point_pairs-built (suc (length (text_after_choice NoError (after_blanks text))))
              (text_after_choice NoError (after_blanks text)) list less rest;
        })
    with_word false e given =
        let front : Fronted text = option_text_after_blanks text in
        let rest : points_in_runs (after_blanks text) ≡ Some list =
        sym (ap (λ t. points_in_runs (cond t (text_after_choice NoError (after_blanks text)) (after_blanks text))) e)
        ∙ given in
        let less : length (after_blanks text) < suc (length (after_blanks text)) = omega arith in
        let pairs : ArePointPairs (after_blanks text) list =
        point_pairs-built (suc (length (after_blanks text))) (after_blanks text) list less rest in
        inl
        (subst (λ t. ArePointPairs t list) (sym (front.whole ∙ ap (λ t. front.blanks ++ t) pairs.spelled_text))
        (point_pairs-after-blanks front.blanks pairs.written_points list front.clear pairs.well_formed
        pairs.values_same))

    to : points_of text ≡ Some list → AreWrittenPointPairs text list
    to given = with_word (begins_with_no_error (after_blanks text)) refl given

    from : AreWrittenPointPairs text list → points_of text ≡ Some list
    from (inl pairs) =
        ap (λ t. points_in_runs (cond t (text_after_choice NoError (after_blanks text)) (after_blanks text)))
        (point_pairs_not_led_by_no_error text list pairs)
        ∙ ap (λ t. points_in_runs (after_blanks t)) pairs.spelled_text
        ∙ point_pairs-found (after_blanks (spelled_point_pairs pairs.written_points)) list
        (bare_point_pairs pairs.written_points list pairs.well_formed pairs.values_same)
    from (inr is) =
        let front : after_blanks text ≡ codes "noerror" ++ is.pairs_text = ap after_blanks is.spelled_text
        ∙ option-after_blanks-front is.blanks (codes "noerror" ++ is.pairs_text) is.blanks_only refl in
        ap (λ t. points_in_runs (behind_no_error t)) front
        ∙ ap (λ t. points_in_runs (cond t is.pairs_text (codes "noerror" ++ is.pairs_text))) is.rest_apart
        ∙ point_pairs-found is.pairs_text list is.pairs
