-- Sequences of pairs of numbers are read the way they are written.
use Rattle.std.proofs.Common.{◌≡◌, ◌≢◌, ◌==◌, ◌&&◌, ◌||◌, ◌∷◌, [], ◌++◌, ℕ, List, Bool, true, false, not, cond, length}
use Rattle.std.proofs.Common.{drop, Option, Some, None, refl, sym, ap, ◌∙◌, append_assoc, true≢false}
use Rattle.std.specs.List.{list_all}
use Rattle.std.specs.Option.{is_some}
use Rattle.std.proofs.lemmas.Bool.{and_parts, eqb-true}
use Rattle.std.proofs.lemmas.List.{append-nil}
use Rattle.std.proofs.lemmas.List.Folds.{list_all-append}
use Rattle.std.proofs.Math.Seq.{drop-append_seam}
use Rattle.frac128.specs.Fraction.{Fraction}
use Rattle.units_io.specs.Blanks.{is_blank_text_byte}
use Rattle.def_lines.specs.Blanks.{after_blanks}
use Rattle.def_lines.specs.Parts.{begins_without_blank}
use Rattle.def_lines.specs.Words.{after_word_and_blanks, first_word_before_blank, is_empty, words_between_blanks}
use Rattle.def_lines.proofs.WordLists.{words_between_blanks-after_blanks, words_between_blanks-first}
use Rattle.def_lines.proofs.TrimmedTexts.{begins_without_blank-after_blanks}
use Rattle.piecewise.specs.Lines.{Point}
use Rattle.def_entry.specs.Cuts.{cut_at, entry_text_lacks}
use Rattle.def_entry.specs.Headings.{stands_apart}
use Rattle.def_entry.specs.Numbers.{entry_text_number}
use Rattle.def_entry.specs.Options.{text_after_choice}
use Rattle.def_entry.specs.PointGrammar.{PointPairEnd, Apart, Comma, WrittenPointPairs, NoPair, NextPair}
use Rattle.def_entry.specs.PointGrammar.{are_point_pairs, ends_point_pair_number, is_point_pair_end}
use Rattle.def_entry.specs.PointGrammar.{is_point_pair_number, point_pair_end, point_pair_then, point_pair_values}
use Rattle.def_entry.specs.PointGrammar.{spelled_point_pairs}
use Rattle.def_entry.specs.PointLists.{point_pairs_between_commas, point_pairs_of_words, some_point_pairs}
use Rattle.def_entry.specs.Steps.{◌>>=◌}
use Rattle.def_entry.proofs.CutParts.{entry_parts-none}
use Rattle.def_entry.proofs.CutTexts.{entry_cut-at, entry_cut-is, entry_cut-lacks, entry_cut-none}
use Rattle.def_entry.proofs.Fronts.{entry_front-before-at, entry_text-after_blanks-begun, entry_text-stops-apart}
use Rattle.def_entry.proofs.PointRuns.{both, point_pairs-cut, points_in_runs}
use Rattle.def_entry.proofs.WrittenOptions.{Fronted, option-after_blanks-front, option_text_after_blanks}

-- words

-- an empty text has no words
pub empty_pair_text_has_no_words : words_between_blanks [] ≡ []
unfolding words_between_blanks
empty_pair_text_has_no_words = refl

-- blanks contain no words
pub blank_pair_text_has_no_words : (blanks : List ℕ) → list_all is_blank_text_byte blanks ≡ true
    → words_between_blanks blanks ≡ []
blank_pair_text_has_no_words blanks clear =
    sym (words_between_blanks-after_blanks blanks)
    ∙ ap words_between_blanks
    (ap after_blanks (sym (append-nil blanks)) ∙ option-after_blanks-front blanks [] clear refl)
    ∙ empty_pair_text_has_no_words

-- a blank is not a comma
pub blank_is_no_point_pair_comma : (b : ℕ) → is_blank_text_byte b ≡ true → not (b == 44) ≡ true
blank_is_no_point_pair_comma b blank = go (b == 32) (b == 9) refl refl blank
  where
    go : (s t : Bool) → (b == 32) ≡ s → (b == 9) ≡ t → (s || t) ≡ true → not (b == 44) ≡ true
    go true t e f blank = ap (λ c. not (c == 44)) (eqb-true b 32 e)
    go false true e f blank = ap (λ c. not (c == 44)) (eqb-true b 9 f)
    go false false e f blank = cc

-- blanks contain no comma
pub blank_pair_text_lacks_comma : (blanks : List ℕ) → list_all is_blank_text_byte blanks ≡ true
    → entry_text_lacks 44 blanks ≡ true
blank_pair_text_lacks_comma [] clear = refl
blank_pair_text_lacks_comma (b ∷ blanks) clear =
    go (and_parts (is_blank_text_byte b) (list_all is_blank_text_byte blanks) clear)
    (blank_pair_text_lacks_comma blanks)
  where
    go : (is_blank_text_byte b ≡ true) × (list_all is_blank_text_byte blanks ≡ true)
        → (list_all is_blank_text_byte blanks ≡ true → entry_text_lacks 44 blanks ≡ true)
        → entry_text_lacks 44 (b ∷ blanks) ≡ true
    go parts rest = (λ i. blank_is_no_point_pair_comma b parts.0 i && rest parts.1 i)

-- a text without bytes that end a number contains neither blanks nor commas
pub pair_number_lacks_blank_and_comma : (x : List ℕ) → list_all (λ b. not (ends_point_pair_number b)) x ≡ true
    → (list_all (λ b. not (is_blank_text_byte b)) x ≡ true) × (entry_text_lacks 44 x ≡ true)
pair_number_lacks_blank_and_comma [] clear = (refl, refl)
pair_number_lacks_blank_and_comma (b ∷ x) clear =
    go (and_parts (not (ends_point_pair_number b)) (list_all (λ b. not (ends_point_pair_number b)) x) clear)
    (pair_number_lacks_blank_and_comma x)
  where
    neither : (s t : Bool) → not (s || t) ≡ true → (not s ≡ true) × (not t ≡ true)
    neither true t e = cc
    neither false true e = cc
    neither false false e = (refl, refl)

    go : (not (ends_point_pair_number b) ≡ true) × (list_all (λ b. not (ends_point_pair_number b)) x ≡ true)
        → (list_all (λ b. not (ends_point_pair_number b)) x ≡ true
        → (list_all (λ b. not (is_blank_text_byte b)) x ≡ true)
        × (entry_text_lacks 44 x ≡ true))
        → (list_all (λ b. not (is_blank_text_byte b)) (b ∷ x) ≡ true) × (entry_text_lacks 44 (b ∷ x) ≡ true)
    go parts rest =
        let here : (not (is_blank_text_byte b) ≡ true) × (not (b == 44) ≡ true) = neither (is_blank_text_byte b)
        (b == 44) parts.0 in
        let more : (list_all (λ b. not (is_blank_text_byte b)) x ≡ true) × (entry_text_lacks 44 x ≡ true) =
        rest parts.1 in
        ((λ i. here.0 i && more.0 i), (λ i. here.1 i && more.1 i))

-- the words of a text that starts with blanks and a word
pub point_pair-word-step : (before x rest : List ℕ) → list_all is_blank_text_byte before ≡ true
    → list_all (λ b. not (is_blank_text_byte b)) x ≡ true
    → x ≢ []
    → stands_apart rest ≡ true
    → words_between_blanks (before ++ (x ++ rest)) ≡ x ∷ words_between_blanks rest
point_pair-word-step before [] rest clear word some apart = absurd (some refl)
point_pair-word-step before (b ∷ x) rest clear word some apart =
    let begun : begins_without_blank ((b ∷ x) ++ rest) ≡ true =
    (and_parts (not (is_blank_text_byte b)) (list_all (λ b. not (is_blank_text_byte b)) x) word).0 in
    let front : after_blanks (before ++ ((b ∷ x) ++ rest)) ≡ (b ∷ x) ++ rest =
    option-after_blanks-front before ((b ∷ x) ++ rest) clear begun in
    let first : first_word_before_blank ((b ∷ x) ++ rest) ≡ b ∷ x = entry_front-before-at is_blank_text_byte
    (b ∷ x) rest word (entry_text-stops-apart rest apart) in
    sym (words_between_blanks-after_blanks (before ++ ((b ∷ x) ++ rest)))
    ∙ ap words_between_blanks front
    ∙ words_between_blanks-first b (x ++ rest) begun
    ∙ (λ i. first i ∷ words_between_blanks (after_blanks (drop (length (first i)) ((b ∷ x) ++ rest))))
    ∙ ap (λ t. (b ∷ x) ∷ words_between_blanks (after_blanks t)) (drop-append_seam (b ∷ x) rest)
    ∙ ap (λ ws. (b ∷ x) ∷ ws) (words_between_blanks-after_blanks rest)

-- a number is not empty and contains neither blanks nor commas
pub record Number (x : List ℕ) : Type 0 where
  pub word : list_all (λ b. not (is_blank_text_byte b)) x ≡ true
  pub clear : entry_text_lacks 44 x ≡ true
  pub some : x ≢ []

-- an empty text is not a number
pub empty_text_is_no_pair_number : entry_text_number [] ≡ None
unfolding entry_text_number
empty_text_is_no_pair_number = refl

-- a number is not empty and contains no byte that ends one
pub point_pair-number-parts : (x : List ℕ) → is_point_pair_number x ≡ true → Number x
point_pair-number-parts x whole =
    let parts : (list_all (λ b. not (ends_point_pair_number b)) x ≡ true) × (is_some (entry_text_number x) ≡ true) =
    and_parts _ _ whole in
    let none : (list_all (λ b. not (is_blank_text_byte b)) x ≡ true) × (entry_text_lacks 44 x ≡ true) =
    pair_number_lacks_blank_and_comma x parts.0 in
    record {
      word = none.0;
      clear = none.1;
      some = λ e. true≢false (sym parts.1 ∙ ap (λ t. is_some (entry_text_number t)) e
          ∙ ap is_some empty_text_is_no_pair_number);
    }

-- a text that starts with a gap starts with a blank
pub point_pair_gap_is_apart : (gap rest : List ℕ) → gap ≢ [] → list_all is_blank_text_byte gap ≡ true
    → stands_apart (gap ++ rest) ≡ true
point_pair_gap_is_apart [] rest some clear = absurd (some refl)
point_pair_gap_is_apart (b ∷ gap) rest some clear =
    (and_parts (is_blank_text_byte b) (list_all is_blank_text_byte gap) clear).0

-- the front of a pair
pub record Front (before x gap y : List ℕ) : Type 0 where
  pub blank : list_all is_blank_text_byte before ≡ true
  pub first : Number x
  pub wide : gap ≢ []
  pub gap_blank : list_all is_blank_text_byte gap ≡ true
  pub second : Number y

-- the bytes of a front, followed by other bytes
abbrev pub front_of : List ℕ → List ℕ → List ℕ → List ℕ → List ℕ → List ℕ
front_of before x gap y rest = before ++ (x ++ (gap ++ (y ++ rest)))

-- the words of a pair and of the text after it, which is empty or starts with a blank
pub point_pair-words : (before x gap y rest : List ℕ) → Front before x gap y → stands_apart rest ≡ true
    → words_between_blanks (front_of before x gap y rest) ≡ x ∷ y ∷ words_between_blanks rest
point_pair-words before x gap y rest is apart =
    point_pair-word-step before x (gap ++ (y ++ rest)) is.blank is.first.word is.first.some
    (point_pair_gap_is_apart gap (y ++ rest) is.wide is.gap_blank)
    ∙ ap (λ ws. x ∷ ws) (point_pair-word-step gap y rest is.gap_blank is.second.word is.second.some apart)

-- the concatenation of two texts without a comma has no comma
pub point_pair_texts_lack_comma : (s t : List ℕ) → entry_text_lacks 44 s ≡ true → entry_text_lacks 44 t ≡ true
    → entry_text_lacks 44 (s ++ t) ≡ true
point_pair_texts_lack_comma s t e f = list_all-append (λ b. not (b == 44)) s t ∙ (λ i. e i && f i)

-- blanks are empty or start with a blank
pub point_pair_blanks_are_apart : (s : List ℕ) → list_all is_blank_text_byte s ≡ true → stands_apart s ≡ true
point_pair_blanks_are_apart [] e = refl
point_pair_blanks_are_apart (b ∷ s) e = (and_parts (is_blank_text_byte b) (list_all is_blank_text_byte s) e).0

-- the front contains no comma
pub point_pair_front_lacks_comma : (before x gap y rest : List ℕ) → Front before x gap y
    → entry_text_lacks 44 rest ≡ true
    → entry_text_lacks 44 (front_of before x gap y rest) ≡ true
point_pair_front_lacks_comma before x gap y rest is clear =
    point_pair_texts_lack_comma before (x ++ (gap ++ (y ++ rest))) (blank_pair_text_lacks_comma before is.blank)
    (point_pair_texts_lack_comma x (gap ++ (y ++ rest)) is.first.clear
    (point_pair_texts_lack_comma gap (y ++ rest) (blank_pair_text_lacks_comma gap is.gap_blank)
    (point_pair_texts_lack_comma y rest is.second.clear clear)))

-- appending to the rest of a front is appending to the whole text
pub point_pair_front_split : (before x gap y rest others : List ℕ)
    → front_of before x gap y (rest ++ others) ≡ front_of before x gap y rest ++ others
point_pair_front_split before x gap y rest others =
    ap (λ t. before ++ (x ++ (gap ++ t))) (sym (append_assoc y rest others))
    ∙ ap (λ t. before ++ (x ++ t)) (sym (append_assoc gap (y ++ rest) others))
    ∙ ap (λ t. before ++ t) (sym (append_assoc x (gap ++ (y ++ rest)) others))
    ∙ sym (append_assoc before (x ++ (gap ++ (y ++ rest))) others)

-- a pair before two runs comes before both
pub both_runs_with_point_pair : (x y : List ℕ) (found given : Option (List Point))
    → both (point_pair_then x y found) given ≡ point_pair_then x y (both found given)
both_runs_with_point_pair x y found given = go (entry_text_number x) (entry_text_number y) found given
  where
    go : (a b : Option Fraction) (found given : Option (List Point))
        → both (a >>= (λ v. b >>= (λ w. found >>= (λ ps. Some ((v, w) ∷ ps))))) given
        ≡ (a >>= (λ v. b >>= (λ w. both found given >>= (λ ps. Some ((v, w) ∷ ps)))))
    go None b found given = refl
    go (Some v) None found given = refl
    go (Some v) (Some w) None given = refl
    go (Some v) (Some w) (Some ps) None = refl
    go (Some v) (Some w) (Some ps) (Some qs) = refl

-- an empty list before a run does not change it
pub both_runs_without_point_pair : (given : Option (List Point)) → both (Some []) given ≡ given
both_runs_without_point_pair None = refl
both_runs_without_point_pair (Some ps) = refl

-- the points of a text that starts with a pair and a comma
pub point_pair-comma-step : (before x gap y blanks rest : List ℕ) → Front before x gap y
    → list_all is_blank_text_byte blanks ≡ true
    → points_in_runs (front_of before x gap y (blanks ++ (44 ∷ rest))) ≡ point_pair_then x y (points_in_runs rest)
point_pair-comma-step before x gap y blanks rest is clear =
    let run : List ℕ = front_of before x gap y blanks in
    let apart : stands_apart blanks ≡ true = point_pair_blanks_are_apart blanks clear in
    ap points_in_runs (point_pair_front_split before x gap y blanks (44 ∷ rest))
    ∙ point_pairs-cut (run ++ (44 ∷ rest)) run rest
    (entry_cut-at 44 run rest
    (point_pair_front_lacks_comma before x gap y blanks is (blank_pair_text_lacks_comma blanks clear)))
    ∙ ap (λ ws. both (some_point_pairs ws) (points_in_runs rest))
    (point_pair-words before x gap y blanks is apart
    ∙ ap (λ ws. x ∷ y ∷ ws) (blank_pair_text_has_no_words blanks clear))
    ∙ both_runs_with_point_pair x y (Some []) (points_in_runs rest)
    ∙ ap (point_pair_then x y) (both_runs_without_point_pair (points_in_runs rest))

-- no comma follows the leading blanks
abbrev pub no_comma_next : List ℕ → Bool
no_comma_next [] = true
no_comma_next (b ∷ text) = not (b == 44)

-- a text before a comma has a word, if the text does not start with a comma after blanks
pub pair_text_before_comma_has_words : (front behind : List ℕ)
    → no_comma_next (after_blanks (front ++ (44 ∷ behind))) ≡ true
    → some_point_pairs (words_between_blanks front) ≡ point_pairs_of_words (words_between_blanks front)
pair_text_before_comma_has_words front behind next = go (after_blanks front) refl (option_text_after_blanks front)
  where
    go : (rest : List ℕ) → after_blanks front ≡ rest → Fronted front
        → some_point_pairs (words_between_blanks front) ≡ point_pairs_of_words (words_between_blanks front)
    go [] e is =
        let blanks : front ≡ is.blanks = is.whole ∙ ap (λ t. is.blanks ++ t) e ∙ append-nil is.blanks in
        let mark : after_blanks (front ++ (44 ∷ behind)) ≡ 44 ∷ behind =
        ap (λ t. after_blanks (t ++ (44 ∷ behind))) blanks
        ∙ option-after_blanks-front is.blanks (44 ∷ behind) is.clear refl in
        absurd (true≢false (sym next ∙ ap no_comma_next mark))
    go (b ∷ rest) e is =
        let begun : begins_without_blank (b ∷ rest) ≡ true = ap begins_without_blank (sym e)
        ∙ begins_without_blank-after_blanks front in
        let words : words_between_blanks front ≡ first_word_before_blank (b ∷ rest) ∷ words_between_blanks
        (after_word_and_blanks (b ∷ rest)) =
        sym (words_between_blanks-after_blanks front) ∙ ap words_between_blanks e
        ∙ words_between_blanks-first b rest begun in
        ap some_point_pairs words ∙ sym (ap point_pairs_of_words words)

-- the points of a text that starts with a pair and a blank, or is only a pair
pub point_pair-apart-step : (before x gap y rest : List ℕ) → Front before x gap y → stands_apart rest ≡ true
    → no_comma_next (after_blanks rest) ≡ true
    → points_in_runs (front_of before x gap y rest) ≡ point_pair_then x y (points_in_runs rest)
point_pair-apart-step before x gap y rest is apart next = go (cut_at 44 rest) refl
  where
    apart_front : (front text_after_choice : List ℕ) → stands_apart (front ++ (44 ∷ text_after_choice)) ≡ true
        → stands_apart front ≡ true
    apart_front [] text_after_choice e = refl
    apart_front (b ∷ front) text_after_choice e = e

    go : (found : Option (List ℕ × List ℕ)) → cut_at 44 rest ≡ found
        → points_in_runs (front_of before x gap y rest) ≡ point_pair_then x y (points_in_runs rest)
    go None e =
        ap point_pairs_between_commas
        (entry_parts-none 44 (front_of before x gap y rest)
        (entry_cut-lacks 44 (front_of before x gap y rest)
        (point_pair_front_lacks_comma before x gap y rest is (entry_cut-none 44 rest e))))
        ∙ ap point_pairs_of_words (point_pair-words before x gap y rest is apart)
        ∙ ap (λ runs. point_pair_then x y (point_pairs_between_commas runs)) (sym (entry_parts-none 44 rest e))
    go (Some parts) e =
        let cut : (rest ≡ parts.0 ++ (44 ∷ parts.1)) × (entry_text_lacks 44 parts.0 ≡ true) =
        entry_cut-is 44 rest parts.0 parts.1 e in
        let run : List ℕ = front_of before x gap y parts.0 in
        let words : some_point_pairs (words_between_blanks parts.0) ≡ point_pairs_of_words
        (words_between_blanks parts.0) =
        pair_text_before_comma_has_words parts.0 parts.1 (ap (λ t. no_comma_next (after_blanks t)) (sym cut.0) ∙ next)
        in
        ap points_in_runs (ap (front_of before x gap y) cut.0 ∙ point_pair_front_split before x gap y parts.0
        (44 ∷ parts.1))
        ∙ point_pairs-cut (run ++ (44 ∷ parts.1)) run parts.1
        (entry_cut-at 44 run parts.1 (point_pair_front_lacks_comma before x gap y parts.0 is cut.1))
        ∙ ap (λ ws. both (some_point_pairs ws) (points_in_runs parts.1))
        (point_pair-words before x gap y parts.0 is (apart_front parts.0 parts.1 (ap stands_apart (sym cut.0) ∙ apart)))
        ∙ both_runs_with_point_pair x y (point_pairs_of_words (words_between_blanks parts.0)) (points_in_runs parts.1)
        ∙ ap (λ found. point_pair_then x y (both found (points_in_runs parts.1))) (sym words)
        ∙ ap (point_pair_then x y) (sym (point_pairs-cut rest parts.0 parts.1 e))

-- pairs that are written are read

-- the tests of a pair give the properties of its parts
pub point_pair-front-parts : (before x gap y : List ℕ)
    → (list_all is_blank_text_byte before && is_point_pair_number x && not (is_empty gap) && list_all is_blank_text_byte
    gap && is_point_pair_number y)
    ≡ true
    → Front before x gap y
point_pair-front-parts before x gap y whole =
    let a : ((list_all is_blank_text_byte before && is_point_pair_number x && not (is_empty gap) && list_all
    is_blank_text_byte gap) ≡ true)
    × (is_point_pair_number y ≡ true) = and_parts _ _ whole in
    let b : ((list_all is_blank_text_byte before && is_point_pair_number x && not (is_empty gap)) ≡ true)
    × (list_all is_blank_text_byte gap ≡ true) =
    and_parts _ _ a.0 in
    let c : ((list_all is_blank_text_byte before && is_point_pair_number x) ≡ true) × (not (is_empty gap) ≡ true) =
    and_parts _ _ b.0 in
    let d : (list_all is_blank_text_byte before ≡ true) × (is_point_pair_number x ≡ true) = and_parts _ _ c.0 in
    record {
      blank = d.0;
      first = point_pair-number-parts x d.1;
      wide = λ e. true≢false (sym c.1 ∙ ap (λ t. not (is_empty t)) e);
      gap_blank = b.1;
      second = point_pair-number-parts y a.1;
    }

-- a number does not start with a blank
pub point_pair_number_is_begun : (x rest : List ℕ) → Number x → begins_without_blank (x ++ rest) ≡ true
point_pair_number_is_begun [] rest is = absurd (is.some refl)
point_pair_number_is_begun (b ∷ x) rest is =
    (and_parts (not (is_blank_text_byte b)) (list_all (λ b. not (is_blank_text_byte b)) x) is.word).0

-- a text that starts with a number does not start with a comma
pub point_pair-number-next : (x rest : List ℕ) → Number x → no_comma_next (after_blanks (x ++ rest)) ≡ true
point_pair-number-next [] rest is = absurd (is.some refl)
point_pair-number-next (b ∷ x) rest is =
    let begun : begins_without_blank ((b ∷ x) ++ rest) ≡ true =
    (and_parts (not (is_blank_text_byte b)) (list_all (λ b. not (is_blank_text_byte b)) x) is.word).0 in
    ap no_comma_next (entry_text-after_blanks-begun ((b ∷ x) ++ rest) begun)
    ∙ (and_parts (not (b == 44)) (entry_text_lacks 44 x) is.clear).0

-- leading blanks are skipped along with further ones
pub point_pair_blanks_are_skipped : (blanks text : List ℕ) → list_all is_blank_text_byte blanks ≡ true
    → after_blanks (blanks ++ text) ≡ after_blanks text
point_pair_blanks_are_skipped [] text clear = refl
point_pair_blanks_are_skipped (b ∷ blanks) text clear =
    go (and_parts (is_blank_text_byte b) (list_all is_blank_text_byte blanks) clear)
    (point_pair_blanks_are_skipped blanks text)
  where
    go : (is_blank_text_byte b ≡ true) × (list_all is_blank_text_byte blanks ≡ true)
        → (list_all is_blank_text_byte blanks ≡ true → after_blanks (blanks ++ text) ≡ after_blanks text)
        → after_blanks ((b ∷ blanks) ++ text) ≡ after_blanks text
    go parts rest = ap (λ t. cond t (after_blanks (blanks ++ text)) ((b ∷ blanks) ++ text)) parts.0 ∙ rest parts.1

-- a text that starts with points does not start with a comma
pub point_pairs-written-next : (w : WrittenPointPairs) → are_point_pairs w ≡ true
    → no_comma_next (after_blanks (spelled_point_pairs w)) ≡ true
point_pairs-written-next (NoPair blanks) whole =
    ap no_comma_next (ap after_blanks (sym (append-nil blanks)) ∙ option-after_blanks-front blanks [] whole refl)
point_pairs-written-next (NextPair before x gap y end rest) whole =
    let a : ((list_all is_blank_text_byte before && is_point_pair_number x && not (is_empty gap) && list_all
    is_blank_text_byte gap &&
    is_point_pair_number y
    && is_point_pair_end end (spelled_point_pairs rest)) ≡ true) × (are_point_pairs rest ≡ true) =
    and_parts _ _ whole in
    let is : Front before x gap y = point_pair-front-parts before x gap y (and_parts _ _ a.0).0 in
    ap no_comma_next (point_pair_blanks_are_skipped before
    (x ++ (gap ++ (y ++ point_pair_end end (spelled_point_pairs rest)))) is.blank)
    ∙ point_pair-number-next x (gap ++ (y ++ point_pair_end end (spelled_point_pairs rest))) is.first

-- points are read the way they are written
pub point_pairs-read : (w : WrittenPointPairs) → are_point_pairs w ≡ true
    → points_in_runs (spelled_point_pairs w) ≡ point_pair_values w
point_pairs-read (NoPair blanks) whole =
    ap point_pairs_between_commas
    (entry_parts-none 44 blanks (entry_cut-lacks 44 blanks (blank_pair_text_lacks_comma blanks whole)))
    ∙ ap point_pairs_of_words (blank_pair_text_has_no_words blanks whole)
point_pairs-read (NextPair before x gap y end rest) whole =
    let a : ((list_all is_blank_text_byte before && is_point_pair_number x && not (is_empty gap) && list_all
    is_blank_text_byte gap &&
    is_point_pair_number y
    && is_point_pair_end end (spelled_point_pairs rest)) ≡ true) × (are_point_pairs rest ≡ true) =
    and_parts _ _ whole in
    let b : ((list_all is_blank_text_byte before && is_point_pair_number x && not (is_empty gap) && list_all
    is_blank_text_byte gap &&
    is_point_pair_number y)
    ≡ true) × (is_point_pair_end end (spelled_point_pairs rest) ≡ true) = and_parts _ _ a.0 in
    go end b.1 (point_pair-front-parts before x gap y b.0) (point_pairs-written-next rest a.1)
    (point_pairs-read rest a.1)
  where
    go : (e : PointPairEnd) → is_point_pair_end e (spelled_point_pairs rest) ≡ true → Front before x gap y
        → no_comma_next (after_blanks (spelled_point_pairs rest)) ≡ true
        → points_in_runs (spelled_point_pairs rest) ≡ point_pair_values rest
        → points_in_runs (front_of before x gap y (point_pair_end e (spelled_point_pairs rest))) ≡ point_pair_then x y
        (point_pair_values rest)
    go Apart ends is next read = point_pair-apart-step before x gap y (spelled_point_pairs rest) is ends next
        ∙ ap (point_pair_then x y) read
    go (Comma blanks) ends is next read = point_pair-comma-step before x gap y blanks (spelled_point_pairs rest) is ends
        ∙ ap (point_pair_then x y) read
