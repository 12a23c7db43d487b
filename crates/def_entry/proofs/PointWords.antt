-- The words of a text, taken in pairs, as pairs of numbers.
use Rattle.std.proofs.Common.{◌≡◌, ◌<◌, ◌≤◌, ◌++◌, ◌==◌, ℕ, List, [], ◌∷◌, Bool, true, false, cond, length, Option}
use Rattle.std.proofs.Common.{Some, None, Ok, option_map, refl, sym, ap, ◌∙◌, subst, arith, append_assoc, length-append}
use Rattle.std.specs.Prelude.{nat_le}
use Rattle.std.proofs.lemmas.Bool.{leb-true, le-leb, eqb-true}
use Rattle.std.proofs.lemmas.List.{append-nil, nil_from_length}
use Rattle.def_lines.specs.Blanks.{after_blanks}
use Rattle.def_lines.specs.Parts.{begins_without_blank}
use Rattle.def_lines.specs.Words.{after_word_and_blanks, first_word_before_blank, words_between_blanks}
use Rattle.def_lines.proofs.WordLists.{begins_without_blank-after_word, length-after_word_and_blanks}
use Rattle.def_lines.proofs.WordLists.{shorter-after_word_and_blanks, words_between_blanks-after_blanks}
use Rattle.def_lines.proofs.WordLists.{words_between_blanks-first}
use Rattle.def_lines.proofs.TrimmedTexts.{begins_without_blank-after_blanks}
use Rattle.frac128.specs.Fraction.{Fraction}
use Rattle.piecewise.specs.Lines.{Point}
use Rattle.def_entry.specs.declared.fault.EntryFault.TheVariants.{BadTable}
use Rattle.def_entry.specs.Numbers.{entry_text_number}
use Rattle.def_entry.specs.Outcomes.{or_entry_fault}
use Rattle.def_entry.specs.PointLists.{most_point_pairs, point_pairs_of_words, some_point_pairs}
use Rattle.def_entry.specs.PointLists.{within_point_pair_limit}
use Rattle.def_entry.specs.Steps.{◌>>=◌}

-- a pair of numbers and the pairs after it
abbrev pub paired : Option Point → Option (List Point) → Option (List Point)
paired point points = point >>= (λ p. points >>= (λ ps. Some (p ∷ ps)))

-- the two numbers at the front of a text
abbrev pub front_pair : List ℕ → Option Point
front_pair text = entry_text_number (first_word_before_blank text) >>=
    (λ x. entry_text_number (first_word_before_blank (after_word_and_blanks text)) >>= (λ y. Some (x, y)))

-- no number
abbrev nothing : Option Fraction
nothing = None

-- an empty text has no words
point_pair_words-nil : words_between_blanks [] ≡ []
unfolding words_between_blanks
point_pair_words-nil = refl

-- an empty text is not a number
point_pair_number-nil : entry_text_number [] ≡ None
unfolding entry_text_number
point_pair_number-nil = refl

-- one step of reading pairs
pub point_pairs-step : (b : ℕ) (text : List ℕ) → begins_without_blank (b ∷ text) ≡ true
    → point_pairs_of_words (words_between_blanks (b ∷ text))
    ≡ paired (front_pair (b ∷ text))
    (point_pairs_of_words (words_between_blanks (after_word_and_blanks (after_word_and_blanks (b ∷ text)))))
point_pairs-step b text begun =
    ap point_pairs_of_words (words_between_blanks-first b text begun) ∙ behind (after_word_and_blanks (b ∷ text))
    (begins_without_blank-after_word (b ∷ text))
  where
    none : (x y : Option Fraction) (points : Option (List Point)) → y ≡ None
        → None ≡ paired (x >>= (λ v. y >>= (λ w. Some (v, w)))) points
    none None y points e = refl
    none (Some v) None points e = refl
    none (Some v) (Some w) points e = cc

    some : (x y : Option Fraction) (points : Option (List Point))
        → (x >>= (λ v. y >>= (λ w. points >>= (λ ps. Some ((v, w) ∷ ps)))))
        ≡ paired (x >>= (λ v. y >>= (λ w. Some (v, w)))) points
    some None y points = refl
    some (Some v) None points = refl
    some (Some v) (Some w) points = refl

    behind : (rest : List ℕ) → begins_without_blank rest ≡ true
        → point_pairs_of_words (first_word_before_blank (b ∷ text) ∷ words_between_blanks rest)
        ≡ paired (entry_text_number (first_word_before_blank (b ∷ text)) >>=
        (λ v. entry_text_number (first_word_before_blank rest) >>= (λ w. Some (v, w))))
        (point_pairs_of_words (words_between_blanks (after_word_and_blanks rest)))
    behind [] begun =
        ap (λ ws. point_pairs_of_words (first_word_before_blank (b ∷ text) ∷ ws)) point_pair_words-nil
        ∙ none (entry_text_number (first_word_before_blank (b ∷ text))) (entry_text_number (first_word_before_blank []))
        (point_pairs_of_words (words_between_blanks (after_word_and_blanks []))) point_pair_number-nil
    behind (d ∷ rest) begun =
        ap (λ ws. point_pairs_of_words (first_word_before_blank (b ∷ text) ∷ ws))
        (words_between_blanks-first d rest begun)
        ∙ some (entry_text_number (first_word_before_blank (b ∷ text)))
        (entry_text_number (first_word_before_blank (d ∷ rest)))
        (point_pairs_of_words (words_between_blanks (after_word_and_blanks (d ∷ rest))))

-- the pairs after some points
abbrev pub onto : List Point → Option (List Point) → Option (List Point)
onto front given = option_map (λ pairs. front ++ pairs) given

-- a pair comes after the points in front of it
point_pair-joined : (front new : List Point) (pair : Point) (given : Option (List Point)) → new ≡ front ++ pair ∷ []
    → onto new given ≡ onto front (paired (Some pair) given)
point_pair-joined front new pair None made = refl
point_pair-joined front new pair (Some pairs) made =
    ap Some (ap (λ t. t ++ pairs) made ∙ append_assoc front (pair ∷ []) pairs)

-- one more pair is read
pub point_pairs-more : (front new : List Point) (text word behind word' behind' : List ℕ) (x y : Fraction)
    → begins_without_blank text ≡ true
    → (length text == 0) ≡ false
    → word ≡ first_word_before_blank text → behind ≡ after_word_and_blanks text → entry_text_number word ≡ Some x
    → word' ≡ first_word_before_blank behind → behind' ≡ after_word_and_blanks behind → entry_text_number word' ≡ Some y
    → new ≡ front ++ (x, y) ∷ [] → onto new (point_pairs_of_words (words_between_blanks behind')) ≡ onto front
    (point_pairs_of_words (words_between_blanks text))
point_pairs-more front new [] word behind word' behind' x y begun some is from value is' from' value' made = cc
point_pairs-more front new (b ∷ text) word behind word' behind' x y begun some is from value is' from' value' made =
    let first : entry_text_number (first_word_before_blank (b ∷ text)) ≡ Some x = ap entry_text_number (sym is)
    ∙ value in
    let second : entry_text_number (first_word_before_blank (after_word_and_blanks (b ∷ text))) ≡ Some y =
    ap (λ t. entry_text_number (first_word_before_blank t)) (sym from) ∙ ap entry_text_number (sym is') ∙ value' in
    let pair : front_pair (b ∷ text) ≡ Some (x, y) = λ i. first i >>= (λ v. second i >>= (λ w. Some (v, w))) in
    point_pair-joined front new (x, y) (point_pairs_of_words (words_between_blanks behind')) made
    ∙ ap (λ t. onto front (paired (Some (x, y)) (point_pairs_of_words (words_between_blanks t))))
    (from' ∙ ap after_word_and_blanks from)
    ∙ ap (λ p. onto front
    (paired p (point_pairs_of_words (words_between_blanks (after_word_and_blanks (after_word_and_blanks (b ∷ text)))))))
    (sym pair)
    ∙ ap (onto front) (sym (point_pairs-step b text begun))

-- a text that does not start with a number has no pairs
pub point_pairs-no_first : (front : List Point) (text word : List ℕ) → begins_without_blank text ≡ true
    → (length text == 0) ≡ false
    → word ≡ first_word_before_blank text
    → entry_text_number word ≡ None
    → onto front (point_pairs_of_words (words_between_blanks text)) ≡ None
point_pairs-no_first front [] word begun some is none = cc
point_pairs-no_first front (b ∷ text) word begun some is none =
    ap (onto front) (point_pairs-step b text begun)
    ∙ ap (λ x. onto front
    (paired (x >>= (λ v. entry_text_number (first_word_before_blank (after_word_and_blanks (b ∷ text))) >>=
    (λ w. Some (v, w))))
    (point_pairs_of_words (words_between_blanks (after_word_and_blanks (after_word_and_blanks (b ∷ text)))))))
    (ap entry_text_number (sym is) ∙ none)

-- a text without a second number has no pairs
pub point_pairs-no_second : (front : List Point) (text behind word' : List ℕ) → begins_without_blank text ≡ true
    → (length text == 0) ≡ false
    → behind ≡ after_word_and_blanks text → word' ≡ first_word_before_blank behind
    → entry_text_number word' ≡ None → onto front (point_pairs_of_words (words_between_blanks text)) ≡ None
point_pairs-no_second front [] behind word' begun some from is' none = cc
point_pairs-no_second front (b ∷ text) behind word' begun some from is' none =
    ap (onto front) (point_pairs-step b text begun)
    ∙ ap (λ y. onto front
    (paired (entry_text_number (first_word_before_blank (b ∷ text)) >>= (λ v. y >>= (λ w. Some (v, w))))
    (point_pairs_of_words (words_between_blanks (after_word_and_blanks (after_word_and_blanks (b ∷ text)))))))
    (ap (λ t. entry_text_number (first_word_before_blank t)) (sym from) ∙ ap entry_text_number (sym is') ∙ none)
    ∙ lost (entry_text_number (first_word_before_blank (b ∷ text)))
  where
    lost : (x : Option Fraction)
        → onto front (paired (x >>= (λ v. nothing >>= (λ w. Some (v, w))))
        (point_pairs_of_words (words_between_blanks (after_word_and_blanks (after_word_and_blanks (b ∷ text)))))) ≡ None
    lost None = refl
    lost (Some v) = refl

-- the rest of the text becomes shorter
pub point_pair-shorter-rest : (text behind behind' : List ℕ) → begins_without_blank text ≡ true
    → (length text == 0) ≡ false
    → behind ≡ after_word_and_blanks text
    → behind' ≡ after_word_and_blanks behind → length behind' < length text
point_pair-shorter-rest [] behind behind' begun some from from' = cc
point_pair-shorter-rest (b ∷ text) behind behind' begun some from from' =
    omega (
      arith,
      ap length from,
      ap length from',
      length-after_word_and_blanks behind,
      shorter-after_word_and_blanks b
          text begun,
    )

-- an empty text has no pairs
pub point_pairs-nil : (front : List Point) (text : List ℕ) → (length text == 0) ≡ true
    → onto front (point_pairs_of_words (words_between_blanks text)) ≡ Some front
point_pairs-nil front text none =
    ap (λ t. onto front (point_pairs_of_words (words_between_blanks t)))
    (nil_from_length text (eqb-true (length text) 0 none))
    ∙ ap (λ ws. onto front (point_pairs_of_words ws)) point_pair_words-nil ∙ ap Some (append-nil front)

-- blanks contain no words
point_pair_words-blanks : (text rest : List ℕ) → rest ≡ after_blanks text → (length rest == 0) ≡ true
    → words_between_blanks text ≡ []
point_pair_words-blanks text rest is none = sym (words_between_blanks-after_blanks text)
    ∙ ap words_between_blanks (sym is ∙ nil_from_length rest (eqb-true (length rest) 0 none))
    ∙ point_pair_words-nil

-- blanks do not contain the pair that is needed
pub some_point_pairs-none : (front : List Point) (text rest : List ℕ) → rest ≡ after_blanks text
    → (length rest == 0) ≡ true
    → onto front (some_point_pairs (words_between_blanks text)) ≡ None
some_point_pairs-none front text rest is none = ap (λ ws. onto front (some_point_pairs ws))
    (point_pair_words-blanks text rest is none)

-- a text that is not blank needs no further test for a pair
pub some_point_pairs-some : (text rest : List ℕ) → rest ≡ after_blanks text → (length rest == 0) ≡ false
    → some_point_pairs (words_between_blanks text) ≡ point_pairs_of_words (words_between_blanks text)
some_point_pairs-some text [] is some = cc
some_point_pairs-some text (b ∷ rest) is some =
    let words : words_between_blanks text ≡ first_word_before_blank (b ∷ rest) ∷ words_between_blanks
    (after_word_and_blanks (b ∷ rest)) =
    sym (words_between_blanks-after_blanks text) ∙ ap words_between_blanks (sym is)
    ∙ words_between_blanks-first b rest (ap begins_without_blank is ∙ begins_without_blank-after_blanks text) in
    ap some_point_pairs words ∙ sym (ap point_pairs_of_words words)

-- few points, and too many

-- points up to the maximum number are accepted
pub few_point_pairs-at : (points : List Point) → length points ≤ most_point_pairs
    → within_point_pair_limit (Some points) ≡ Some points
few_point_pairs-at points less = ap (λ t. cond t (Some points) None) (le-leb (length points) most_point_pairs less)

-- more points than the maximum number are rejected
pub few_point_pairs-none : (points : List Point) → most_point_pairs < length points
    → within_point_pair_limit (Some points) ≡ None
few_point_pairs-none points more = go (nat_le (length points) most_point_pairs) refl
  where
    go : (t : Bool) → nat_le (length points) most_point_pairs ≡ t → cond t (Some points) None ≡ None
    go true e = let less : length points ≤ most_point_pairs = leb-true (length points) most_point_pairs e in
        absurd (omega arith)
    go false e = refl

-- points that are found and are few
pub record Few (found : Option (List Point)) (points : List Point) : Type 0 where
  pub is : found ≡ Some points
  pub within : length points ≤ most_point_pairs

-- points that are accepted were found and are few
pub few_point_pairs-is : (found : Option (List Point)) (points : List Point)
    → or_entry_fault BadTable (within_point_pair_limit found) ≡ Ok
    points
    → Few found points
few_point_pairs-is None points e = cc
few_point_pairs-is (Some some) points e = go (nat_le (length some) most_point_pairs) refl e
  where
    go : (t : Bool) → nat_le (length some) most_point_pairs ≡ t → or_entry_fault BadTable (cond t (Some some) None) ≡ Ok
        points
        → Few (Some some) points
    go true f e =
        let same : some ≡ points = cc in
        record {
          is = ap Some same;
          within =
              subst (λ ps. length ps ≤ most_point_pairs) same (leb-true (length some) most_point_pairs f);
        }
    go false f e = cc

-- a further pair is one too many
pub point_pairs-many : (front : List Point) (text : List ℕ) → begins_without_blank text ≡ true
    → (length text == 0) ≡ false
    → most_point_pairs ≤ length front
    → within_point_pair_limit (onto front (point_pairs_of_words (words_between_blanks text))) ≡ None
point_pairs-many front [] begun some more = cc
point_pairs-many front (b ∷ text) begun some more =
    ap (λ found. within_point_pair_limit (onto front found)) (point_pairs-step b text begun)
    ∙ go (front_pair (b ∷ text))
    (point_pairs_of_words (words_between_blanks (after_word_and_blanks (after_word_and_blanks (b ∷ text)))))
  where
    go : (pair : Option Point) (points : Option (List Point))
        → within_point_pair_limit (onto front (paired pair points)) ≡ None
    go None points = refl
    go (Some p) None = refl
    go (Some p) (Some points) = few_point_pairs-none (front ++ (p ∷ points))
        (omega (arith, length-append front (p ∷ points)))
