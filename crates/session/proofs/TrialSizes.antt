-- The number of lines in the definitions of a trial.
use Rattle.std.proofs.Common.{◌≡◌, ◌==◌, ◌<◌, ◌+◌, ◌/◌, ◌%◌, ◌^◌, ◌++◌, ◌∷◌, [], ℕ, zero, suc, List, false, cond, map}
use Rattle.std.proofs.Common.{codes, refl, ap, ◌∙◌, arith}
use Rattle.std.proofs.lemmas.Bool.Decides.{nat_tests}
use Rattle.std.proofs.lemmas.Fmt.{decimal-digits_of}
use Rattle.std.proofs.lemmas.List.Sums.{sum_by-append, sum_by-cons}
use Rattle.std.specs.Fmt.{decimal, digits}
use Rattle.std.specs.Int.Digits.{digits_of}
use Rattle.session.specs.TextDecks.{line_feeds_of_deck_text}
use Rattle.session.specs.TrialLines.{trial_definitions, trial_multiple_line, trial_unit_name}

trial-line-feeds-append : (xs ys : List ℕ) → line_feeds_of_deck_text (xs ++ ys) ≡ line_feeds_of_deck_text xs
    + line_feeds_of_deck_text ys
trial-line-feeds-append xs ys = sum_by-append (λ (b : ℕ). cond (b == 10) 1 0) xs ys

-- no digit is a line feed
trial_digits_have_no_feed : (ds : List ℕ) → line_feeds_of_deck_text (map (λ d. 48 + d) ds) ≡ 0
trial_digits_have_no_feed [] = refl
trial_digits_have_no_feed (d ∷ ds) =
    let rest : line_feeds_of_deck_text (map (λ d. 48 + d) ds) ≡ 0 = trial_digits_have_no_feed ds in
    let more : line_feeds_of_deck_text (map (λ d. 48 + d) (d ∷ ds))
    ≡ cond (48 + d == 10) 1 0 + line_feeds_of_deck_text (map (λ d. 48 + d) ds) =
    sum_by-cons (λ (b : ℕ). cond (b == 10) 1 0) (48 + d) (map (λ d. 48 + d) ds) in
    let no : (48 + d == 10) ≡ false = grind (arith, nat_tests) in
    omega (arith, rest, more, ap (λ t. cond {A = ℕ} t 1 0) no)

trial_decimal_has_no_feed : (n : ℕ) → n < 2 ^ 64 → line_feeds_of_deck_text (decimal n) ≡ 0
unfolding digits
trial_decimal_has_no_feed zero h = refl
trial_decimal_has_no_feed (suc n) h =
    ap (λ text. line_feeds_of_deck_text text) (decimal-digits_of (suc n) (omega arith) h)
    ∙ trial_digits_have_no_feed (digits_of 10 (suc n))

trial_unit_name_has_no_feed : (n : ℕ) → n < 2 ^ 64 → line_feeds_of_deck_text (trial_unit_name n) ≡ 0
trial_unit_name_has_no_feed n h =
    omega (arith, trial-line-feeds-append (codes "u_") (decimal n), trial_decimal_has_no_feed n h)

trial_multiple_line_has_one_feed : (i factor j : ℕ) → i < 2 ^ 64 → factor < 2 ^ 64 → j < 2 ^ 64
    → line_feeds_of_deck_text (trial_multiple_line i factor j) ≡ 1
trial_multiple_line_has_one_feed i factor j h k l =
    let name = trial_unit_name i ++ codes " " in
    let number = decimal factor ++ codes " " in
    let end = trial_unit_name j ++ codes "\n" in
    omega (
      arith,
      trial-line-feeds-append (name ++ number) end,
      trial-line-feeds-append name number,
      trial-line-feeds-append (trial_unit_name i) (codes " "),
      trial-line-feeds-append (decimal factor) (codes " "),
      trial-line-feeds-append (trial_unit_name j) (codes "\n"),
      trial_unit_name_has_no_feed i h,
      trial_decimal_has_no_feed factor k,
      trial_unit_name_has_no_feed j l,
    )

-- there is one line for each unit
pub trial_definitions_feed_count : (n : ℕ) → n < 2 ^ 63 → line_feeds_of_deck_text (trial_definitions n) ≡ n + 1
trial_definitions_feed_count zero h = refl
trial_definitions_feed_count (suc n) h =
    omega (
      arith,
      trial-line-feeds-append (trial_definitions n) (trial_multiple_line (suc n) (1 + suc n % 3) (suc n / 2)),
      trial_definitions_feed_count n
          (omega arith),
      trial_multiple_line_has_one_feed (suc n) (1 + suc n % 3) (suc n / 2) (omega arith) (omega arith) (omega arith),
    )
