-- The longest numeral and the word at the front of a text that is followed by `)`.
use Rattle.std.proofs.Common.{◌≡◌, ◌<◌, ◌≤◌, ◌+◌, ℕ, zero, suc, Bool, true, false, cond, List, [], ◌∷◌, ◌++◌, length}
use Rattle.std.proofs.Common.{take, drop, refl, sym, ap, ◌∙◌, arith, inl, inr}
use Rattle.std.specs.Prelude.{◌==◌, ◌&&◌, if◌then◌else◌, not}
use Rattle.std.specs.List.{list_all, list_any, prefix_len}
use Rattle.std.proofs.lemmas.Bool.{cases_lt, and_from, and_parts}
use Rattle.std.proofs.lemmas.Bool.Decides.{nat_tests}
use Rattle.frac128.specs.Numerals.{after_numeral_sign, greatest_whole_passing, is_numeral_digit}
use Rattle.frac128.specs.Numerals.{is_numeral_exponent_part, is_numeral_mantissa, prefix_until, suffix_from, is_numeral}
use Rattle.frac128.specs.Numerals.{is_numeral_exponent_mark, is_numeral_point, is_numeral_sign, is_pointed_numeral}
use Rattle.frac128.specs.Numerals.{longest_numeral_len}
use Rattle.expr_tree.specs.Lexemes.{has_paren}
use Rattle.expr_tree.specs.Names.{is_word_byte}

-- ---- a numeral contains no `)`

-- no byte of a numeral is a `)`
is_no_cell_close : ℕ → Bool
is_no_cell_close b = not (b == 41)

cell_digit_is_no_close : (b : ℕ) → is_numeral_digit b ≡ true → is_no_cell_close b ≡ true
unfolding is_no_cell_close
cell_digit_is_no_close b h = grind (arith, nat_tests)

cell_point_is_no_close : (b : ℕ) → is_numeral_point b ≡ true → is_no_cell_close b ≡ true
unfolding is_no_cell_close
cell_point_is_no_close b h = grind (arith, nat_tests)

cell_mark_is_no_close : (b : ℕ) → is_numeral_exponent_mark b ≡ true → is_no_cell_close b ≡ true
unfolding is_no_cell_close
cell_mark_is_no_close b h = grind (arith, nat_tests)

cell_sign_is_no_close : (b : ℕ) → is_numeral_sign b ≡ true → is_no_cell_close b ≡ true
unfolding is_no_cell_close
cell_sign_is_no_close b h = grind (arith, nat_tests)

cell_digits_have_no_close : (xs : List ℕ) → list_all is_numeral_digit xs ≡ true → list_all is_no_cell_close xs ≡ true
cell_digits_have_no_close [] h = refl
cell_digits_have_no_close (x ∷ xs) h =
    let p = and_parts (is_numeral_digit x) (list_all is_numeral_digit xs) h in
    and_from (is_no_cell_close x) (list_all is_no_cell_close xs) (cell_digit_is_no_close x p.0)
    (cell_digits_have_no_close xs p.1)

-- one step of `cell_text_parts_have_no_close`: if both parts of a text contain no `)`, the text contains none
cell_text_parts_step : (t : Bool) (x : ℕ) (xs before_xs from_xs : List ℕ)
    → (list_all is_no_cell_close before_xs ≡ true → list_all is_no_cell_close from_xs ≡ true
    → list_all is_no_cell_close xs ≡ true)
    → list_all is_no_cell_close (if t then [] else x ∷ before_xs) ≡ true
    → list_all is_no_cell_close (if t then x ∷ xs else from_xs) ≡ true → list_all is_no_cell_close (x ∷ xs) ≡ true
cell_text_parts_step true x xs before_xs from_xs rest a b = b
cell_text_parts_step false x xs before_xs from_xs rest a b =
    let p = and_parts (is_no_cell_close x) (list_all is_no_cell_close before_xs) a in
    and_from (is_no_cell_close x) (list_all is_no_cell_close xs) p.0 (rest p.1 b)

cell_text_parts_have_no_close : (test : ℕ → Bool) (xs : List ℕ)
    → list_all is_no_cell_close (prefix_until test xs) ≡ true
    → list_all is_no_cell_close (suffix_from test xs) ≡ true
    → list_all is_no_cell_close xs ≡ true
cell_text_parts_have_no_close test [] a b = refl
cell_text_parts_have_no_close test (x ∷ xs) a b = cell_text_parts_step (test x) x xs (prefix_until test xs)
    (suffix_from test xs)
    (cell_text_parts_have_no_close test xs) a b

cell_suffix_step : (t : Bool) (x : ℕ) (xs from_xs : List ℕ) → (t ≡ true → is_no_cell_close x ≡ true)
    → (list_all is_no_cell_close (drop 1 from_xs) ≡ true → list_all is_no_cell_close from_xs ≡ true)
    → list_all is_no_cell_close (drop 1 (if t then x ∷ xs else from_xs)) ≡ true
    → list_all is_no_cell_close (if t then x ∷ xs else from_xs) ≡ true
cell_suffix_step true x xs from_xs h rest k = and_from (is_no_cell_close x) (list_all is_no_cell_close xs) (h refl) k
cell_suffix_step false x xs from_xs h rest k = rest k

cell_suffix_has_no_close : (test : ℕ → Bool) → ((b : ℕ) → test b ≡ true → is_no_cell_close b ≡ true) → (xs : List ℕ)
    → list_all is_no_cell_close (drop 1 (suffix_from test xs)) ≡ true
    → list_all is_no_cell_close (suffix_from test xs) ≡ true
cell_suffix_has_no_close test h [] k = refl
cell_suffix_has_no_close test h (x ∷ xs) k = cell_suffix_step (test x) x xs (suffix_from test xs) (h x)
    (cell_suffix_has_no_close test h xs) k

pointed_cell_text_has_no_close : (xs : List ℕ) → is_pointed_numeral xs ≡ true → list_all is_no_cell_close xs ≡ true
pointed_cell_text_has_no_close xs h =
    let p = and_parts (list_all is_numeral_digit (prefix_until is_numeral_point xs))
    (list_all is_numeral_digit (drop 1 (suffix_from is_numeral_point xs))) h in
    cell_text_parts_have_no_close is_numeral_point xs (cell_digits_have_no_close (prefix_until is_numeral_point xs) p.0)
    (cell_suffix_has_no_close is_numeral_point cell_point_is_no_close xs
    (cell_digits_have_no_close (drop 1 (suffix_from is_numeral_point xs)) p.1))

signed_cell_text_has_no_close : (xs : List ℕ) → list_all is_no_cell_close (after_numeral_sign xs) ≡ true
    → list_all is_no_cell_close xs ≡ true
signed_cell_text_has_no_close [] h = refl
signed_cell_text_has_no_close (x ∷ xs) h = by (is_numeral_sign x) refl h
  where
    by : (t : Bool) → is_numeral_sign x ≡ t → list_all is_no_cell_close (if t then xs else x ∷ xs) ≡ true
        → list_all is_no_cell_close (x ∷ xs) ≡ true
    by true e k = and_from (is_no_cell_close x) (list_all is_no_cell_close xs) (cell_sign_is_no_close x e) k
    by false e k = k

cell_exponent_has_no_close : (xs : List ℕ) → is_numeral_exponent_part xs ≡ true
    → list_all is_no_cell_close (drop 1 xs) ≡ true
cell_exponent_has_no_close [] h = refl
cell_exponent_has_no_close (x ∷ xs) h =
    signed_cell_text_has_no_close xs
    (cell_digits_have_no_close (after_numeral_sign xs)
    (and_parts (list_any is_numeral_digit (after_numeral_sign xs)) (list_all is_numeral_digit (after_numeral_sign xs))
    h).1)

cell_numeral_has_no_close : (xs : List ℕ) → is_numeral xs ≡ true → list_all is_no_cell_close xs ≡ true
cell_numeral_has_no_close xs h =
    let p = and_parts (is_numeral_mantissa (prefix_until is_numeral_exponent_mark xs))
    (is_numeral_exponent_part (suffix_from is_numeral_exponent_mark xs)) h in
    let m = and_parts (list_any is_numeral_digit (prefix_until is_numeral_exponent_mark xs))
    (is_pointed_numeral (prefix_until is_numeral_exponent_mark xs)) p.0
    in
    cell_text_parts_have_no_close is_numeral_exponent_mark xs
    (pointed_cell_text_has_no_close (prefix_until is_numeral_exponent_mark xs) m.1)
    (cell_suffix_has_no_close is_numeral_exponent_mark cell_mark_is_no_close xs
    (cell_exponent_has_no_close (suffix_from is_numeral_exponent_mark xs) p.1))

long_cell_text_front_has_close : (n : ℕ) (xs r : List ℕ) → length xs < n
    → list_all is_no_cell_close (take n (xs ++ 41 ∷ r)) ≡ false
unfolding is_no_cell_close
long_cell_text_front_has_close zero xs r h = absurd (omega arith)
long_cell_text_front_has_close (suc n) [] r h = refl
long_cell_text_front_has_close (suc n) (x ∷ xs) r h = ap (λ b. is_no_cell_close x && b)
    (long_cell_text_front_has_close n xs r (omega arith)) ∙ and_false (is_no_cell_close x)
  where
    and_false : (b : Bool) → (b && false) ≡ false
    and_false true = refl
    and_false false = refl

-- ---- the longest numeral
cell_numeral_ends_before_close : (n : ℕ) (xs r : List ℕ) → length xs < n → is_numeral (take n (xs ++ 41 ∷ r)) ≡ false
cell_numeral_ends_before_close n xs r h = by (is_numeral (take n (xs ++ 41 ∷ r))) refl
  where
    by : (b : Bool) → is_numeral (take n (xs ++ 41 ∷ r)) ≡ b → b ≡ false
    by false e = refl
    by true e =
        let no : list_all is_no_cell_close (take n (xs ++ 41 ∷ r)) ≡ false = long_cell_text_front_has_close n xs r h in
        let yes : list_all is_no_cell_close (take n (xs ++ 41 ∷ r)) ≡ true = cell_numeral_has_no_close
        (take n (xs ++ 41 ∷ r)) e in
        cc

greatest_cell_length_stays : (test : ℕ → Bool) (i n : ℕ) → i ≤ n → ((m : ℕ) → i < m → m ≤ n → test m ≡ false)
    → greatest_whole_passing test n ≡ greatest_whole_passing test i
unfolding greatest_whole_passing
greatest_cell_length_stays test i zero h none = let same : zero ≡ i = omega arith in
    ap (greatest_whole_passing test) same
greatest_cell_length_stays test i (suc n) h none = elim (cases_lt i (suc n)) [
  | inl low ↦ ap (λ b. if b then suc n else greatest_whole_passing test n) (none (suc n) low (omega arith))
      ∙ greatest_cell_length_stays test i n (omega arith) (λ m p q. none m p (omega arith))
  | inr high ↦ (let same : suc n ≡ i = omega arith in ap (greatest_whole_passing test) same)
]

greatest_cell_length_alike : (f g : ℕ → Bool) (n : ℕ) → ((m : ℕ) → m ≤ n → f m ≡ g m)
    → greatest_whole_passing f n ≡ greatest_whole_passing g n
unfolding greatest_whole_passing
greatest_cell_length_alike f g zero h = refl
greatest_cell_length_alike f g (suc n) h =
    ap (λ b. if b then suc n else greatest_whole_passing f n) (h (suc n) (omega arith))
    ∙ ap (λ k. if g (suc n) then suc n else k) (greatest_cell_length_alike f g n (λ m p. h m (omega arith)))

cell_text_before_byte_is_shorter : (xs : List ℕ) (b : ℕ) (r : List ℕ) → length xs < length (xs ++ b ∷ r)
cell_text_before_byte_is_shorter [] b r = omega arith
cell_text_before_byte_is_shorter (x ∷ xs) b r = let h : length xs < length (xs ++ b ∷ r) =
    cell_text_before_byte_is_shorter xs b r in omega arith

pub cell_text_front_is_taken : (n : ℕ) (xs t : List ℕ) → n ≤ length xs → take n (xs ++ t) ≡ take n xs
cell_text_front_is_taken zero xs t h = refl
cell_text_front_is_taken (suc n) [] t h = absurd (omega arith)
cell_text_front_is_taken (suc n) (x ∷ xs) t h = ap (λ ys. x ∷ ys) (cell_text_front_is_taken n xs t (omega arith))

pub longest_cell_numeral_before_close : (xs r : List ℕ) → longest_numeral_len (xs ++ 41 ∷ r) ≡ longest_numeral_len xs
longest_cell_numeral_before_close xs r =
    let more : length xs < length (xs ++ 41 ∷ r) = cell_text_before_byte_is_shorter xs 41 r in
    greatest_cell_length_stays (λ n. is_numeral (take n (xs ++ 41 ∷ r))) (length xs) (length (xs ++ 41 ∷ r))
    (omega arith)
    (λ m p q. cell_numeral_ends_before_close m xs r p)
    ∙ greatest_cell_length_alike (λ n. is_numeral (take n (xs ++ 41 ∷ r))) (λ n. is_numeral (take n xs)) (length xs)
    (λ m p. ap is_numeral (cell_text_front_is_taken m xs (41 ∷ r) p))

-- ---- words
cell_paren_after_one_byte : (b : Bool) (n x : ℕ) (xs : List ℕ) → has_paren (drop (cond b (1 + n) 0) (x ∷ xs)) ≡ cond b
    (has_paren (drop n xs)) (x == 40)
cell_paren_after_one_byte true n x xs = let e : 1 + n ≡ suc n = omega arith in ap (λ k. has_paren (drop k (x ∷ xs))) e
cell_paren_after_one_byte false n x xs = refl

cell_word_after_one_byte : (b : Bool) (n x : ℕ) (xs : List ℕ) → take (cond b (1 + n) 0) (x ∷ xs) ≡ cond b
    (x ∷ take n xs) []
cell_word_after_one_byte true n x xs = let e : 1 + n ≡ suc n = omega arith in ap (λ k. take k (x ∷ xs)) e
cell_word_after_one_byte false n x xs = refl

pub cell_paren_before_close : (xs r : List ℕ) → has_paren (drop (prefix_len is_word_byte (xs ++ 41 ∷ r)) (xs ++ 41 ∷ r))
    ≡ has_paren (drop (prefix_len is_word_byte xs) xs)
cell_paren_before_close [] r = refl
cell_paren_before_close (x ∷ xs) r =
    cell_paren_after_one_byte (is_word_byte x) (prefix_len is_word_byte (xs ++ 41 ∷ r)) x (xs ++ 41 ∷ r)
    ∙ (ap (λ o. cond (is_word_byte x) o (x == 40)) (cell_paren_before_close xs r)
    ∙ sym (cell_paren_after_one_byte (is_word_byte x) (prefix_len is_word_byte xs) x xs))

pub cell_word_before_close : (xs r : List ℕ) → take (prefix_len is_word_byte (xs ++ 41 ∷ r)) (xs ++ 41 ∷ r)
    ≡ take (prefix_len is_word_byte xs) xs
cell_word_before_close [] r = refl
cell_word_before_close (x ∷ xs) r =
    cell_word_after_one_byte (is_word_byte x) (prefix_len is_word_byte (xs ++ 41 ∷ r)) x (xs ++ 41 ∷ r)
    ∙ (ap (λ ys. cond (is_word_byte x) (x ∷ ys) []) (cell_word_before_close xs r)
    ∙ sym (cell_word_after_one_byte (is_word_byte x) (prefix_len is_word_byte xs) x xs))
