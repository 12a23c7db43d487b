-- Numerals contain no line feed, carriage return or `#`.
use Rattle.std.proofs.Common.{◌≡◌, ◌<◌, ◌∷◌, [], ℕ, List, Bool, true, false, cond, drop, take, refl}
use Rattle.std.specs.List.{list_all, list_any}
use Rattle.std.proofs.lemmas.Bool.{and_from, and_parts}
use Rattle.frac128.specs.Numerals.{after_numeral_sign, is_numeral_digit, is_numeral_exponent_mark}
use Rattle.frac128.specs.Numerals.{is_numeral_exponent_part, is_numeral_mantissa, prefix_until, suffix_from, is_numeral}
use Rattle.frac128.specs.Numerals.{is_numeral_point, is_numeral_sign, is_pointed_numeral, longest_numeral_len}
use Rattle.frac128.proofs.LongestNumerals.{longest-numeral}
use Rattle.deck_save.specs.SavedLines.{is_saved_line_byte}
use Rattle.deck_save.proofs.PlainBytes.{saved_byte_stays_by_test, saved_bytes_stay_by_test}

saved_digits_stay : (text : List ℕ) → list_all is_numeral_digit text ≡ true → list_all is_saved_line_byte text ≡ true
saved_digits_stay = saved_bytes_stay_by_test is_numeral_digit refl refl refl

-- a text stays if the parts before and after the first byte that passes stay
saved_parted_text_stays : (test : ℕ → Bool) → ((b : ℕ) → test b ≡ true → is_saved_line_byte b ≡ true) → (text : List ℕ)
    → list_all is_saved_line_byte (prefix_until test text) ≡ true
    → list_all is_saved_line_byte (drop 1 (suffix_from test text)) ≡ true
    → list_all is_saved_line_byte text ≡ true
saved_parted_text_stays test passes [] front behind = refl
saved_parted_text_stays test passes (b ∷ text) front behind = go (saved_parted_text_stays test passes text)
    (test b) refl front behind
  where
    go : (list_all is_saved_line_byte (prefix_until test text) ≡ true
        → list_all is_saved_line_byte (drop 1 (suffix_from test text)) ≡ true
        → list_all is_saved_line_byte text ≡ true)
        → (t : Bool) → test b ≡ t → list_all is_saved_line_byte (cond t [] (b ∷ prefix_until test text)) ≡ true
        → list_all is_saved_line_byte (drop 1 (cond t (b ∷ text) (suffix_from test text))) ≡ true
        → list_all is_saved_line_byte (b ∷ text) ≡ true
    go rest true e front behind = and_from _ _ (passes b e) behind
    go rest false e front behind =
        let parts : (is_saved_line_byte b ≡ true) × (list_all is_saved_line_byte (prefix_until test text) ≡ true) =
        and_parts _ _ front in
        and_from _ _ parts.0 (rest parts.1 behind)

saved_mantissa_stays : (text : List ℕ) → is_numeral_mantissa text ≡ true → list_all is_saved_line_byte text ≡ true
saved_mantissa_stays text is =
    let pointed : (list_any is_numeral_digit text ≡ true) × (is_pointed_numeral text ≡ true) = and_parts _ _ is in
    let parts : (list_all is_numeral_digit (prefix_until is_numeral_point text) ≡ true)
    × (list_all is_numeral_digit (drop 1 (suffix_from is_numeral_point text)) ≡ true) = and_parts _ _ pointed.1 in
    saved_parted_text_stays is_numeral_point (saved_byte_stays_by_test is_numeral_point refl refl refl) text
    (saved_digits_stay (prefix_until is_numeral_point text) parts.0)
    (saved_digits_stay (drop 1 (suffix_from is_numeral_point text)) parts.1)

saved_signed_digits_stay : (text : List ℕ) → list_all is_numeral_digit (after_numeral_sign text) ≡ true
    → list_all is_saved_line_byte text ≡ true
saved_signed_digits_stay [] digits = refl
saved_signed_digits_stay (b ∷ text) digits = go (is_numeral_sign b) refl digits
  where
    go : (t : Bool) → is_numeral_sign b ≡ t → list_all is_numeral_digit (cond t text (b ∷ text)) ≡ true
        → list_all is_saved_line_byte (b ∷ text) ≡ true
    go true e digits = and_from _ _ (saved_byte_stays_by_test is_numeral_sign refl refl refl b e)
        (saved_digits_stay text digits)
    go false e digits = saved_digits_stay (b ∷ text) digits

saved_exponent_stays : (text : List ℕ) → is_numeral_exponent_part text ≡ true
    → list_all is_saved_line_byte (drop 1 text) ≡ true
saved_exponent_stays [] is = refl
saved_exponent_stays (b ∷ text) is = saved_signed_digits_stay text (and_parts _ _ is).1

pub saved_numeral_stays : (text : List ℕ) → is_numeral text ≡ true → list_all is_saved_line_byte text ≡ true
saved_numeral_stays text is =
    let parts : (is_numeral_mantissa (prefix_until is_numeral_exponent_mark text) ≡ true)
    × (is_numeral_exponent_part (suffix_from is_numeral_exponent_mark text) ≡ true) =
    and_parts _ _ is in
    saved_parted_text_stays is_numeral_exponent_mark (saved_byte_stays_by_test is_numeral_exponent_mark refl refl refl)
    text
    (saved_mantissa_stays (prefix_until is_numeral_exponent_mark text) parts.0)
    (saved_exponent_stays (suffix_from is_numeral_exponent_mark text) parts.1)

-- the longest numeral at the front of a text stays
pub saved_longest_numeral_stays : (text : List ℕ) → 0 < longest_numeral_len text
    → list_all is_saved_line_byte (take (longest_numeral_len text) text) ≡ true
saved_longest_numeral_stays text some = saved_numeral_stays (take (longest_numeral_len text) text)
    (longest-numeral text some)
