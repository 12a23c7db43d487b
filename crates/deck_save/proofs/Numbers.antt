-- Numbers of intervals and of tables contain no line feed, carriage return or `#`.
use Rattle.std.proofs.Common.{◌≡◌, ◌==◌, ◌++◌, ◌∷◌, [], ℕ, List, Bool, true, false, cond, Option, Some, None}
use Rattle.std.proofs.Common.{option_map, Ok, Err, refl, ap, ◌∙◌}
use Rattle.std.specs.List.{list_all}
use Rattle.std.specs.Option.{is_some}
use Rattle.std.specs.Result.{result_ok}
use Rattle.std.proofs.lemmas.Bool.{and_from, eqb-true}
use Rattle.frac128.specs.declared.numeral.NumeralFault.TheVariants.{NotNumeral, TooLong}
use Rattle.frac128.specs.Decimals.{decimal_of_numeral, is_short_numeral, numeral_exponent, numeral_exponent_part}
use Rattle.frac128.specs.Decimals.{numeral_mantissa}
use Rattle.frac128.specs.Fraction.{Fraction, opposite_fraction}
use Rattle.frac128.specs.Numerals.{is_numeral}
use Rattle.frac128.specs.Steps.{fraction_quotient}
use Rattle.def_entry.specs.declared.entry.Bound.{Bound}
use Rattle.def_entry.specs.Cuts.{cut_at, entry_text_lacks}
use Rattle.def_entry.specs.Intervals.{bound_in, option_bound}
use Rattle.def_entry.specs.Numbers.{entry_text_number, numeral_value, parted_entry_number, quotient_value}
use Rattle.def_entry.specs.Numbers.{unsigned_value, entry_number_read}
use Rattle.def_entry.specs.Steps.{◌>>=◌}
use Rattle.def_entry.proofs.CutTexts.{entry_cut-is}
use Rattle.def_entry.proofs.WrittenIntervals.{option_bind_some}
use Rattle.deck_save.specs.SavedLines.{is_saved_line_byte}
use Rattle.deck_save.proofs.PlainBytes.{saved_bytes_all_both}
use Rattle.deck_save.proofs.Numerals.{saved_numeral_stays}
use Rattle.general_lemmas.proofs.Options.{mapped_some}

saved_numeral_value_stays : (text : List ℕ) (x : Fraction) → numeral_value text ≡ Some x
    → list_all is_saved_line_byte text ≡ true
saved_numeral_value_stays text x is = saved_numeral_stays text (go (is_numeral text) refl is)
  where
    go : (t : Bool) → is_numeral text ≡ t
        → entry_number_read (cond t (cond (is_short_numeral text)
        (Ok (decimal_of_numeral (numeral_mantissa text) (numeral_exponent (numeral_exponent_part text))))
        (Err TooLong)) (Err NotNumeral)) ≡ Some x
        → is_numeral text ≡ true
    go true e is = e
    go false e is = cc

saved_quotient_stays : (above below : List ℕ) (x : Fraction) → quotient_value above below ≡ Some x
    → list_all is_saved_line_byte (above ++ (124 ∷ below)) ≡ true
saved_quotient_stays above below x is =
    let top : (a : Fraction) × (numeral_value above ≡ Some a)
    × ((numeral_value below >>= (λ b. result_ok (fraction_quotient a b))) ≡ Some x) =
    option_bind_some (numeral_value above) (λ a. numeral_value below >>= (λ b. result_ok (fraction_quotient a b))) x is
    in
    let bottom : (b : Fraction) × (numeral_value below ≡ Some b) × (result_ok (fraction_quotient top.0 b) ≡ Some x) =
    option_bind_some (numeral_value below) (λ b. result_ok (fraction_quotient top.0 b)) x top.2 in
    saved_bytes_all_both is_saved_line_byte above (124 ∷ below) (saved_numeral_value_stays above top.0 top.1)
    (saved_numeral_value_stays below bottom.0 bottom.1)

saved_unsigned_number_stays : (text : List ℕ) (x : Fraction) → unsigned_value text ≡ Some x
    → list_all is_saved_line_byte text ≡ true
saved_unsigned_number_stays text x is = go (cut_at 124 text) refl is
  where
    go : (found : Option (List ℕ × List ℕ)) → cut_at 124 text ≡ found → parted_entry_number found text ≡ Some x
        → list_all is_saved_line_byte text ≡ true
    go None e is = saved_numeral_value_stays text x is
    go (Some parts) e is =
        let whole : (text ≡ parts.0 ++ (124 ∷ parts.1)) × (entry_text_lacks 124 parts.0 ≡ true) =
        entry_cut-is 124 text parts.0 parts.1 e in
        ap (list_all is_saved_line_byte) whole.0 ∙ saved_quotient_stays parts.0 parts.1 x is

pub saved_number_stays : (text : List ℕ) (x : Fraction) → entry_text_number text ≡ Some x
    → list_all is_saved_line_byte text ≡ true
unfolding entry_text_number
saved_number_stays [] x is = refl
saved_number_stays (b ∷ text) x is = go (b == 45) refl (b == 43) refl is
  where
    go : (s : Bool) → (b == 45) ≡ s → (t : Bool) → (b == 43) ≡ t
        → cond s (option_map opposite_fraction (unsigned_value text))
        (cond t (unsigned_value text) (unsigned_value (b ∷ text)))
        ≡ Some x
        → list_all is_saved_line_byte (b ∷ text) ≡ true
    go true e t f is =
        let value : (y : Fraction) × (unsigned_value text ≡ Some y) × (opposite_fraction y ≡ x) =
        mapped_some opposite_fraction (unsigned_value text) x is in
        and_from (is_saved_line_byte b) (list_all is_saved_line_byte text) (ap is_saved_line_byte (eqb-true b 45 e))
        (saved_unsigned_number_stays text value.0 value.1)
    go false e true f is = and_from (is_saved_line_byte b) (list_all is_saved_line_byte text)
        (ap is_saved_line_byte (eqb-true b 43 f))
        (saved_unsigned_number_stays text x is)
    go false e false f is = saved_unsigned_number_stays (b ∷ text) x is

pub saved_some_number_stays : (text : List ℕ) → is_some (entry_text_number text) ≡ true
    → list_all is_saved_line_byte text ≡ true
saved_some_number_stays text some = go (entry_text_number text) refl some
  where
    go : (found : Option Fraction) → entry_text_number text ≡ found → is_some found ≡ true
        → list_all is_saved_line_byte text ≡ true
    go None e some = cc
    go (Some x) e some = saved_number_stays text x e

-- the text of a bound stays
pub saved_bound_stays : (closed : Bool) (text : List ℕ) (found : Option Bound) → bound_in closed text ≡ Some found
    → list_all is_saved_line_byte text ≡ true
saved_bound_stays closed [] found is = refl
saved_bound_stays closed (b ∷ text) found is =
    let at : (x : Fraction) × (entry_text_number (b ∷ text) ≡ Some x) × (Some (option_bound closed x) ≡ found) =
    mapped_some (λ x. Some (option_bound closed x)) (entry_text_number (b ∷ text)) found is in
    saved_number_stays (b ∷ text) at.0 at.1
