-- The names after the slash.
use Rattle.std.proofs.Common.{◌≡◌, refl, sym, ap, ◌∙◌, Bool, true, false, cond, ◌||◌, ◌++◌, ℕ, List, [], ◌∷◌, filter}
use Rattle.std.proofs.Common.{flat_map, codes, append_assoc}
use Rattle.std.specs.List.{list_any}
use Rattle.std.proofs.lemmas.List.{append-nil}
use Rattle.quantity.specs.Merges.{UnitPowers}
use Rattle.quantity.specs.Text.{divisor_powers_text, is_power_after_slash, is_power_before_slash, listed_powers_text}
use Rattle.quantity.specs.Text.{unit_power_text}

-- if no exponent is negative, filtering the negative ones gives an empty list
filter_no_divisor_powers : (es : UnitPowers) → list_any is_power_after_slash es ≡ false
    → filter is_power_after_slash es ≡ []
filter_no_divisor_powers [] h = refl
filter_no_divisor_powers (e ∷ es) h = go (is_power_after_slash e) h (λ rest. filter_no_divisor_powers es rest)
  where
    go : (b : Bool) → (b || list_any is_power_after_slash es) ≡ false
        → (list_any is_power_after_slash es ≡ false → filter is_power_after_slash es ≡ [])
        → cond b (e ∷ filter is_power_after_slash es) (filter is_power_after_slash es) ≡ []
    go true h rest = cc
    go false h rest = rest h

-- if an exponent is negative, the names with negative exponents follow a slash
filter_divisor_powers : (es : UnitPowers) → list_any is_power_after_slash es ≡ true
    → divisor_powers_text (filter is_power_after_slash es) ≡ codes " /" ++ flat_map unit_power_text
    (filter is_power_after_slash es)
filter_divisor_powers [] h = cc
filter_divisor_powers (e ∷ es) h = go (is_power_after_slash e) h (λ rest. filter_divisor_powers es rest)
  where
    go : (b : Bool) → (b || list_any is_power_after_slash es) ≡ true
        → (list_any is_power_after_slash es ≡ true
        → divisor_powers_text (filter is_power_after_slash es) ≡ codes " /" ++ flat_map unit_power_text
        (filter is_power_after_slash es))
        → divisor_powers_text (cond b (e ∷ filter is_power_after_slash es) (filter is_power_after_slash es))
        ≡ codes " /" ++ flat_map unit_power_text
        (cond b (e ∷ filter is_power_after_slash es) (filter is_power_after_slash es))
    go true h rest = refl
    go false h rest = rest h

-- if no exponent is negative, the text has no slash
pub powers_text_without_slash : (text : List ℕ) (es : UnitPowers) → list_any is_power_after_slash es ≡ false
    → text ++ flat_map unit_power_text (filter is_power_before_slash es) ≡ text ++ listed_powers_text es
powers_text_without_slash text es none =
    ap (λ t. text ++ t)
    (sym (ap (λ ds. flat_map unit_power_text (filter is_power_before_slash es) ++ divisor_powers_text ds)
    (filter_no_divisor_powers es none)
    ∙ append-nil _))

-- if an exponent is negative, the text has a slash and the names with negative exponents
pub powers_text_with_slash : (text : List ℕ) (es : UnitPowers) → list_any is_power_after_slash es ≡ true
    → ((text ++ flat_map unit_power_text (filter is_power_before_slash es)) ++ codes " /")
    ++ flat_map unit_power_text (filter is_power_after_slash es) ≡ text ++ listed_powers_text es
powers_text_with_slash text es some =
    let above = flat_map unit_power_text (filter is_power_before_slash es) in
    append_assoc (text ++ above) (codes " /") _ ∙ append_assoc text above _
    ∙ ap (λ t. text ++ (above ++ t)) (sym (filter_divisor_powers es some))
