-- Exchanging two options does not change their meaning.
use Rattle.std.proofs.Common.{◌≡◌, ◌≤◌, ◌∷◌, ◌++◌, List, length, Option, Some, None, sym, ◌∙◌, arith, length-append}
use Rattle.std.specs.List.{cons_option, filter_map}
use Rattle.std.proofs.lemmas.List.Elements.{filter_map-append}
use Rattle.def_entry.specs.OptionGrammar.{WrittenOption, AnyOptionOrderLaw, option_as_list, domain_of_option}
use Rattle.def_entry.specs.OptionGrammar.{no_error_of_option, range_of_option, units_of_option}
use Rattle.def_entry.proofs.OptionRuns.{few_option_values, flag}

-- after an exchange of two options, the values of each kind are the same
exchanged_options_have_same_values : {A : Type 0} (h : WrittenOption → Option A) (front : List WrittenOption)
    (x y : WrittenOption) (back : List WrittenOption) (v : Option A)
    → filter_map h (front ++ (x ∷ y ∷ back)) ≡ option_as_list v
    → filter_map h (front ++ (y ∷ x ∷ back)) ≡ option_as_list v
exchanged_options_have_same_values {A = A} h front x y back v e = filter_map-append h front (y ∷ x ∷ back)
    ∙ go (h x) (h y) (filter_map h front) (filter_map h back) (sym (filter_map-append h front (x ∷ y ∷ back)) ∙ e)
  where
    long : (before : List A) (a b : A) (after : List A) → before ++ (a ∷ b ∷ after) ≡ option_as_list v → ⊥
    long before a b after e =
        let n : length (before ++ (a ∷ b ∷ after)) ≤ 1 = few_option_values v (before ++ (a ∷ b ∷ after)) e in
        omega (arith, length-append before (a ∷ b ∷ after))

    go : (p q : Option A) (before after : List A)
        → before ++ cons_option p (cons_option q after) ≡ option_as_list v
        → before ++ cons_option q (cons_option p after) ≡ option_as_list v
    go None q before after e = e
    go (Some a) None before after e = e
    go (Some a) (Some b) before after e = absurd (long before a b after e)

-- the law of any order
pub any_option_order : AnyOptionOrderLaw
any_option_order front x y back o is = record {
  units = exchanged_options_have_same_values units_of_option front x y back o.units is.units;
  domain = exchanged_options_have_same_values domain_of_option front x y back o.domain is.domain;
  range = exchanged_options_have_same_values range_of_option front x y back o.range is.range;
  no_error = exchanged_options_have_same_values no_error_of_option front x y back (flag o.no_error) is.no_error;
}
