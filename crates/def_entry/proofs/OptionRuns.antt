-- Sequences of options are read the way they are written.
use Rattle.std.proofs.Common.{◌≡◌, ◌<◌, ◌≤◌, ◌+◌, ◌&&◌, ◌∷◌, [], ◌++◌, ℕ, zero, suc, List, Bool, true, false, not}
use Rattle.std.proofs.Common.{length, Option, Some, None, if◌then◌else◌, refl, sym, ap, ◌∙◌, subst, arith}
use Rattle.std.specs.List.{cons_option, filter_map, list_all}
use Rattle.std.specs.Option.{is_some}
use Rattle.std.proofs.lemmas.Bool.{and_parts}
use Rattle.std.proofs.lemmas.List.{append-nil}
use Rattle.std.proofs.lemmas.Option.{some_pair_parts}
use Rattle.units_io.specs.Blanks.{is_blank_text_byte}
use Rattle.def_lines.specs.Blanks.{after_blanks}
use Rattle.def_lines.specs.Parts.{begins_without_blank}
use Rattle.def_lines.proofs.TrimmedTexts.{begins_without_blank-after_blanks}
use Rattle.def_entry.specs.declared.options.Choice.{Choice}
use Rattle.def_entry.specs.OptionGrammar.{WrittenOptionInterval, WrittenOption, UnitsOption, DomainOption, RangeOption}
use Rattle.def_entry.specs.OptionGrammar.{NoErrorOption, WrittenOptions, NoOption, NextOption}
use Rattle.def_entry.specs.OptionGrammar.{AreOptions, OptionsLaw, are_complete_options, domain_of_option}
use Rattle.def_entry.specs.OptionGrammar.{option_as_list, option_has_ended, is_complete_option, is_option_interval}
use Rattle.def_entry.specs.OptionGrammar.{no_error_of_option, options_in_order, spelled_option, spelled_options}
use Rattle.def_entry.specs.OptionGrammar.{range_of_option, option_interval_span, units_of_option}
use Rattle.def_entry.specs.Options.{Options, choice_at, empty_options, most_options, options_at, options_from}
use Rattle.def_entry.specs.Options.{text_after_choice, with_next_option, with_option_choice}
use Rattle.def_entry.specs.Steps.{◌>>=◌}
use Rattle.def_entry.proofs.WrittenIntervals.{option_bind_some}
use Rattle.def_entry.proofs.WrittenOptions.{Added, Fronted, added, begun-option, option-after_blanks-front}
use Rattle.def_entry.proofs.WrittenOptions.{option_choice-at, option_text_after_blanks, is_free, no-option-choice}
use Rattle.def_entry.proofs.WrittenOptions.{option_value-at, option_value-is, options-have-ended}

-- `noerror`, as an optional value
abbrev pub flag : Bool → Option Bool
flag b = if b then Some true else None

-- options that follow the earlier ones
record Behind (o : Options) (os : List WrittenOption) (new : Options) : Type 0 where
  units : option_as_list o.units ++ filter_map units_of_option os ≡ option_as_list new.units
  domain : option_as_list o.domain ++ filter_map domain_of_option os ≡ option_as_list new.domain
  range : option_as_list o.range ++ filter_map range_of_option os ≡ option_as_list new.range
  no_error : option_as_list (flag o.no_error) ++ filter_map no_error_of_option os ≡ option_as_list (flag new.no_error)

-- a value is added, if there was none before
option_value_is_added : {A : Type 0} (had v made : Option A) (rest : List A) → not (is_some had) ≡ true
    → option_as_list v ++ rest ≡ option_as_list made
    → option_as_list had ++ cons_option v rest ≡ option_as_list made
option_value_is_added None None made rest free e = e
option_value_is_added None (Some x) made rest free e = e
option_value_is_added (Some y) v made rest free e = cc

-- an option that occurs once does not occur before it or after it
option_value_occurs_once : {A : Type 0} (had v made : Option A) (rest : List A) → is_some v ≡ true
    → option_as_list had ++ cons_option v rest ≡ option_as_list made
    → (not (is_some had) ≡ true) × (option_as_list v ++ rest ≡ option_as_list made)
option_value_occurs_once None None made rest some e = cc
option_value_occurs_once None (Some x) made rest some e = (refl, e)
option_value_occurs_once (Some y) None made rest some e = cc
option_value_occurs_once (Some y) (Some x) None rest some e = cc
option_value_occurs_once (Some y) (Some x) (Some z) rest some e = cc

-- a flag that is not set is free
unset_option_flag_is_free : (b : Bool) → not b ≡ true → not (is_some (flag b)) ≡ true
unset_option_flag_is_free true e = cc
unset_option_flag_is_free false e = refl

-- a flag that is free is not set
free_option_flag_is_unset : (b : Bool) → not (is_some (flag b)) ≡ true → not b ≡ true
free_option_flag_is_unset true e = cc
free_option_flag_is_unset false e = refl

-- an option that is free can be put in front of those after it
option-after-more : (w : WrittenOption) (o : Options) (os : List WrittenOption) (new : Options) → is_free w o ≡ true
    → Behind (added w o) os new
    → Behind o (w ∷ os) new
option-after-more (UnitsOption a b) o os new free is = record {
  units = option_value_is_added o.units (units_of_option (UnitsOption a b)) new.units (filter_map units_of_option os)
      free is.units;
  domain = is.domain;
  range = is.range;
  no_error = is.no_error;
}
option-after-more (DomainOption i) o os new free is = record {
  domain = option_value_is_added o.domain (option_interval_span i) new.domain (filter_map domain_of_option os) free
      is.domain;
  units = is.units;
  range = is.range;
  no_error = is.no_error;
}
option-after-more (RangeOption i) o os new free is = record {
  range = option_value_is_added o.range (option_interval_span i) new.range (filter_map range_of_option os) free
      is.range;
  units = is.units;
  domain = is.domain;
  no_error = is.no_error;
}
option-after-more NoErrorOption o os new free is = record {
  no_error = option_value_is_added (flag o.no_error) (Some true) (flag new.no_error) (filter_map no_error_of_option os)
      (unset_option_flag_is_free o.no_error free) is.no_error;
  units = is.units;
  domain = is.domain;
  range = is.range;
}

-- the first of some options is free
option-after-less : (w : WrittenOption) (o : Options) (os : List WrittenOption) (new : Options) (rest : List ℕ)
    → is_complete_option w rest ≡ true
    → Behind o (w ∷ os) new
    → (is_free w o ≡ true) × Behind (added w o) os new
option-after-less (UnitsOption a b) o os new rest whole is =
    let parts : (not (is_some o.units) ≡ true)
    × (option_as_list (units_of_option (UnitsOption a b)) ++ filter_map units_of_option os ≡ option_as_list new.units) =
    option_value_occurs_once o.units (units_of_option (UnitsOption a b)) new.units (filter_map units_of_option os) refl
    is.units in
    (parts.0, record { units = parts.1; domain = is.domain; range = is.range; no_error = is.no_error })
option-after-less (DomainOption i) o os new rest whole is =
    let parts : (not (is_some o.domain) ≡ true)
    × (option_as_list (option_interval_span i) ++ filter_map domain_of_option os ≡ option_as_list new.domain) =
    option_value_occurs_once o.domain (option_interval_span i) new.domain (filter_map domain_of_option os)
    (and_parts _ _ whole).1 is.domain in
    (parts.0, record { domain = parts.1; units = is.units; range = is.range; no_error = is.no_error })
option-after-less (RangeOption i) o os new rest whole is =
    let parts : (not (is_some o.range) ≡ true)
    × (option_as_list (option_interval_span i) ++ filter_map range_of_option os ≡ option_as_list new.range) =
    option_value_occurs_once o.range (option_interval_span i) new.range (filter_map range_of_option os)
    (and_parts _ _ whole).1 is.range in
    (parts.0, record { range = parts.1; units = is.units; domain = is.domain; no_error = is.no_error })
option-after-less NoErrorOption o os new rest whole is =
    let parts : (not (is_some (flag o.no_error)) ≡ true)
    × (option_as_list (Some true) ++ filter_map no_error_of_option os ≡ option_as_list (flag new.no_error)) =
    option_value_occurs_once (flag o.no_error) (Some true) (flag new.no_error) (filter_map no_error_of_option os) refl
    is.no_error in (
      free_option_flag_is_unset o.no_error parts.0,
      record { no_error = parts.1; units = is.units; domain = is.domain; range = is.range },
    )

-- no options follow

-- if nothing is added, a value does not change
same_option_value : {A : Type 0} (x y : Option A) → option_as_list x ++ [] ≡ option_as_list y → x ≡ y
same_option_value None None e = refl
same_option_value None (Some y) e = cc
same_option_value (Some x) None e = cc
same_option_value (Some x) (Some y) e = cc

-- if nothing is added, a flag does not change
same_option_flag : (x y : Bool) → option_as_list (flag x) ++ [] ≡ option_as_list (flag y) → x ≡ y
same_option_flag true true e = refl
same_option_flag true false e = cc
same_option_flag false true e = cc
same_option_flag false false e = refl

-- if no options follow, the options do not change
options-after-none : (o new : Options) → Behind o [] new → o ≡ new
options-after-none o new is =
    let u : o.units ≡ new.units = same_option_value o.units new.units is.units in
    let d : o.domain ≡ new.domain = same_option_value o.domain new.domain is.domain in
    let r : o.range ≡ new.range = same_option_value o.range new.range is.range in
    let n : o.no_error ≡ new.no_error = same_option_flag o.no_error new.no_error is.no_error in
    λ i. record { units = u i; domain = d i; range = r i; no_error = n i }

-- if the options do not change, no options follow
options-none-after : (o new : Options) → o ≡ new → Behind o [] new
options-none-after o new e = record {
  units = append-nil (option_as_list o.units) ∙ ap (λ (x : Options). option_as_list x.units) e;
  domain = append-nil (option_as_list o.domain) ∙ ap (λ (x : Options). option_as_list x.domain) e;
  range = append-nil (option_as_list o.range) ∙ ap (λ (x : Options). option_as_list x.range) e;
  no_error = append-nil (option_as_list (flag o.no_error)) ∙ ap (λ (x : Options). option_as_list (flag x.no_error)) e;
}

-- the written form of options that are read
record ReadFrom (o : Options) (text rest : List ℕ) (new : Options) : Type 0 where
  written : WrittenOptions
  spelled : text ≡ spelled_options written rest
  whole : are_complete_options written rest ≡ true
  ended : option_has_ended rest ≡ true
  said : Behind o (options_in_order written) new

-- equal options are followed by the same options
same_options_after : (x y : Options) (os : List WrittenOption) (new : Options) → x ≡ y → Behind x os new
    → Behind y os new
same_options_after x y os new e is = subst (λ (z : Options). Behind z os new) e is

-- options that are read are written that way
read-options-are-written : (n : ℕ) (o : Options) (text rest : List ℕ) (new : Options)
    → options_from n o text ≡ Some (new, rest)
    → ReadFrom o text rest new
unfolding options_from
read-options-are-written zero o text rest new e = cc
read-options-are-written (suc n) o text rest new e = go (choice_at (after_blanks text)) refl e
    (option_text_after_blanks text) (read-options-are-written n)
  where
    go : (found : Option Choice) → choice_at (after_blanks text) ≡ found
        → with_next_option (options_from n) found o (after_blanks text) ≡ Some (new, rest) → Fronted text
        → ((o : Options) (text rest : List ℕ) (new : Options) → options_from n o text ≡ Some (new, rest)
        → ReadFrom o text rest new)
        → ReadFrom o text rest new
    go None none e front next =
        let pair : (o ≡ new) × (after_blanks text ≡ rest) = some_pair_parts o new (after_blanks text) rest e in
        record {
          written = NoOption front.blanks;
          spelled = front.whole ∙ ap (λ t. front.blanks ++ t) pair.1;
          whole = front.clear;
          ended = ap option_has_ended (sym pair.1) ∙ options-have-ended (after_blanks text) none
              (begins_without_blank-after_blanks text);
          said = options-none-after o new pair.0;
        }
    go (Some c) some e front next =
        let step = option_bind_some (with_option_choice c o (text_after_choice c (after_blanks text)))
        (λ found. options_from n found.0 found.1)
        (new, rest) e in
        done step.0.0 step.0.1 step.1 (next step.0.0 step.0.1 rest new step.2)
      where
        done : (o' : Options) (left : List ℕ) → with_option_choice c o (text_after_choice c (after_blanks text)) ≡ Some
            (o', left)
            → ReadFrom o' left rest new
            → ReadFrom o text rest new
        done o' left taken rests =
            let one : Added (after_blanks text) o o' left = option_value-is c (after_blanks text) o o' left some taken
            in
            record {
              written = NextOption front.blanks one.written rests.written;
              spelled = front.whole
                  ∙ ap (λ t. front.blanks ++ t) (one.spelled ∙ ap (spelled_option one.written) rests.spelled);
              whole = (λ i. front.clear i && (ap (is_complete_option one.written) (sym rests.spelled) ∙ one.whole) i
                  && rests.whole i);
              ended = rests.ended;
              said = option-after-more one.written o (options_in_order rests.written) new one.free
                  (same_options_after o' (added one.written o) (options_in_order rests.written) new one.made
                  rests.said);
            }

-- options that are written are read
written-options-are-read : (w : WrittenOptions) (n : ℕ) (o new : Options) (rest : List ℕ)
    → are_complete_options w rest ≡ true
    → option_has_ended rest ≡ true
    → Behind o (options_in_order w) new → length (options_in_order w) < n
    → options_from n o (spelled_options w rest) ≡ Some (new, rest)
unfolding options_from
written-options-are-read (NoOption blanks) zero o new rest whole ended said room = absurd (omega arith)
written-options-are-read (NoOption blanks) (suc n) o new rest whole ended said room =
    let end : (choice_at rest ≡ None) × (begins_without_blank rest ≡ true) = no-option-choice rest ended in
    let front : after_blanks (blanks ++ rest) ≡ rest = option-after_blanks-front blanks rest whole end.1 in
    ap (λ t. with_next_option (options_from n) (choice_at t) o t) front
    ∙ ap (λ c. with_next_option (options_from n) c o rest) end.0
    ∙ ap (λ (x : Options). Some (x, rest)) (options-after-none o new said)
written-options-are-read (NextOption blanks x xs) zero o new rest whole ended said room = absurd (omega arith)
written-options-are-read (NextOption blanks x xs) (suc n) o new rest whole ended said room =
    go (written-options-are-read xs n (added x o) new rest)
  where
    go : (are_complete_options xs rest ≡ true → option_has_ended rest ≡ true
        → Behind (added x o) (options_in_order xs) new
        → length (options_in_order xs) < n → options_from n (added x o) (spelled_options xs rest) ≡ Some (new, rest))
        → options_from (suc n) o (spelled_options (NextOption blanks x xs) rest) ≡ Some (new, rest)
    go next =
        let left : List ℕ = spelled_options xs rest in
        let parts : ((list_all is_blank_text_byte blanks && is_complete_option x (spelled_options xs rest)) ≡ true)
        × (are_complete_options xs rest ≡ true) =
        and_parts _ _ whole in
        let front : (list_all is_blank_text_byte blanks ≡ true)
        × (is_complete_option x (spelled_options xs rest) ≡ true) =
        and_parts _ _ parts.0 in
        let free : (is_free x o ≡ true) × Behind (added x o) (options_in_order xs) new =
        option-after-less x o (options_in_order xs) new (spelled_options xs rest) front.1 said in
        let begun : after_blanks (blanks ++ spelled_option x (spelled_options xs rest)) ≡ spelled_option x
        (spelled_options xs rest) =
        option-after_blanks-front blanks (spelled_option x (spelled_options xs rest)) front.0
        (begun-option x (spelled_options xs rest)) in
        ap (λ t. with_next_option (options_from n) (choice_at t) o t) begun
        ∙ ap (λ c. with_next_option (options_from n) c o (spelled_option x (spelled_options xs rest)))
        (option_choice-at x (spelled_options xs rest) front.1)
        ∙ ap (λ f. f >>= (λ found. options_from n found.0 found.1))
        (option_value-at x o (spelled_options xs rest) front.1 free.0)
        ∙ next parts.1 ended free.1 (omega arith)

-- a complete interval has a value
complete_option_interval_has_span : (i : WrittenOptionInterval) → is_option_interval i ≡ true
    → is_some (option_interval_span i) ≡ true
complete_option_interval_has_span i whole = (and_parts _ (is_some (option_interval_span i)) whole).1

-- each option is one of four kinds
options_are_counted_by_kind : (w : WrittenOptions) (rest : List ℕ) → are_complete_options w rest ≡ true
    → length (options_in_order w)
    ≤ length (filter_map units_of_option (options_in_order w)) + length
    (filter_map domain_of_option (options_in_order w))
    + length (filter_map range_of_option (options_in_order w)) + length
    (filter_map no_error_of_option (options_in_order w))
options_are_counted_by_kind (NoOption blanks) rest whole = omega arith
options_are_counted_by_kind (NextOption blanks x xs) rest whole =
    let parts : ((list_all is_blank_text_byte blanks && is_complete_option x (spelled_options xs rest)) ≡ true)
    × (are_complete_options xs rest ≡ true) =
    and_parts _ _ whole in
    go x (and_parts _ _ parts.0).1 (options_are_counted_by_kind xs rest parts.1)
  where
    one_more : {A : Type 0} (v : Option A) (values : List A) → is_some v ≡ true
        → length (cons_option v values) ≡ suc (length values)
    one_more None values e = cc
    one_more (Some y) values e = refl

    go : (y : WrittenOption) → is_complete_option y (spelled_options xs rest) ≡ true → length (options_in_order xs)
        ≤ length (filter_map units_of_option (options_in_order xs)) + length
        (filter_map domain_of_option (options_in_order xs))
        + length (filter_map range_of_option (options_in_order xs)) + length
        (filter_map no_error_of_option (options_in_order xs))
        → length (y ∷ options_in_order xs)
        ≤ length (filter_map units_of_option (y ∷ options_in_order xs)) + length
        (filter_map domain_of_option (y ∷ options_in_order xs))
        + length (filter_map range_of_option (y ∷ options_in_order xs))
        + length (filter_map no_error_of_option (y ∷ options_in_order xs))
    go (UnitsOption a b) here count = omega arith
    go (DomainOption i) here count =
        let m : length (cons_option (option_interval_span i) (filter_map domain_of_option (options_in_order xs)))
        ≡ suc (length (filter_map domain_of_option (options_in_order xs))) =
        one_more (option_interval_span i) (filter_map domain_of_option (options_in_order xs))
        (complete_option_interval_has_span i here) in
        omega arith
    go (RangeOption i) here count =
        let m : length (cons_option (option_interval_span i) (filter_map range_of_option (options_in_order xs)))
        ≡ suc (length (filter_map range_of_option (options_in_order xs))) =
        one_more (option_interval_span i) (filter_map range_of_option (options_in_order xs))
        (complete_option_interval_has_span i here) in
        omega arith
    go NoErrorOption here count = omega arith

-- a list of at most one value has at most one item
pub few_option_values : {A : Type 0} (o : Option A) (xs : List A) → xs ≡ option_as_list o → length xs ≤ 1
few_option_values None xs e = let n : length xs ≡ 0 = ap length e in omega arith
few_option_values (Some x) xs e = let n : length xs ≡ 1 = ap length e in omega arith

-- options are read if and only if they are written according to the grammar
pub options_read : OptionsLaw
options_read text rest o = (to, from) where
  to : options_at text ≡ Some (o, rest) → AreOptions text rest o
  to e =
      let is : ReadFrom empty_options text rest o = read-options-are-written (suc most_options) empty_options text
      rest o e in
      record {
        written_options = is.written;
        spelled_text = is.spelled;
        well_formed = is.whole;
        ends_options = is.ended;
        statement_is = record {
          units = is.said.units;
          domain = is.said.domain;
          range = is.said.range;
          no_error = is.said.no_error;
        };
      }

  from : AreOptions text rest o → options_at text ≡ Some (o, rest)
  from is =
      let u : length (filter_map units_of_option (options_in_order is.written_options)) ≤ 1 =
      few_option_values o.units (filter_map units_of_option (options_in_order is.written_options))
      is.statement_is.units in
      let d : length (filter_map domain_of_option (options_in_order is.written_options)) ≤ 1 =
      few_option_values o.domain (filter_map domain_of_option (options_in_order is.written_options))
      is.statement_is.domain in
      let r : length (filter_map range_of_option (options_in_order is.written_options)) ≤ 1 =
      few_option_values o.range (filter_map range_of_option (options_in_order is.written_options))
      is.statement_is.range in
      let n : length (filter_map no_error_of_option (options_in_order is.written_options)) ≤ 1 =
      few_option_values (flag o.no_error) (filter_map no_error_of_option (options_in_order is.written_options))
      is.statement_is.no_error in
      let all = options_are_counted_by_kind is.written_options rest is.well_formed in
      let room : length (options_in_order is.written_options) < suc most_options = omega arith in
      let said : Behind empty_options (options_in_order is.written_options) o =
      record {
        units = is.statement_is.units;
        domain = is.statement_is.domain;
        range = is.statement_is.range;
        no_error = is.statement_is.no_error;
      } in
      ap options_at is.spelled_text
      ∙ written-options-are-read is.written_options (suc most_options) empty_options o rest is.well_formed
      is.ends_options said
      room
