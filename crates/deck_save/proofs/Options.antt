-- The options of a function contain no line feed, carriage return or `#`.
use Rattle.std.proofs.Common.{◌≡◌, ◌&&◌, ◌++◌, ◌∷◌, [], ℕ, List, Bool, true, false, not, codes, Option, Some, None}
use Rattle.std.proofs.Common.{refl, sym, ap, subst, ◌∙◌}
use Rattle.std.specs.List.{filter_map, list_all}
use Rattle.std.specs.Option.{is_some}
use Rattle.std.proofs.lemmas.Bool.{and_from, and_parts}
use Rattle.units_io.specs.Blanks.{is_blank_text_byte}
use Rattle.def_lines.specs.Blanks.{trimmed_of_blanks}
use Rattle.expr_tree.specs.Syntax.{Syntax}
use Rattle.def_entry.specs.declared.entry.Bound.{Bound}
use Rattle.def_entry.specs.declared.entry.Span.{Span}
use Rattle.def_entry.specs.Cuts.{entry_text_lacks}
use Rattle.def_entry.specs.EntryGrammar.{IsEntryTreeOf, in_unit_option_text, out_unit_option_text}
use Rattle.def_entry.specs.Forms.{some_text}
use Rattle.def_entry.specs.Intervals.{bound_in, is_closing}
use Rattle.def_entry.specs.OptionGrammar.{WrittenOptionInterval, WrittenOption, UnitsOption, DomainOption, RangeOption}
use Rattle.def_entry.specs.OptionGrammar.{NoErrorOption, WrittenOptions, NoOption, NextOption, AreOptions}
use Rattle.def_entry.specs.OptionGrammar.{are_complete_options, is_option_interval, option_as_list, option_closing_byte}
use Rattle.def_entry.specs.OptionGrammar.{spelled_option_interval, options_in_order, is_complete_option}
use Rattle.def_entry.specs.OptionGrammar.{option_interval_span, option_opening_byte, spelled_option, spelled_options}
use Rattle.def_entry.specs.OptionGrammar.{units_of_option}
use Rattle.def_entry.specs.Options.{Options, Units}
use Rattle.def_entry.specs.Steps.{◌>>=◌}
use Rattle.def_entry.proofs.WrittenIntervals.{option_bind_some}
use Rattle.deck_save.specs.SavedLines.{is_saved_line_byte}
use Rattle.deck_save.proofs.PlainBytes.{saved_bytes_all_both}
use Rattle.deck_save.proofs.Expressions.{saved_expressions_stay}
use Rattle.deck_save.proofs.Names.{saved_blanks_stay, saved_untrimmed_text_stays}
use Rattle.deck_save.proofs.Numbers.{saved_bound_stays}

-- intervals

saved_opening_byte_stays : (closed : Bool) → is_saved_line_byte (option_opening_byte closed) ≡ true
saved_opening_byte_stays true = refl
saved_opening_byte_stays false = refl

saved_closing_byte_stays : (closed : Bool) → is_saved_line_byte (option_closing_byte closed) ≡ true
saved_closing_byte_stays true = refl
saved_closing_byte_stays false = refl

-- the texts of the two bounds of an interval stay
record Bounds (i : WrittenOptionInterval) : Type 0 where
  pub low : list_all is_saved_line_byte i.low ≡ true
  pub high : list_all is_saved_line_byte i.high ≡ true

saved_interval_bounds : (i : WrittenOptionInterval) → is_option_interval i ≡ true → Bounds i
saved_interval_bounds i is = go (option_interval_span i) refl
    (and_parts (entry_text_lacks 44 i.low && list_all (λ b. not (is_closing b)) i.high)
    (is_some (option_interval_span i)) is).1
  where
    go : (found : Option Span) → option_interval_span i ≡ found → is_some found ≡ true → Bounds i
    go None e some = cc
    go (Some span) e some =
        let low : (x : Option Bound) × (bound_in i.low_closed (trimmed_of_blanks i.low) ≡ Some x)
        × ((bound_in i.high_closed (trimmed_of_blanks i.high) >>= (λ y. Some (record { low = x; high = y }))) ≡ Some
        span) =
        option_bind_some (bound_in i.low_closed (trimmed_of_blanks i.low))
        (λ (x : Option Bound). bound_in i.high_closed (trimmed_of_blanks i.high) >>=
        (λ (y : Option Bound). Some (record { low = x; high = y }))) span e in
        let high : (y : Option Bound) × (bound_in i.high_closed (trimmed_of_blanks i.high) ≡ Some y)
        × (Some (record { low = low.0; high = y }) ≡ Some span) =
        option_bind_some (bound_in i.high_closed (trimmed_of_blanks i.high))
        (λ (y : Option Bound). Some (record { low = low.0; high = y })) span low.2 in
        record {
          low = saved_untrimmed_text_stays i.low (saved_bound_stays i.low_closed (trimmed_of_blanks i.low) low.0 low.1);
          high = saved_untrimmed_text_stays i.high
              (saved_bound_stays i.high_closed (trimmed_of_blanks i.high) high.0 high.1);
        }

saved_interval_stays : (i : WrittenOptionInterval) (rest : List ℕ) → is_option_interval i ≡ true
    → list_all is_saved_line_byte rest ≡ true
    → list_all is_saved_line_byte (spelled_option_interval i rest) ≡ true
saved_interval_stays i rest is clear =
    let b : Bounds i = saved_interval_bounds i is in
    let back : list_all is_saved_line_byte (i.high ++ (option_closing_byte i.high_closed ∷ rest)) ≡ true =
    saved_bytes_all_both is_saved_line_byte i.high (option_closing_byte i.high_closed ∷ rest) b.high
    (and_from (is_saved_line_byte (option_closing_byte i.high_closed)) (list_all is_saved_line_byte rest)
    (saved_closing_byte_stays i.high_closed)
    clear) in
    and_from (is_saved_line_byte (option_opening_byte i.low_closed))
    (list_all is_saved_line_byte (i.low ++ (44 ∷ (i.high ++ (option_closing_byte i.high_closed ∷ rest)))))
    (saved_opening_byte_stays i.low_closed)
    (saved_bytes_all_both is_saved_line_byte i.low (44 ∷ (i.high ++ (option_closing_byte i.high_closed ∷ rest))) b.low
    back)

-- units

-- the texts of some units stay
abbrev pub UnitsStay : List Units → Type 0
UnitsStay [] = Unit {0}
UnitsStay (u ∷ us) = ((list_all is_saved_line_byte u.in_unit ≡ true) × (list_all is_saved_line_byte u.out_unit ≡ true))
    × UnitsStay
    us

-- a text that is empty or has a tree stays
saved_unit_stays : (text : List ℕ) (tree : Option Syntax) → IsEntryTreeOf None (some_text text) tree
    → list_all is_saved_line_byte text ≡ true
saved_unit_stays [] tree is = refl
saved_unit_stays (b ∷ text) tree is = saved_expressions_stay None (b ∷ text) is.0 is.1

pub saved_option_units_stay : (units : Option Units) (in_unit out_unit : Option Syntax)
    → IsEntryTreeOf None (in_unit_option_text units) in_unit
    → IsEntryTreeOf None (out_unit_option_text units) out_unit → UnitsStay (option_as_list units)
saved_option_units_stay None in_unit out_unit first second = tt
saved_option_units_stay (Some units) in_unit out_unit first second =
    ((saved_unit_stays units.in_unit in_unit first, saved_unit_stays units.out_unit out_unit second), tt)

-- options

saved_option_stays : (o : WrittenOption) (os : List WrittenOption) (rest : List ℕ) → is_complete_option o rest ≡ true
    → UnitsStay (filter_map units_of_option (o ∷ os))
    → list_all is_saved_line_byte rest ≡ true → list_all is_saved_line_byte (spelled_option o rest) ≡ true
saved_option_stays (UnitsOption a b) os rest whole units clear =
    let first : list_all is_saved_line_byte a ≡ true = saved_untrimmed_text_stays a units.0.0 in
    let second : list_all is_saved_line_byte b ≡ true = saved_untrimmed_text_stays b units.0.1 in
    saved_bytes_all_both is_saved_line_byte (codes "units=[") (a ++ (59 ∷ (b ++ (93 ∷ rest)))) refl
    (saved_bytes_all_both is_saved_line_byte a (59 ∷ (b ++ (93 ∷ rest))) first
    (saved_bytes_all_both is_saved_line_byte b (93 ∷ rest) second clear))
saved_option_stays (DomainOption i) os rest whole units clear = saved_bytes_all_both is_saved_line_byte
    (codes "domain=") (spelled_option_interval i rest) refl
    (saved_interval_stays i rest whole clear)
saved_option_stays (RangeOption i) os rest whole units clear = saved_bytes_all_both is_saved_line_byte (codes "range=")
    (spelled_option_interval i rest) refl
    (saved_interval_stays i rest whole clear)
saved_option_stays NoErrorOption os rest whole units clear = saved_bytes_all_both is_saved_line_byte (codes "noerror")
    rest refl clear

saved_other_units_stay : (o : WrittenOption) (os : List WrittenOption) → UnitsStay (filter_map units_of_option (o ∷ os))
    → UnitsStay (filter_map units_of_option os)
saved_other_units_stay (UnitsOption a b) os units = units.1
saved_other_units_stay (DomainOption i) os units = units
saved_other_units_stay (RangeOption i) os units = units
saved_other_units_stay NoErrorOption os units = units

saved_written_options_stay : (w : WrittenOptions) (rest : List ℕ) → are_complete_options w rest ≡ true
    → UnitsStay (filter_map units_of_option (options_in_order w))
    → list_all is_saved_line_byte rest ≡ true → list_all is_saved_line_byte (spelled_options w rest) ≡ true
saved_written_options_stay (NoOption blanks) rest whole units clear = saved_bytes_all_both is_saved_line_byte blanks
    rest (saved_blanks_stay blanks whole)
    clear
saved_written_options_stay (NextOption blanks o os) rest whole units clear =
    let outer : ((list_all is_blank_text_byte blanks && is_complete_option o (spelled_options os rest)) ≡ true)
    × (are_complete_options os rest ≡ true) =
    and_parts (list_all is_blank_text_byte blanks && is_complete_option o (spelled_options os rest))
    (are_complete_options os rest) whole in
    let inner : (list_all is_blank_text_byte blanks ≡ true) × (is_complete_option o (spelled_options os rest) ≡ true) =
    and_parts (list_all is_blank_text_byte blanks) (is_complete_option o (spelled_options os rest)) outer.0 in
    saved_bytes_all_both is_saved_line_byte blanks (spelled_option o (spelled_options os rest))
    (saved_blanks_stay blanks inner.0)
    (saved_option_stays o (options_in_order os) (spelled_options os rest) inner.1 units
    (saved_written_options_stay os rest outer.1 (saved_other_units_stay o (options_in_order os) units) clear))

-- a text that begins with the options of a function stays if its units and the rest stay
pub saved_options_stay : (text rest : List ℕ) (o : Options) → AreOptions text rest o
    → UnitsStay (option_as_list o.units)
    → list_all is_saved_line_byte rest ≡ true
    → list_all is_saved_line_byte text ≡ true
saved_options_stay text rest o are units clear =
    ap (list_all is_saved_line_byte) are.spelled_text ∙ saved_written_options_stay are.written_options rest
    are.well_formed
    (subst UnitsStay (sym are.statement_is.units) units) clear
