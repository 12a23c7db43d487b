-- The options of a function, as they are computed. OptionGrammar defines how they are written.
use Rattle.std.specs.Prelude.{◌&&◌, ℕ, zero, suc, List, Bool, true, false, length, drop, codes, nat_eq, if◌then◌else◌}
use Rattle.std.specs.Prelude.{Option, Some, None, option_map}
use Rattle.std.specs.List.{starts_with}
use Rattle.std.specs.Option.{is_some}
use Rattle.def_lines.specs.Blanks.{after_blanks, trimmed_of_blanks}
use Rattle.def_entry.specs.declared.entry.Span.{Span}
use Rattle.def_entry.specs.declared.options.Choice.{Choice}
use Rattle.def_entry.specs.declared.options.Choice.TheVariants.{Units as UnitsChoice, Domain, Range, NoError}
use Rattle.def_entry.specs.Cuts.{behind_byte, cut_at}
use Rattle.def_entry.specs.Headings.{stands_apart}
use Rattle.def_entry.specs.Intervals.{interval_at}
use Rattle.def_entry.specs.Marks.{entry_close_bracket, entry_open_bracket, entry_semicolon}
use Rattle.def_entry.specs.Steps.{◌>>=◌}

-- the texts of the in unit and of the out unit, either of which may be empty
pub record Units : Type 0 where
  pub in_unit : List ℕ
  pub out_unit : List ℕ

-- the options in a line
pub record Options : Type 0 where
  pub units : Option Units
  pub domain : Option Span
  pub range : Option Span
  pub no_error : Bool

-- the set without options
abbrev pub empty_options : Options
empty_options = record { units = None; domain = None; range = None; no_error = false }

-- the text with which an option starts
abbrev pub option_choice_word : Choice → List ℕ
option_choice_word UnitsChoice = codes "units="
option_choice_word Domain = codes "domain="
option_choice_word Range = codes "range="
option_choice_word NoError = codes "noerror"

-- the text starts with the word of an option
abbrev pub begins_with_option : Choice → List ℕ → Bool
begins_with_option choice text = starts_with nat_eq text (option_choice_word choice)

-- the text after the word of an option
abbrev pub text_after_choice : Choice → List ℕ → List ℕ
text_after_choice choice text = drop (length (option_choice_word choice)) text

-- the text starts with `noerror` followed by a blank or by nothing
abbrev pub begins_with_no_error : List ℕ → Bool
begins_with_no_error text = begins_with_option NoError text && stands_apart (text_after_choice NoError text)

-- the option with which the text starts
abbrev pub choice_at : List ℕ → Option Choice
choice_at text =
    if begins_with_option UnitsChoice text
    then Some UnitsChoice
    else (if begins_with_option Domain text then Some Domain
    else (if begins_with_option Range text then Some Range
    else (if begins_with_no_error text then Some NoError
    else None)))

-- the units in `[A;B]` and the text after it: A extends to the first `;`, and B from there to the next `]`
abbrev pub units_at : List ℕ → Option (Units × List ℕ)
units_at text = do
  inside ← behind_byte entry_open_bracket text
  first ← cut_at entry_semicolon inside
  second ← cut_at entry_close_bracket first.1
  Some (record { in_unit = trimmed_of_blanks first.0; out_unit = trimmed_of_blanks second.0 }, second.1)

-- the options with one more, whose value is at the front, and the text after it; `None` if it has no value, or if the
-- option is repeated
abbrev pub with_option_choice : Choice → Options → List ℕ → Option (Options × List ℕ)
with_option_choice UnitsChoice options text =
    if is_some options.units
    then None
    else option_map (λ found. (record options { units = Some found.0 }, found.1)) (units_at text)
with_option_choice Domain options text =
    if is_some options.domain
    then None
    else option_map (λ found. (record options { domain = Some found.0 }, found.1)) (interval_at text)
with_option_choice Range options text =
    if is_some options.range
    then None
    else option_map (λ found. (record options { range = Some found.0 }, found.1)) (interval_at text)
with_option_choice NoError options text =
    if options.no_error then None else Some (record options { no_error = true }, text)

-- the maximum number of options: one of each kind
abbrev pub most_options : ℕ
most_options = 4

-- the options with the one with which the text starts, if there is one, and the rest by the continuation
abbrev pub with_next_option : (Options → List ℕ → Option (Options × List ℕ)) → Option Choice → Options
    → List ℕ → Option (Options × List ℕ)
with_next_option go_on None options text = Some (options, text)
with_next_option go_on (Some choice) options text = do
  found ← with_option_choice choice options (text_after_choice choice text)
  go_on found.0 found.1

-- the options with those at the front, fewer than n of them, and the text after them
unfoldable pub options_from : ℕ → Options → List ℕ → Option (Options × List ℕ)
options_from zero options text = None
options_from (suc n) options text =
    let rest = after_blanks text in with_next_option (options_from n) (choice_at rest) options rest

-- the options at the front after any blanks, and the text after them
abbrev pub options_at : List ℕ → Option (Options × List ℕ)
options_at text = options_from (suc most_options) empty_options text
