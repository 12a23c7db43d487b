-- The grammar of the options of a function: each occurs at most once, in any order, separated by blanks.
use Rattle.std.specs.Prelude.{◌≡◌, ◌↔◌, ◌||◌, ◌&&◌, ◌++◌, ℕ, List, [], ◌∷◌, Bool, true, not}
use Rattle.std.specs.Prelude.{codes, drop, nat_eq, if◌then◌else◌, Option, Some, None}
use Rattle.std.specs.List.{filter_map, list_all, starts_with}
use Rattle.std.specs.Option.{is_some}
use Rattle.units_io.specs.Blanks.{is_blank_text_byte}
use Rattle.def_lines.specs.Blanks.{trimmed_of_blanks}
use Rattle.def_lines.specs.Parts.{begins_without_blank}
use Rattle.def_entry.specs.declared.entry.Span.{Span}
use Rattle.def_entry.specs.Cuts.{entry_text_lacks}
use Rattle.def_entry.specs.Headings.{stands_apart}
use Rattle.def_entry.specs.Intervals.{bound_in, is_closing}
use Rattle.def_entry.specs.Marks.{entry_close_bracket, entry_close_paren, entry_comma, entry_open_bracket}
use Rattle.def_entry.specs.Marks.{entry_open_paren, entry_semicolon}
use Rattle.def_entry.specs.Options.{Options, Units, options_at}
use Rattle.def_entry.specs.Steps.{◌>>=◌}

-- an interval: its brackets, and the texts of its bounds
pub record WrittenOptionInterval : Type 0 where
  pub low_closed : Bool
  pub low : List ℕ
  pub high : List ℕ
  pub high_closed : Bool

pub data WrittenOption : Type 0 where
  -- "units=[" in unit ";" out unit "]"
  UnitsOption : List ℕ → List ℕ → WrittenOption
  -- "domain=" interval
  DomainOption : WrittenOptionInterval → WrittenOption
  -- "range=" interval
  RangeOption : WrittenOptionInterval → WrittenOption
  -- "noerror"
  NoErrorOption : WrittenOption

-- { blanks option } blanks
pub data WrittenOptions : Type 0 where
  NoOption : List ℕ → WrittenOptions
  NextOption : List ℕ → WrittenOption → WrittenOptions → WrittenOptions

-- the brackets `[` or `(`, and `]` or `)`

abbrev pub option_opening_byte : Bool → ℕ
option_opening_byte is_closed = if is_closed then entry_open_bracket else entry_open_paren

abbrev pub option_closing_byte : Bool → ℕ
option_closing_byte is_closed = if is_closed then entry_close_bracket else entry_close_paren

-- the bytes of each form, followed by other bytes

abbrev pub spelled_option_interval : WrittenOptionInterval → List ℕ → List ℕ
spelled_option_interval i rest = option_opening_byte i.low_closed ∷
    (i.low ++ (entry_comma ∷ (i.high ++ (option_closing_byte i.high_closed ∷ rest))))

abbrev pub spelled_option : WrittenOption → List ℕ → List ℕ
spelled_option (UnitsOption in_unit out_unit) rest =
    codes "units=[" ++ (in_unit ++ (entry_semicolon ∷ (out_unit ++ (entry_close_bracket ∷ rest))))
spelled_option (DomainOption i) rest = codes "domain=" ++ spelled_option_interval i rest
spelled_option (RangeOption i) rest = codes "range=" ++ spelled_option_interval i rest
spelled_option NoErrorOption rest = codes "noerror" ++ rest

abbrev pub spelled_options : WrittenOptions → List ℕ → List ℕ
spelled_options (NoOption blanks) rest = blanks ++ rest
spelled_options (NextOption blanks o os) rest = blanks ++ spelled_option o (spelled_options os rest)

-- the value of an interval; there is none if the text of a bound is neither empty nor a number
abbrev pub option_interval_span : WrittenOptionInterval → Option Span
option_interval_span i = do
  low ← bound_in i.low_closed (trimmed_of_blanks i.low)
  high ← bound_in i.high_closed (trimmed_of_blanks i.high)
  Some (record { low = low; high = high })

-- the low bound extends to the first `,`, and the high bound to the first bracket after that
abbrev pub is_option_interval : WrittenOptionInterval → Bool
is_option_interval i = entry_text_lacks entry_comma i.low && list_all (λ b. not (is_closing b)) i.high && is_some
    (option_interval_span i)

-- the option is complete when followed by these bytes: the in unit extends to the first `;`, the out unit to the first
-- `]` after that, and `noerror` is followed by a blank or by the end
abbrev pub is_complete_option : WrittenOption → List ℕ → Bool
is_complete_option (UnitsOption in_unit out_unit) rest = entry_text_lacks entry_semicolon in_unit && entry_text_lacks
    entry_close_bracket out_unit
is_complete_option (DomainOption i) rest = is_option_interval i
is_complete_option (RangeOption i) rest = is_option_interval i
is_complete_option NoErrorOption rest = stands_apart rest

abbrev pub are_complete_options : WrittenOptions → List ℕ → Bool
are_complete_options (NoOption blanks) rest = list_all is_blank_text_byte blanks
are_complete_options (NextOption blanks o os) rest =
    list_all is_blank_text_byte blanks && is_complete_option o (spelled_options os rest) && are_complete_options os rest

-- the text starts neither with another option nor with a blank
abbrev pub option_has_ended : List ℕ → Bool
option_has_ended rest =
    not
    (starts_with nat_eq rest (codes "units=")
    || starts_with nat_eq rest (codes "domain=")
    || starts_with nat_eq rest (codes "range=")
    || (starts_with nat_eq rest (codes "noerror") && stands_apart (drop 7 rest)))
    && begins_without_blank rest

-- the options in order, as a list
abbrev pub options_in_order : WrittenOptions → List WrittenOption
options_in_order (NoOption blanks) = []
options_in_order (NextOption blanks o os) = o ∷ options_in_order os

-- the meaning of each option for the function

abbrev pub units_of_option : WrittenOption → Option Units
units_of_option (UnitsOption in_unit out_unit) =
    Some (record { in_unit = trimmed_of_blanks in_unit; out_unit = trimmed_of_blanks out_unit })
units_of_option _ = None

abbrev pub domain_of_option : WrittenOption → Option Span
domain_of_option (DomainOption i) = option_interval_span i
domain_of_option _ = None

abbrev pub range_of_option : WrittenOption → Option Span
range_of_option (RangeOption i) = option_interval_span i
range_of_option _ = None

abbrev pub no_error_of_option : WrittenOption → Option Bool
no_error_of_option NoErrorOption = Some true
no_error_of_option _ = None

-- at most one value, as a list
abbrev pub option_as_list : {A : Type 0} → Option A → List A
option_as_list None = []
option_as_list (Some x) = x ∷ []

-- each option occurs at most once, and together they have this meaning
pub record AreStatedOptions (os : List WrittenOption) (o : Options) : Type 0 where
  pub units : filter_map units_of_option os ≡ option_as_list o.units
  pub domain : filter_map domain_of_option os ≡ option_as_list o.domain
  pub range : filter_map range_of_option os ≡ option_as_list o.range
  pub no_error : filter_map no_error_of_option os ≡ option_as_list (if o.no_error then Some true else None)

-- the text consists of options with this meaning and the rest
pub record AreOptions (text rest : List ℕ) (o : Options) : Type 0 where
  pub written_options : WrittenOptions
  pub spelled_text : text ≡ spelled_options written_options rest
  pub well_formed : are_complete_options written_options rest ≡ true
  pub ends_options : option_has_ended rest ≡ true
  pub statement_is : AreStatedOptions (options_in_order written_options) o

-- law: options are read if and only if they are written according to the grammar
abbrev pub OptionsLaw : Type 0
OptionsLaw = (text rest : List ℕ) (o : Options) → (options_at text ≡ Some (o, rest)) ↔ AreOptions text rest o

-- law: exchanging two options does not change their meaning
abbrev pub AnyOptionOrderLaw : Type 0
AnyOptionOrderLaw = (front : List WrittenOption) (x y : WrittenOption) (back : List WrittenOption) (o : Options)
    → AreStatedOptions (front ++ (x ∷ y ∷ back)) o → AreStatedOptions (front ++ (y ∷ x ∷ back)) o
