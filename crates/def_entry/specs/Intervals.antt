-- Intervals: `[` or `(`, an optional bound, `,`, an optional bound, and `]` or `)`.
use Rattle.std.specs.Prelude.{◌==◌, ◌||◌, ◌+◌, ℕ, List, [], ◌∷◌, Bool, true, false, take, drop, if◌then◌else◌, Option}
use Rattle.std.specs.Prelude.{Some, None, option_map}
use Rattle.std.specs.List.{position, slice_index}
use Rattle.def_lines.specs.Blanks.{trimmed_of_blanks}
use Rattle.frac128.specs.Fraction.{Fraction}
use Rattle.def_entry.specs.declared.entry.Bound.{Bound}
use Rattle.def_entry.specs.declared.entry.Span.{Span}
use Rattle.def_entry.specs.Cuts.{cut_at}
use Rattle.def_entry.specs.Marks.{entry_close_bracket, entry_close_paren, entry_comma, entry_open_bracket}
use Rattle.def_entry.specs.Marks.{entry_open_paren}
use Rattle.def_entry.specs.Numbers.{entry_text_number}
use Rattle.def_entry.specs.Steps.{◌>>=◌}

-- whether the bracket at the front is `[`, and the text after it
abbrev pub option_opening_bracket : List ℕ → Option (Bool × List ℕ)
option_opening_bracket [] = None
option_opening_bracket (b ∷ text) =
    if b == entry_open_bracket then Some (true, text) else (if b == entry_open_paren then Some (false, text) else None)

-- the byte is `]` or `)`
abbrev pub is_closing : ℕ → Bool
is_closing b = b == entry_close_bracket || b == entry_close_paren

-- the text before the first `]` or `)`, whether that bracket is `]`, and the text after it
abbrev pub option_closing_bracket : List ℕ → Option (List ℕ × Bool × List ℕ)
option_closing_bracket text =
    option_map
    (λ n. (take n text, slice_index text n == entry_close_bracket, drop (n + 1) text))
    (position is_closing text)

-- a bound at this number
abbrev pub option_bound : Bool → Fraction → Bound
option_bound is_in x = record { at = x; closed = is_in }

-- a bound, which is absent if the text is empty; there is no result if the text is neither empty nor a number
abbrev pub bound_in : Bool → List ℕ → Option (Option Bound)
bound_in is_in [] = Some None
bound_in is_in (b ∷ text) = option_map (λ x. Some (option_bound is_in x)) (entry_text_number (b ∷ text))

-- the interval at the front, and the text after it
unfoldable pub interval_at : List ℕ → Option (Span × List ℕ)
interval_at text = do
  front ← option_opening_bracket text
  parts ← cut_at entry_comma front.1
  back ← option_closing_bracket parts.1
  low ← bound_in front.0 (trimmed_of_blanks parts.0)
  high ← bound_in back.1 (trimmed_of_blanks back.0)
  Some (record { low = low; high = high }, back.2)
