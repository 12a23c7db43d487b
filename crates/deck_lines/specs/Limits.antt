-- The limits of a deck.
use Rattle.std.specs.Prelude.{◌||◌, ℕ, List, Bool, length, nat_lt}
use Rattle.std.specs.List.{sum_by}
use Rattle.def_lines.specs.declared.line.Line.{Line}
use Rattle.deck_lines.specs.declared.line.DeckLine.{DeckLine}

abbrev pub most_store_lines : ℕ
most_store_lines = 100000

abbrev pub most_store_bytes : ℕ
most_store_bytes = 67108864

-- the total number of bytes in the texts of lines
abbrev pub stored_text_len : List DeckLine → ℕ
stored_text_len lines = sum_by (λ line. length line.text) lines

-- the total number of bytes in the texts of lines without marks
abbrev pub stored_bytes_in : List Line → ℕ
stored_bytes_in lines = sum_by (λ line. length line.text) lines

-- the lines pass a limit
unfoldable pub pass_store_limit : List DeckLine → Bool
pass_store_limit lines = nat_lt most_store_lines (length lines) || nat_lt most_store_bytes (stored_text_len lines)
