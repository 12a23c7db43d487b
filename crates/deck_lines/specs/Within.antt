-- Lists of lines within the limits of a deck.
use Rattle.std.specs.Prelude.{◌≡◌, ◌≤◌, ℕ, List, length, Bool}
use Rattle.def_lines.specs.declared.line.Line.{Line}
use Rattle.deck_lines.specs.Limits.{most_store_bytes, most_store_lines, stored_text_len}
use Rattle.deck_lines.specs.Marks.{store_lines_with_marks}

-- there are as many marks as lines, `bytes` is the total length of the texts, and the lines are within the limits
pub record IsWithinStoreLimit (lines : List Line) (marks : List Bool) (bytes : ℕ) : Type 0 where
  pub mark_count : length marks ≡ length lines
  pub byte_total : bytes ≡ stored_text_len (store_lines_with_marks lines marks)
  pub line_bound : length lines ≤ most_store_lines
  pub small : bytes ≤ most_store_bytes
