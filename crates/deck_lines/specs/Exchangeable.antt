-- When lines may be replaced by others.
use Rattle.std.specs.Prelude.{◌≡◌, ◌≤◌, ◌+◌, ℕ, List, length, false}
use Rattle.deck_lines.specs.ClosedBlocks.{AreBlocksClosed}
use Rattle.deck_lines.specs.Limits.{pass_store_limit}
use Rattle.deck_lines.specs.Origins.{exchanged_store_lines}
use Rattle.deck_lines.specs.declared.line.DeckLine.{DeckLine}

-- there are `cut` lines from `at` on, and the resulting lines are closed and within the limits
pub record CanExchangeStoredLines (at cut : ℕ) (put lines : List DeckLine) : Type 0 where
  pub range_within : at + cut ≤ length lines
  pub blocks_closed_after : AreBlocksClosed (exchanged_store_lines at cut put lines)
  pub within_limit : pass_store_limit (exchanged_store_lines at cut put lines) ≡ false
