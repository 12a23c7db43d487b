-- The origin of each line after an exchange.
use Rattle.std.specs.Prelude.{◌+◌, ◌++◌, ℕ, List, take, drop, Option, None, slice_get}
use Rattle.deck_lines.specs.declared.line.DeckLine.{DeckLine}
use Rattle.deck_lines.specs.declared.store.origins.Origin.{Origin}
use Rattle.deck_lines.specs.declared.store.origins.Origin.TheVariants.{Stored, Put, Past}

-- lines of which the `cut` lines from `at` on are replaced by `put`
abbrev pub exchanged_store_lines : ℕ → ℕ → List DeckLine → List DeckLine → List DeckLine
exchanged_store_lines at cut put lines = take at lines ++ (put ++ drop (at + cut) lines)

-- the line with this origin, given the lines before and the lines put
abbrev pub store_line_from_origin : List DeckLine → List DeckLine → Origin → Option DeckLine
store_line_from_origin lines put (Stored place) = slice_get lines place
store_line_from_origin lines put (Put place) = slice_get put place
store_line_from_origin lines put Past = None
