-- The state of a walk. Its pending mentions are a stack: the next one is the last.
use Rattle.std.specs.Prelude.{◌≡◌, ◌++◌, ◌∷◌, Bool, List, [], length, map, reverse, Contains, Option, Some, None}
use Rattle.expr_tree.specs.declared.word_list.WordUse.{WordUse}
use Rattle.deck.specs.Decks.{DeckContents}
use Rattle.deck.specs.Tables.{table_of_deck}
use Rattle.value_sources.specs.declared.row.Row.{Row as StoredRow}
use Rattle.value_sources.specs.declared.walk.Walk.{Walk}
use Rattle.value_sources.specs.Mentions.{Mention}
use Rattle.value_sources.specs.PlacedMentions.{IsMentionPlacedRight, PlacedMention}
use Rattle.value_sources.specs.Rows.{AreSourceRows, AreSourceRowsOf, SourceRow, first_mentions, visited_keys}
use Rattle.value_sources.specs.StoredMentions.{placed_mention_list, source_row_in}
use Rattle.value_sources.specs.Visits.{MarksVisitedKeys}

-- there is a mark for each line, and the marks are those of the keys that the rows visit
pub record AreVisitedKeysMarked (d : DeckContents) (marks : List Bool) (rows : List SourceRow) : Type 0 where
  pub mark_per_line : length marks ≡ length d.lines
  pub visits_marked : MarksVisitedKeys d marks (visited_keys rows)

-- the rows so far and those of the pending mentions are together the rows of the mentions at the start
pub record AreSourceRowsUnderway (d : DeckContents) (start : List Mention) (rows : List SourceRow)
    (pending : List PlacedMention) : Type 0 where
  pub rows_to_come : (rest : List SourceRow)
      → AreSourceRows (table_of_deck d) (visited_keys rows) (map (λ (p : PlacedMention). p.mention) (reverse pending))
      rest
      → AreSourceRows (table_of_deck d) [] start (rows ++ rest)
  pub sound : (p : PlacedMention) → Contains (reverse pending) p → IsMentionPlacedRight d p

-- a walk over the words of an expression, after these rows
pub record IsSourceWalk (d : DeckContents) (words : List WordUse) (rows : List SourceRow) (walk : Walk) : Type 0 where
  pub marked : AreVisitedKeysMarked d walk.marks.items rows
  pub underway : AreSourceRowsUnderway d (first_mentions (table_of_deck d) words) rows
      (placed_mention_list d walk.pending.items)

-- a walk after one more row, or the end of a walk, when the rows are all rows of the words
abbrev pub IsNextSourceRow : DeckContents → List WordUse → (rows : List SourceRow) → Walk → Option StoredRow → Type 0
IsNextSourceRow d words rows walk None = AreSourceRowsOf (table_of_deck d) words rows
IsNextSourceRow d words rows walk (Some r) = IsSourceWalk d words (rows ++ source_row_in d r ∷ []) walk
