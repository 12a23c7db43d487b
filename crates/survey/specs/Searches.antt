-- The report of a search.
use Rattle.std.specs.Prelude.{ℕ, List}
use Rattle.std.specs.List.{filter, flat_map}
use Rattle.def_entry.specs.declared.key.Key.{Key}
use Rattle.def_entry.specs.Tables.{EntryTable}
use Rattle.deck.specs.SubstringKeys.{has_substring}
use Rattle.deck.specs.KeyLists.{deck_table_keys}
use Rattle.survey.specs.Rows.{search_hit_row_of_key, search_hit_rows_or_none}

module _ (table : EntryTable) (text : List ℕ) where
  -- the rows of those keys whose names contain the text
  abbrev pub search_among : List Key → List ℕ
  search_among keys = search_hit_rows_or_none
      (flat_map (search_hit_row_of_key table) (filter (λ k. has_substring k.name text) keys))

  -- the rows of all keys whose names contain the text; a search makes no query
  abbrev pub search_report : List ℕ
  search_report = search_among (deck_table_keys table)
