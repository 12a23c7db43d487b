-- The rows of reports.
use Rattle.std.specs.Prelude.{◌++◌, ℕ, List, [], ◌∷◌, codes, Option, Some, None}
use Rattle.def_entry.specs.declared.key.Key.{Key}
use Rattle.def_entry.specs.Entries.{Entry}
use Rattle.def_entry.specs.Keys.{key_text}
use Rattle.def_entry.specs.Tables.{EntryTable, entry_at}

-- a row: a tab, a name, a tab and a text
abbrev pub search_hit_row : (name text : List ℕ) → List ℕ
search_hit_row name text = (((codes "\t" ++ name) ++ codes "\t") ++ text) ++ codes "\n"

-- the row of an entry, if there is one
abbrev pub search_hit_row_of_entry : (name : List ℕ) → Option Entry → List ℕ
search_hit_row_of_entry name None = []
search_hit_row_of_entry name (Some e) = search_hit_row name e.text

-- the row of a key, if it has an entry: the key in its written form, and the text of its entry
abbrev pub search_hit_row_of_key : EntryTable → Key → List ℕ
search_hit_row_of_key table k = search_hit_row_of_entry (key_text k) (entry_at table k)

-- the rows, or a line that says that there are none
abbrev pub search_hit_rows_or_none : List ℕ → List ℕ
search_hit_rows_or_none [] = codes "no matching names\n"
search_hit_rows_or_none (b ∷ bytes) = b ∷ bytes
