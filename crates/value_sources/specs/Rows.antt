-- The rows of the tree below an expression: the words that evaluation encounters, in its order, each entry once.
use Rattle.std.specs.Prelude.{◌≡◌, ◌+◌, ◌++◌, Bool, true, false, List, [], ◌∷◌, filter_map, Option, Some, None}
use Rattle.std.specs.Prelude.{if◌then◌else◌}
use Rattle.expr_tree.specs.declared.word_list.WordUse.{WordUse}
use Rattle.def_entry.specs.declared.key.Key.{Key}
use Rattle.def_entry.specs.SameKeys.{is_entry_key_among}
use Rattle.def_entry.specs.Tables.{EntryTable}
use Rattle.value_sources.specs.declared.site.Site.TheVariants.{Expression}
use Rattle.value_sources.specs.Mentions.{Mention, mentions}
use Rattle.value_sources.specs.Uses.{key_source_uses, source_uses_at}

-- a mention, and whether it is the first one of its key, so that the rows of the entry of the key follow
pub record SourceRow : Type 0 where
  pub mention : Mention
  pub is_visit : Bool

abbrev pub skipped_source_row : Mention → SourceRow
skipped_source_row m = record { mention = m; is_visit = false }

abbrev pub visited_source_row : Mention → SourceRow
visited_source_row m = record { mention = m; is_visit = true }

-- no key is visited: there is none, or it was visited before
abbrev pub is_key_visit_skipped : (before : List Key) → Option Key → Bool
is_key_visit_skipped before None = true
is_key_visit_skipped before (Some n) = is_entry_key_among before n

-- the rows of pending mentions, in order, if the keys `before` were visited already. A key that was not visited is
-- visited at once: the mentions of its entry come before the pending ones
pub data AreSourceRows (table : EntryTable) : (before : List Key) → (pending : List Mention) → List SourceRow
    → Type 0 where
  Finished : {before : List Key} → AreSourceRows table before [] []
  Skipped : {before : List Key} {m : Mention} {pending : List Mention} {rows : List SourceRow}
      → is_key_visit_skipped before m.target ≡ true
      → AreSourceRows table before pending rows → AreSourceRows table before (m ∷ pending) (skipped_source_row m ∷ rows)
  Visited : {before : List Key} {m : Mention} {n : Key} {pending : List Mention} {rows : List SourceRow}
      → m.target ≡ Some n → is_entry_key_among before n ≡ false
      → AreSourceRows table (before ++ n ∷ []) (mentions table (m.depth + 1) (key_source_uses table n) ++ pending) rows
      → AreSourceRows table before (m ∷ pending) (visited_source_row m ∷ rows)

-- the mentions of the words of an expression
abbrev pub first_mentions : EntryTable → List WordUse → List Mention
first_mentions table words = mentions table 0 (source_uses_at Expression words)

-- the rows of the words of an expression, when no key was visited before
abbrev pub AreSourceRowsOf : EntryTable → List WordUse → List SourceRow → Type 0
AreSourceRowsOf table words rows = AreSourceRows table [] (first_mentions table words) rows

-- the key that a row visits
abbrev pub visited_key : SourceRow → Option Key
visited_key r = if r.is_visit then r.mention.target else None

-- the keys that rows visit, in order
abbrev pub visited_keys : List SourceRow → List Key
visited_keys rows = filter_map visited_key rows
