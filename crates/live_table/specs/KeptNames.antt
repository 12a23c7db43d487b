-- The names and outcomes that are stored after queries and edits.
use Rattle.std.specs.Prelude.{◌≡◌, ◌⊎◌, ◌↔◌, List, [], ◌∷◌, Some}
use Rattle.std.specs.FinMap as map_of
use Rattle.def_entry.specs.declared.key.Key.{Key}
use Rattle.def_entry.specs.Tables.{EntryTable}
use Rattle.deck.specs.Changes.{keys_changed_by_edit}
use Rattle.table_names.specs.AffectedKeys.{IsAffectedTableName}
use Rattle.table_names.specs.ClosedKeys.{AreClosedWords, IsClosedKey}
use Rattle.table_names.specs.Leads.{TableNameReaches, TableWordsReach}
use Rattle.table_names.specs.Meanings.{outcome}
use Rattle.tree_eval.specs.declared.outcome.Outcome.{Outcome}
use Rattle.live_table.specs.Right.{IsKeySettled, IsRightLiveState}
use Rattle.live_table.specs.States.{ArePossibleLiveEvents, AsksKey, AsksWords, Becomes, LiveEvent, LiveState}
use Rattle.live_table.specs.States.{live_state_after_all}

-- the table after an event
abbrev pub live_event_table : LiveEvent → EntryTable → EntryTable
live_event_table (Becomes later) table = later
live_event_table (AsksWords words) table = table
live_event_table (AsksKey k) table = table

-- a query without a name fault adds the names that it reaches, and an edit removes the names that it affects
abbrev pub IsNameCachedBy : LiveEvent → EntryTable → (Key → Type 0) → Key → Type 0
IsNameCachedBy (AsksWords words) table Kept n = Kept n ⊎ (AreClosedWords table words × TableWordsReach table words n)
IsNameCachedBy (AsksKey k) table Kept n = Kept n ⊎ (IsClosedKey table k × ((n ≡ k) ⊎ TableNameReaches table k n))
IsNameCachedBy (Becomes later) table Kept n =
    Kept n × (IsAffectedTableName table (keys_changed_by_edit table later) n → ⊥)

-- events in turn, from a table in which some names are stored
abbrev pub IsNameCachedByAll : List LiveEvent → EntryTable → (Key → Type 0) → Key → Type 0
IsNameCachedByAll [] table Kept = Kept
IsNameCachedByAll (e ∷ es) table Kept = IsNameCachedByAll es (live_event_table e table) (IsNameCachedBy e table Kept)

-- after these events exactly those names are stored, each with its outcome in the present table
pub record AreCachedAfter (es : List LiveEvent) (s : LiveState) : Type 0 where
  pub names : (n : Key) → IsKeySettled (live_state_after_all es s) n ↔ IsNameCachedByAll es s.table (IsKeySettled s) n
  pub outcomes : (n : Key) (o : Outcome) → map_of.get (live_state_after_all es s).kept_outcomes n ≡ Some o
      → o ≡ outcome (live_state_after_all es s).table n

-- law: `AreCachedAfter` holds after any queries and edits
abbrev pub CachedAfterEventsLaw : Type 0
CachedAfterEventsLaw = (es : List LiveEvent) (s : LiveState) → ArePossibleLiveEvents es s → IsRightLiveState s
    → AreCachedAfter es s
