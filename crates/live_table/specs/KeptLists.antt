-- The stored names as a list, which can be computed for a given table.
use Rattle.std.specs.Prelude.{◌↔◌, not, List, [], ◌∷◌, ◌++◌, Contains, is_none, if◌then◌else◌}
use Rattle.std.specs.List.{filter}
use Rattle.def_entry.specs.declared.key.Key.{Key}
use Rattle.def_entry.specs.Tables.{EntryTable}
use Rattle.table_names.specs.AffectedKeys.{is_affected_table_name}
use Rattle.table_names.specs.Faults.{key_fault, name_fault}
use Rattle.table_names.specs.Reach.{key_reach, reach}
use Rattle.deck.specs.Changes.{keys_changed_by_edit}
use Rattle.live_table.specs.KeptNames.{live_event_table}
use Rattle.live_table.specs.Right.{IsKeySettled, IsRightLiveState}
use Rattle.live_table.specs.States.{ArePossibleLiveEvents, AsksKey, AsksWords, Becomes, LiveEvent, LiveState}
use Rattle.live_table.specs.States.{live_state_after_all}

-- a query without a name fault adds the names that it reaches, and an edit removes the names that it affects
abbrev pub cached_names_by_event : LiveEvent → EntryTable → List Key → List Key
cached_names_by_event (AsksWords words) table keys = if is_none (name_fault table words) then keys ++ reach table words
    else keys
cached_names_by_event (AsksKey k) table keys = if is_none (key_fault table k) then keys ++ k ∷ key_reach table k else
    keys
cached_names_by_event (Becomes later) table keys =
    filter (λ n. not (is_affected_table_name table (keys_changed_by_edit table later) n)) keys

-- the list after events in turn
abbrev pub cached_names_by_events : List LiveEvent → EntryTable → List Key → List Key
cached_names_by_events [] table keys = keys
cached_names_by_events (e ∷ es) table keys = cached_names_by_events es (live_event_table e table)
    (cached_names_by_event e table keys)

-- law: if the list holds the settled names before some events, it holds them after the events too
abbrev pub CachedListLaw : Type 0
CachedListLaw = (es : List LiveEvent) (s : LiveState) (keys : List Key) → ArePossibleLiveEvents es s
    → IsRightLiveState s
    → ((n : Key) → Contains keys n ↔ IsKeySettled s n)
    → (n : Key) → Contains (cached_names_by_events es s.table keys) n ↔ IsKeySettled (live_state_after_all es s) n
