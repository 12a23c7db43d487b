-- The effects of calls on a live table.
use Rattle.std.specs.Prelude.{◌≡◌, ℕ, Bool, true, false, List, [], ◌∷◌, map, filter, Result, Ok, Err}
use Rattle.std.specs.declared.alloc.AllocError.{AllocError}
use Rattle.quantity.specs.Amount.{Amount}
use Rattle.def_entry.specs.declared.key.Key.{Key}
use Rattle.def_entry.specs.declared.key.Kind.{Kind}
use Rattle.def_entry.specs.declared.key.Kind.TheVariants as kind
use Rattle.def_entry.specs.SameKeys.{is_entry_key_among}
use Rattle.def_entry.specs.Tables.{EntryTable, is_entry_present}
use Rattle.deck.specs.KeyLists.{deck_table_keys}
use Rattle.deck.specs.Tables.{table_of_deck}
use Rattle.live_table.specs.declared.fault.QueryFault.{QueryFault}
use Rattle.live_table.specs.declared.fault.QueryFault.TheVariants.{OutOfMemory}
use Rattle.live_table.specs.TableView.{AreLiveEventsCutOff, IsAfterLiveEvents, LiveView}
use Rattle.live_table.specs.States.{AsksKey, Becomes, LiveEvent}

-- a query: it was answered, or cut off for lack of memory
abbrev pub IsLiveQuery : LiveEvent → Result Amount QueryFault → LiveView → LiveView → ℕ → ℕ → Type 0
IsLiveQuery event (Err OutOfMemory) before after old new = AreLiveEventsCutOff (event ∷ []) before after old new
IsLiveQuery event answer before after old new = IsAfterLiveEvents (event ∷ []) before after old new

-- several queries in turn, or they were cut off for lack of memory
abbrev pub AreLiveQueries : {A : Type 0} → List LiveEvent → Result A AllocError → LiveView → LiveView → ℕ → ℕ → Type 0
AreLiveQueries events (Ok _) before after old new = IsAfterLiveEvents events before after old new
AreLiveQueries events (Err _) before after old new = AreLiveEventsCutOff events before after old new

-- an accepted edit, which takes no step
abbrev pub IsAcceptedLiveEdit : LiveView → LiveView → Type 0
IsAcceptedLiveEdit before after = (steps : ℕ) → IsAfterLiveEvents (Becomes (table_of_deck after.deck) ∷ []) before after
    steps steps

-- the kind is a unit, a prefix or a function, not a list
abbrev pub is_settleable_kind : Kind → Bool
is_settleable_kind kind.List = false
is_settleable_kind _ = true

-- each of these keys has an entry
abbrev pub AreKeysPresentInLiveTable : EntryTable → List Key → Type 0
AreKeysPresentInLiveTable table keys = (k : Key) → is_entry_key_among keys k ≡ true → is_entry_present table k ≡ true

-- the units, prefixes and functions among some keys
abbrev pub settleable_names : List Key → List Key
settleable_names keys = filter (λ k. is_settleable_kind k.kind) keys

-- a query of each of the names among these keys
abbrev pub live_key_queries : List Key → List LiveEvent
live_key_queries keys = map AsksKey (settleable_names keys)

-- the names that have an entry, in byte order and then by kind
abbrev pub all_settleable_names : EntryTable → List Key
all_settleable_names table = settleable_names (deck_table_keys table)

-- a query of each name that has an entry
abbrev pub settle_all_queries : EntryTable → List LiveEvent
settle_all_queries table = live_key_queries (deck_table_keys table)
