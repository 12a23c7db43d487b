-- The names that queries settle, and those that edits forget.
use Rattle.std.specs.Prelude.{◌≡◌, ⊤, true, ℕ, ◌+◌, ◌-◌, ◌^◌, min, not, Bool, List, [], ◌∷◌, ◌++◌, if◌then◌else◌}
use Rattle.std.specs.FinMap as map_of
use Rattle.std.specs.Option.{is_none}
use Rattle.expr_tree.specs.declared.word_list.WordUse.{WordUse}
use Rattle.def_entry.specs.declared.key.Key.{Key}
use Rattle.def_entry.specs.KeyOrder.{key_cmp}
use Rattle.def_entry.specs.Tables.{EntryTable, is_entry_present}
use Rattle.tree_eval.specs.declared.outcome.Outcome.{Outcome}
use Rattle.table_names.specs.AffectedKeys.{is_affected_table_name}
use Rattle.table_names.specs.Edits.{AreKeysOfChangedEntries}
use Rattle.table_names.specs.Faults.{key_fault, name_fault}
use Rattle.table_names.specs.Meanings.{outcome}
use Rattle.table_names.specs.Reach.{key_reach, reach}
use Rattle.deck.specs.Changes.{keys_changed_by_edit}

-- the settled names with their stored outcomes
abbrev pub CachedOutcomes : Type 0
CachedOutcomes = map_of.FinMap key_cmp Outcome

-- a table with the outcomes stored over it and the counts: names newly settled, up to 2^64 - 1, and steps
pub record LiveState : Type 0 where
  pub table : EntryTable
  pub kept_outcomes : CachedOutcomes
  pub reductions : ℕ
  pub steps : ℕ

-- a query of the words of an expression, a query of a key, or an accepted edit to another table
pub data LiveEvent : Type 0 where
  AsksWords : List WordUse → LiveEvent
  AsksKey : Key → LiveEvent
  Becomes : EntryTable → LiveEvent

-- the outcome of each of these keys is stored too
abbrev pub with_cached_outcomes : EntryTable → List Key → CachedOutcomes → CachedOutcomes
with_cached_outcomes table [] kept = kept
with_cached_outcomes table (k ∷ keys) kept = with_cached_outcomes table keys (map_of.insert kept k (outcome table k))

-- these names are settled too; each new one is counted once
abbrev pub with_settled : List Key → LiveState → LiveState
with_settled keys s =
    let kept = with_cached_outcomes s.table keys s.kept_outcomes in
    let new = map_of.len kept - map_of.len s.kept_outcomes in
    record s { kept_outcomes = kept; reductions = min (2 ^ 64 - 1) (s.reductions + new); steps = s.steps + new }

-- a query without a name fault settles the names that it reaches; one with a name fault settles nothing
abbrev pub live_state_after_query : Bool → List Key → LiveState → LiveState
live_state_after_query closed keys s = if closed then with_settled keys s else s

-- an edit forgets the names that it affects, and leaves the others unchanged
abbrev pub live_state_after_edit : EntryTable → List Key → LiveState → LiveState
live_state_after_edit table keys s =
    record s {
      table = table;
      kept_outcomes = map_of.retain_keys s.kept_outcomes (λ n. not (is_affected_table_name s.table keys n));
    }

abbrev pub live_state_after_event : LiveEvent → LiveState → LiveState
live_state_after_event (AsksWords words) s = live_state_after_query (is_none (name_fault s.table words))
    (reach s.table words) s
live_state_after_event (AsksKey n) s = live_state_after_query (is_none (key_fault s.table n)) (n ∷ key_reach s.table n)
    s
live_state_after_event (Becomes table) s = live_state_after_edit table (keys_changed_by_edit s.table table) s

-- the state after events in turn
abbrev pub live_state_after_all : List LiveEvent → LiveState → LiveState
live_state_after_all [] s = s
live_state_after_all (e ∷ es) s = live_state_after_all es (live_state_after_event e s)

-- a possible event: a queried key has an entry, and the keys that differ between two tables are those whose texts
-- differ
abbrev pub IsPossibleLiveEvent : LiveEvent → LiveState → Type 0
IsPossibleLiveEvent (AsksWords words) s = ⊤
IsPossibleLiveEvent (AsksKey n) s = is_entry_present s.table n ≡ true
IsPossibleLiveEvent (Becomes table) s = AreKeysOfChangedEntries s.table table (keys_changed_by_edit s.table table)

abbrev pub ArePossibleLiveEvents : List LiveEvent → LiveState → Type 0
ArePossibleLiveEvents [] s = ⊤
ArePossibleLiveEvents (e ∷ es) s = IsPossibleLiveEvent e s × ArePossibleLiveEvents es (live_state_after_event e s)

-- law: the state after concatenated events is that after the first ones and then the others
abbrev pub LiveEventOrderLaw : Type 0
LiveEventOrderLaw = (es fs : List LiveEvent) (s : LiveState) → live_state_after_all (es ++ fs) s ≡ live_state_after_all
    fs (live_state_after_all es s)
