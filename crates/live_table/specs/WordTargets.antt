-- The targets of a word and the keys at which it looks, by number.
use Rattle.std.specs.Prelude.{◌≡◌, ◌⊎◌, ◌↔◌, ◌<◌, ℕ, true, false, List, [], ◌∷◌, length, map, Contains, Option, Some}
use Rattle.std.specs.Prelude.{Bool, None}
use Rattle.expr_tree.specs.declared.word_list.WordUse.{WordUse}
use Rattle.expr_tree.specs.Names.{is_refused}
use Rattle.def_entry.specs.declared.key.Key.{Key}
use Rattle.def_entry.specs.Tables.{EntryTable}
use Rattle.name_walk.specs.declared.step.Step.TheVariants.{To}
use Rattle.table_names.specs.Leads.{table_word_looked_keys, table_word_targets}
use Rattle.live_table.specs.declared.word_targets.Destination.{Destination}
use Rattle.live_table.specs.declared.word_targets.Destination.TheVariants.{Refused, Nowhere, One, Two}
use Rattle.live_table.specs.declared.word_steps.WordSteps.{WordSteps}
use Rattle.live_table.specs.TableContents.{node_key_at}

-- the numbers of the targets
abbrev pub destination_node_numbers : Destination → List ℕ
destination_node_numbers Refused = []
destination_node_numbers Nowhere = []
destination_node_numbers (One n) = n ∷ []
destination_node_numbers (Two n m) = n ∷ m ∷ []

-- the destination is a refused name
abbrev pub is_refused_node_destination : Destination → Bool
is_refused_node_destination Refused = true
is_refused_node_destination destination = false

-- the steps to the targets: twice to the only one, or to the prefix and to the unit
abbrev pub node_steps_of_destination : Destination → Option WordSteps
node_steps_of_destination (One n) = Some (record { first = To n; second = To n })
node_steps_of_destination (Two n m) = Some (record { first = To n; second = To m })
node_steps_of_destination destination = None

-- these are the numbers of the targets of a word, and those of the other keys at which it looks are added
pub record AreNodeTargets (table : EntryTable) (keys : List Key) (u : WordUse) (ns old new : List ℕ) : Type 0 where
  pub targets : table_word_targets table u ≡ map (node_key_at keys) ns
  pub targets_in_table : (m : ℕ) → Contains ns m → m < length keys
  pub own_numbers : List ℕ
  pub looks_merged : (m : ℕ) → Contains new m ↔ (Contains old m ⊎ Contains own_numbers m)
  pub own_in_table : (m : ℕ) → Contains own_numbers m → m < length keys
  pub word_looks : (k : Key) → Contains (table_word_looked_keys table u) k ↔
      ((m : ℕ) × (Contains ns m ⊎ Contains own_numbers m) × (k ≡ node_key_at keys m))

-- these keys have numbers, and their numbers are gathered
pub record AreNodeNumbersGathered (keys others : List Key) (old new : List ℕ) : Type 0 where
  pub own_numbers : List ℕ
  pub numbers_are : others ≡ map (node_key_at keys) own_numbers
  pub own_in_table : (m : ℕ) → Contains own_numbers m → m < length keys
  pub looks_merged : (m : ℕ) → Contains new m ↔ (Contains old m ⊎ Contains own_numbers m)

-- a word leads to these keys, by number
abbrev pub LeadsToNodeKeys : (keys targets : List Key) → Destination → Type 0
LeadsToNodeKeys keys targets Refused = ⊥
LeadsToNodeKeys keys targets destination = (targets ≡ map (node_key_at keys) (destination_node_numbers destination))
    × ((m : ℕ) → Contains (destination_node_numbers destination) m → m < length keys)

-- a word of a query is a refused name, or these are the numbers of its targets
abbrev pub IsLiveQueryDestination : EntryTable → List Key → WordUse → Destination → Type 0
IsLiveQueryDestination table keys u Refused = is_refused u.text ≡ true
IsLiveQueryDestination table keys u destination =
    (is_refused u.text ≡ false) × (table_word_targets table u
    ≡ map (node_key_at keys) (destination_node_numbers destination))
    × ((m : ℕ) → Contains (destination_node_numbers destination) m → m < length keys)

-- a word of an entry is a refused name, or has no targets, or these are their numbers, and the other keys that its
-- lookup tries are gathered
abbrev pub IsNodeDestination : EntryTable → List Key → WordUse → List ℕ → List ℕ → Destination → Type 0
IsNodeDestination table keys u old new Refused = is_refused u.text ≡ true
IsNodeDestination table keys u old new Nowhere = (is_refused u.text ≡ false) × (table_word_targets table u ≡ [])
IsNodeDestination table keys u old new destination = (is_refused u.text ≡ false) × AreNodeTargets table keys u
    (destination_node_numbers destination) old new
