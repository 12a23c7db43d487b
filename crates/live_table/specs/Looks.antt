-- The keys at which words look, by number.
use Rattle.std.specs.Prelude.{◌≡◌, ◌⊎◌, ◌↔◌, ◌<◌, ℕ, List, length, Contains}
use Rattle.expr_tree.specs.declared.word_list.WordUse.{WordUse}
use Rattle.def_entry.specs.declared.key.Key.{Key}
use Rattle.def_entry.specs.Tables.{EntryTable}
use Rattle.name_walk.specs.declared.step.Step.{Step}
use Rattle.name_walk.specs.declared.step.Step.TheVariants.{Nowhere, To}
use Rattle.table_names.specs.Leads.{table_word_looked_keys}
use Rattle.live_table.specs.TableContents.{node_key_at}

-- one of the words looks at the key
abbrev pub NodeWordsLookAt : EntryTable → List WordUse → Key → Type 0
NodeWordsLookAt table us k = (u : WordUse) × Contains us u × Contains (table_word_looked_keys table u) k

-- the key is that of a target of these steps, or of one of these numbers
abbrev pub IsSeenFromNode : List Key → List Step → List ℕ → Key → Type 0
IsSeenFromNode keys xs ns k = (m : ℕ) × (Contains xs (To m) ⊎ Contains ns m) × (k ≡ node_key_at keys m)

-- the keys at which words look are those of the targets of their steps and those of these numbers
pub record AreNodeLooks (table : EntryTable) (keys : List Key) (us : List WordUse) (xs : List Step) (ns : List ℕ) : Type
    0 where
  pub seen_in_table : (m : ℕ) → Contains ns m → m < length keys
  pub words_look : (k : Key) → NodeWordsLookAt table us k ↔ IsSeenFromNode keys xs ns k

-- one more word adds its own looks
pub record AreNodeLooksAdded (table : EntryTable) (keys : List Key) (u : WordUse) (xs : List Step)
    (old new : List ℕ) : Type 0
  where
    pub own_numbers : List ℕ
    pub looks_merged : (m : ℕ) → Contains new m ↔ (Contains old m ⊎ Contains own_numbers m)
    pub own_in_table : (m : ℕ) → Contains own_numbers m → m < length keys
    pub words_look : (k : Key) → Contains (table_word_looked_keys table u) k ↔ IsSeenFromNode keys xs own_numbers k

-- each of the steps leads somewhere
abbrev pub AllNodeStepsLead : List Step → Type 0
AllNodeStepsLead xs = (t : ℕ) → Contains xs (Nowhere t) → ⊥
