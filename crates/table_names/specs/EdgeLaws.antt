-- The relation of edges between numbers to the names of a table.
use Rattle.std.specs.Prelude.{◌≡◌, ◌⊎◌, ◌↔◌, ◌<◌, ℕ, Bool, true, List, Contains}
use Rattle.def_entry.specs.declared.key.Key.{Key}
use Rattle.def_entry.specs.Tables.{EntryTable}
use Rattle.edge_links.specs.Reach.{HasLinkEdge}
use Rattle.edge_links.specs.AffectedNames.{AreAffectedByEdges}
use Rattle.edge_links.specs.NameGraphs.{NameEdgeGraph}
use Rattle.table_names.specs.AffectedKeys.{IsAffectedTableName}
use Rattle.table_names.specs.Leads.{TableNameLooksAt, TableWordsLeadTo}
use Rattle.table_names.specs.Words.{table_words_of_key}

-- each settled number has an edge to each name that its words lead to, and to each other key that they look at; a
-- number that is not settled has no edge
pub record AreNumberedNameEdges (table : EntryTable) (key : ℕ → Key) (size : ℕ) (settled : ℕ → Bool)
    (g : NameEdgeGraph) : Type 0 where
  pub settled_in_range : (n : ℕ) → settled n ≡ true → n < size
  pub used_settled : (n m : ℕ) → HasLinkEdge g.uses n m → (settled n ≡ true) × (settled m ≡ true)
  pub beside : (n m : ℕ) → HasLinkEdge g.looks n m → (settled n ≡ true) × (m < size)
  pub use_edges : (n : ℕ) → settled n ≡ true → (k : Key)
      → TableWordsLeadTo table (table_words_of_key table (key n)) k ↔ ((m : ℕ) × HasLinkEdge g.uses n m × (k ≡ key m))
  pub look_edges : (n : ℕ) → settled n ≡ true → (k : Key)
      → TableNameLooksAt table (key n) k ↔ ((m : ℕ) × (HasLinkEdge g.uses n m ⊎ HasLinkEdge g.looks n m) × (k ≡ key m))

-- `numbers` are the numbers of those keys that have one
pub record AreNumbersOfNames (key : ℕ → Key) (size : ℕ) (keys : List Key) (numbers : List ℕ) : Type 0 where
  pub of_keys : (m : ℕ) → Contains numbers m → Contains keys (key m)
  pub every : (m : ℕ) → m < size → Contains keys (key m) → Contains numbers m

-- law: a change of these keys affects a settled name by its edges exactly if it affects the name by its words
abbrev pub AffectedNumberedNamesLaw : Type 0
AffectedNumberedNamesLaw = (table : EntryTable) (key : ℕ → Key) (size : ℕ) (settled : ℕ → Bool) (g : NameEdgeGraph)
    → AreNumberedNameEdges table key size settled g → (keys : List Key) (numbers : List ℕ)
    → AreNumbersOfNames key size keys numbers
    → (n : ℕ) → settled n ≡ true → AreAffectedByEdges g numbers n ↔ IsAffectedTableName table keys (key n)
