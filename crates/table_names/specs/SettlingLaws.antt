-- The names that a walk over numbers settles.
use Rattle.std.specs.Prelude.{◌≡◌, ◌⊎◌, ◌↔◌, ℕ, Bool, true, false, List, [], ◌∷◌, map, Option, Contains}
use Rattle.std.specs.List.{IsDistinct}
use Rattle.expr_tree.specs.declared.word_list.WordUse.{WordUse}
use Rattle.def_entry.specs.declared.key.Key.{Key}
use Rattle.def_entry.specs.SameKeys.{is_same_entry_key}
use Rattle.def_entry.specs.Tables.{EntryTable}
use Rattle.name_walk.specs.declared.step.Step.{Step}
use Rattle.name_walk.specs.declared.step.Step.TheVariants.{To}
use Rattle.name_walk.specs.ClosedNames.{IsSettledInGraph}
use Rattle.name_walk.specs.NewlyClosed.{AreNewlyClosedByWalk}
use Rattle.name_walk.specs.Steps.{Graph}
use Rattle.table_names.specs.declared.fault.NameFault.{NameFault}
use Rattle.table_names.specs.ClosedKeys.{AreClosedWords, IsClosedKey}
use Rattle.table_names.specs.Leads.{TableNameReaches, TableWordsReach}
use Rattle.table_names.specs.NumberedNames.{AreNumbered, AreWords, LeadToKnownNumbers}

-- a known number is marked exactly if its key is settled
abbrev pub AreNumberedNameMarks : (ℕ → Key) → (ℕ → Bool) → List Bool → (Key → Bool) → Type 0
AreNumberedNameMarks key known marks settled = (n : ℕ) → known n ≡ true
    → IsSettledInGraph marks n ↔ (settled (key n) ≡ true)

-- `keys` are those of the `Asked` keys that are not settled, each once
pub record AreNewNumberedKeys (settled : Key → Bool) (Asked : Key → Type 0) (keys : List Key) : Type 0 where
  pub unsettled_keys : (n : Key) → Contains keys n ↔ (Asked n × (settled n ≡ false))
  pub keys_listed_once : IsDistinct is_same_entry_key keys

-- law: if a query has no name fault, the numbers that a walk newly closes are those of the keys that the query reaches
-- and that are not settled, each once
pub record NumberedNameSettlingLaw : Type 0 where
  pub words : (table : EntryTable) (key : ℕ → Key) (dead_end : ℕ → Option Key → NameFault) (g : Graph)
      (known : ℕ → Bool)
      (marks : List Bool) (settled : Key → Bool)
      → AreNumbered table key dead_end g known → AreNumberedNameMarks key known marks settled
      → (us : List WordUse) (xs : List Step) (order : List ℕ)
      → AreWords table key dead_end us xs → LeadToKnownNumbers known xs → AreClosedWords table us
      → AreNewlyClosedByWalk g marks xs order
      → AreNewNumberedKeys settled (TableWordsReach table us) (map key order)
  pub key : (table : EntryTable) (key : ℕ → Key) (dead_end : ℕ → Option Key → NameFault) (g : Graph) (known : ℕ → Bool)
      (marks : List Bool) (settled : Key → Bool)
      → AreNumbered table key dead_end g known → AreNumberedNameMarks key known marks settled
      → (n : ℕ) (order : List ℕ) → known n ≡ true → IsClosedKey table (key n)
      → AreNewlyClosedByWalk g marks (To n ∷ []) order
      → AreNewNumberedKeys settled (λ m. (m ≡ key n) ⊎ TableNameReaches table (key n) m) (map key order)
