-- Numbered names of a table: when the steps between numbers agree with the words of names.
use Rattle.std.specs.Prelude.{◌≡◌, ◌<◌, ⊤, ℕ, Bool, true, false, List, [], ◌∷◌, map, length, Option, option_map}
use Rattle.std.specs.Prelude.{Contains}
use Rattle.expr_tree.specs.declared.word_list.WordUse.{WordUse}
use Rattle.expr_tree.specs.Names.{is_refused}
use Rattle.def_entry.specs.declared.key.Key.{Key}
use Rattle.def_entry.specs.Tables.{EntryTable, is_entry_present}
use Rattle.name_walk.specs.declared.step.Step.{Step}
use Rattle.name_walk.specs.declared.step.Step.TheVariants.{Nowhere, To}
use Rattle.name_walk.specs.Faults as walk
use Rattle.name_walk.specs.Steps.{Graph, GraphLeadsTo, graph_steps}
use Rattle.table_names.specs.declared.fault.NameFault.{NameFault}
use Rattle.table_names.specs.declared.fault.NameFault.TheVariants.{Unknown, Refused, Cycle}
use Rattle.table_names.specs.Leads.{table_word_targets}
use Rattle.table_names.specs.Words.{table_words_of_key}

-- key: the key of each number; dead_end: the fault of each word that leads nowhere, given the key whose entry includes
-- the word
module _ (table : EntryTable) (key : ℕ → Key) (dead_end : ℕ → Option Key → NameFault) where
  -- the name fault for a fault of numbers
  abbrev pub fault_by_name : walk.NameFault → NameFault
  fault_by_name (walk.DeadEnd t holder) = dead_end t (option_map key holder)
  fault_by_name (walk.Cycle names) = Cycle (map key names)

  -- A word has two steps, so that the steps of the word at a place are at twice that place: two steps to its one
  -- target, one to its prefix and one to its unit, or two steps nowhere.
  pub data IsWord (u : WordUse) : Step → Step → Type 0 where
    ForRefused : (t : ℕ) → is_refused u.text ≡ true
        → ((holder : Option Key) → dead_end t holder ≡ Refused u.text holder) → IsWord u (Nowhere t) (Nowhere t)
    ForUnknown : (t : ℕ) → is_refused u.text ≡ false → table_word_targets table u ≡ []
        → ((holder : Option Key) → dead_end t holder ≡ Unknown u.text holder) → IsWord u (Nowhere t) (Nowhere t)
    ForOne : (n : ℕ) → is_refused u.text ≡ false → table_word_targets table u ≡ key n ∷ [] → IsWord u (To n) (To n)
    ForTwo : (n m : ℕ) → is_refused u.text ≡ false → table_word_targets table u ≡ key n ∷ key m ∷ []
        → IsWord u (To n) (To m)

  -- the steps of words, one word after another
  abbrev pub AreWords : List WordUse → List Step → Type 0
  AreWords [] [] = ⊤
  AreWords (u ∷ us) (x ∷ y ∷ xs) = IsWord u x y × AreWords us xs
  AreWords _ _ = ⊥

  -- known numbers lead only to known numbers, their keys have entries and are distinct, and their steps are those of
  -- the words of their keys
  pub record AreNumbered (g : Graph) (known : ℕ → Bool) : Type 0 where
    pub known_in_range : (n : ℕ) → known n ≡ true → n < length g
    pub below_known : (n m : ℕ) → known n ≡ true → GraphLeadsTo g n m → known m ≡ true
    pub keys_apart : (n m : ℕ) → known n ≡ true → known m ≡ true → key n ≡ key m → n ≡ m
    pub known_have_entries : (n : ℕ) → known n ≡ true → is_entry_present table (key n) ≡ true
    pub known_steps : (n : ℕ) → known n ≡ true → AreWords (table_words_of_key table (key n)) (graph_steps g n)

-- the steps lead only to known numbers, or nowhere
abbrev pub LeadToKnownNumbers : (ℕ → Bool) → List Step → Type 0
LeadToKnownNumbers known xs = (n : ℕ) → Contains xs (To n) → known n ≡ true
