-- The name fault of numbered names.
use Rattle.std.specs.Prelude.{◌≡◌, ℕ, Bool, true, List, [], ◌∷◌, Option, option_map}
use Rattle.expr_tree.specs.declared.word_list.WordUse.{WordUse}
use Rattle.def_entry.specs.declared.key.Key.{Key}
use Rattle.def_entry.specs.Tables.{EntryTable}
use Rattle.name_walk.specs.declared.step.Step.{Step}
use Rattle.name_walk.specs.declared.step.Step.TheVariants.{To}
use Rattle.name_walk.specs.Faults as walk
use Rattle.name_walk.specs.Steps.{AreStepsInGraph, Graph}
use Rattle.table_names.specs.declared.fault.NameFault.{NameFault}
use Rattle.table_names.specs.Faults.{key_fault, name_fault}
use Rattle.table_names.specs.NumberedNames.{AreNumbered, AreWords, LeadToKnownNumbers, fault_by_name}

-- law: the first fault by number of the steps of words, or of a known number, is the name fault
pub record NumberedNameFaultLaw : Type 0 where
  pub words : (table : EntryTable) (key : ℕ → Key) (dead_end : ℕ → Option Key → NameFault) (g : Graph)
      (known : ℕ → Bool)
      → AreNumbered table key dead_end g known → AreStepsInGraph g
      → (us : List WordUse) (xs : List Step) → AreWords table key dead_end us xs → LeadToKnownNumbers known xs
      → option_map (fault_by_name table key dead_end) (walk.steps_fault_after_path g [] xs) ≡ name_fault table us
  pub key : (table : EntryTable) (key : ℕ → Key) (dead_end : ℕ → Option Key → NameFault) (g : Graph) (known : ℕ → Bool)
      → AreNumbered table key dead_end g known → AreStepsInGraph g → (n : ℕ) → known n ≡ true
      → option_map (fault_by_name table key dead_end) (walk.steps_fault_after_path g [] (To n ∷ [])) ≡ key_fault table
      (key n)
