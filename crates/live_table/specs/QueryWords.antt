-- The words of a query, up to the first that leads nowhere.
use Rattle.std.specs.Prelude.{◌≡◌, ◌++◌, ◌∷◌, [], ℕ, false, List, Option, Some, None}
use Rattle.std.specs.Option.{option_or}
use Rattle.expr_tree.specs.declared.word_list.WordUse.{WordUse}
use Rattle.expr_tree.specs.Names.{is_refused}
use Rattle.def_entry.specs.Tables.{EntryTable}
use Rattle.name_walk.specs.declared.step.Step.{Step}
use Rattle.table_names.specs.Leads.{table_word_targets}
use Rattle.table_names.specs.declared.fault.NameFault.{NameFault}
use Rattle.live_table.specs.declared.dead_end.DeadEnd.{DeadEnd}
use Rattle.live_table.specs.ExploredNames.{explored_dead_end_fault}
use Rattle.live_table.specs.Exploration.{AreExplorationSteps}
use Rattle.live_table.specs.TableContents.{NodeLists}

-- a word that leads nowhere: a refused name, or a name without targets
pub record IsExplorationDeadEnd (table : EntryTable) (u : WordUse) (end : DeadEnd) : Type 0 where
  pub text : end.text ≡ u.text
  pub refused_word : end.is_refused ≡ is_refused u.text
  pub no_targets : is_refused u.text ≡ false → table_word_targets table u ≡ []

-- these are the steps of the words before one that leads nowhere
pub record AreExplorationStepsCutAt (table : EntryTable) (l : NodeLists) (before list : List ℕ) (us : List WordUse)
    (xs : List Step)
    (end : DeadEnd) : Type 0 where
  pub words_before : List WordUse
  pub word : WordUse
  pub words_after : List WordUse
  pub words : us ≡ words_before ++ word ∷ words_after
  pub front_steps : AreExplorationSteps table l before list [] words_before xs
  pub dead_end_word : IsExplorationDeadEnd table word end

-- these are the steps of the words of a query before the first that leads nowhere, or of all
abbrev pub AreExploredQuerySteps : EntryTable → NodeLists → (before list : List ℕ) → List WordUse → List Step
    → Option DeadEnd
    → Type 0
AreExploredQuerySteps table l before list us xs None = AreExplorationSteps table l before list [] us xs
AreExploredQuerySteps table l before list us xs (Some end) = AreExplorationStepsCutAt table l before list us xs end

-- the first fault of the words before one that leads nowhere, or else its own
abbrev pub explored_fault_before : Option NameFault → DeadEnd → Option NameFault
explored_fault_before fault end = option_or fault (Some (explored_dead_end_fault (Some end) None))
