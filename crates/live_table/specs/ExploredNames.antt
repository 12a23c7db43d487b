-- The facts known about the names below a query before it is walked.
use Rattle.std.specs.Prelude.{◌≡◌, ℕ, true, Bool, if◌then◌else◌, List, Option, Some, None, [], slice_get}
use Rattle.def_entry.specs.declared.key.Key.{Key}
use Rattle.def_entry.specs.Tables.{EntryTable}
use Rattle.table_names.specs.declared.fault.NameFault.{NameFault}
use Rattle.table_names.specs.declared.fault.NameFault.TheVariants.{Refused, Unknown}
use Rattle.table_names.specs.NumberedNames.{AreNumbered}
use Rattle.live_table.specs.declared.dead_end.DeadEnd.{DeadEnd}
use Rattle.live_table.specs.Sound.{HasCachedLooksIfLed, HasCachedPartStarts}
use Rattle.live_table.specs.TableContents.{NodeLists, node_key_at}

-- the fault of a word that leads nowhere, by the key whose entry contains it
abbrev pub explored_dead_end_fault : Option DeadEnd → Option Key → NameFault
explored_dead_end_fault None holder = Unknown [] holder
explored_dead_end_fault (Some word) holder = if word.is_refused then Refused word.text holder else Unknown word.text
    holder

abbrev pub explored_fault_at : List DeadEnd → ℕ → Option Key → NameFault
explored_fault_at dead_ends n = explored_dead_end_fault (slice_get dead_ends n)

-- the names below a query have numbers, which are known
pub record AreExplored (table : EntryTable) (l : NodeLists) (dead_ends : List DeadEnd) (known : ℕ → Bool) : Type 0 where
  pub numbers_are : AreNumbered table (node_key_at l.keys) (explored_fault_at dead_ends) l.graph known
  pub part_starts : (n : ℕ) → known n ≡ true → HasCachedPartStarts table l n
  pub looks : (n : ℕ) → known n ≡ true → HasCachedLooksIfLed table l n
