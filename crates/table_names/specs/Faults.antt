-- The name fault of words.
use Rattle.std.specs.Prelude.{ℕ, zero, suc, ◌-◌, List, [], ◌∷◌, ◌++◌, length, Option, Some, None, if◌then◌else◌}
use Rattle.std.specs.List.{last_or}
use Rattle.expr_tree.specs.declared.word_list.WordUse.{WordUse}
use Rattle.expr_tree.specs.Names.{is_refused}
use Rattle.def_entry.specs.declared.key.Key.{Key}
use Rattle.def_entry.specs.SameKeys.{is_entry_key_among, is_same_entry_key}
use Rattle.def_entry.specs.Tables.{EntryTable}
use Rattle.name_walk.specs.Lists.{first_some}
use Rattle.table_names.specs.declared.fault.NameFault.{NameFault}
use Rattle.table_names.specs.declared.fault.NameFault.TheVariants.{Unknown, Refused, Cycle}
use Rattle.table_names.specs.Leads.{table_word_targets}
use Rattle.table_names.specs.Words.{table_words_of_key}

-- the keys of a path from the first place of a key on, and then that key again
abbrev pub name_fault_cycle_chain : Key → List Key → List Key
name_fault_cycle_chain n [] = n ∷ []
name_fault_cycle_chain n (k ∷ ks) = if is_same_entry_key n k then k ∷ (ks ++ n ∷ []) else name_fault_cycle_chain n ks

-- A path is the list of keys whose entries are being gone through, outermost first. A word after a path is in the entry
-- of its last key, or in the expression itself if the path is empty.

-- a function from a path and its last key to the first fault in the entry of that key
abbrev pub DeeperNameFault : Type 0
DeeperNameFault = List Key → Key → Option NameFault

module _ (table : EntryTable) where
  -- a target that is on the path closes a cycle; any other target is entered
  abbrev pub target_fault : DeeperNameFault → List Key → Key → Option NameFault
  target_fault deeper path n = if is_entry_key_among path n then Some (Cycle (name_fault_cycle_chain n path)) else
      deeper
      (path ++ n ∷ []) n

  -- a word without targets is unknown
  abbrev pub targets_fault : DeeperNameFault → List Key → WordUse → List Key → Option NameFault
  targets_fault deeper path u [] = Some (Unknown u.text (last_or None path))
  targets_fault deeper path u (n ∷ ns) = first_some (target_fault deeper path) (n ∷ ns)

  -- the fault of a refused name, or else the first fault of the targets in order
  abbrev pub word_fault : DeeperNameFault → List Key → WordUse → Option NameFault
  word_fault deeper path u =
      if is_refused u.text
      then Some (Refused u.text (last_or None path))
      else targets_fault deeper path u (table_word_targets table u)

  -- the first fault in the entry of the last key of a path, if at most `room` more keys may be entered; there is always
  -- enough room, so the value for `zero` does not matter
  abbrev pub key_fault_within : ℕ → DeeperNameFault
  key_fault_within zero path n = Some (Cycle path)
  key_fault_within (suc room) path n = first_some (word_fault (key_fault_within room) path) (table_words_of_key table n)

  -- the first fault of words after a path: no key occurs twice in a path, so the number of keys of the table that are
  -- not on it is room enough
  abbrev pub words_fault : List Key → List WordUse → Option NameFault
  words_fault path words = first_some (word_fault (key_fault_within (length table - length path)) path) words

  -- the name fault of the words of an expression
  abbrev pub name_fault : List WordUse → Option NameFault
  name_fault words = words_fault [] words

  -- the name fault of a key
  abbrev pub key_fault : Key → Option NameFault
  key_fault n = words_fault (n ∷ []) (table_words_of_key table n)
