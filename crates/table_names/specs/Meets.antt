-- The name fault of words, by rules.
use Rattle.std.specs.Prelude.{◌≡◌, ◌≢◌, true, false, List, [], ◌∷◌, ◌++◌, None}
use Rattle.std.specs.List.{last_or}
use Rattle.expr_tree.specs.declared.word_list.WordUse.{WordUse}
use Rattle.expr_tree.specs.Names.{is_refused}
use Rattle.def_entry.specs.declared.key.Key.{Key}
use Rattle.def_entry.specs.SameKeys.{is_entry_key_among}
use Rattle.def_entry.specs.Tables.{EntryTable}
use Rattle.table_names.specs.declared.fault.NameFault.{NameFault}
use Rattle.table_names.specs.declared.fault.NameFault.TheVariants.{Unknown, Refused, Cycle}
use Rattle.table_names.specs.Faults.{name_fault_cycle_chain}
use Rattle.table_names.specs.Leads.{table_word_targets}
use Rattle.table_names.specs.Words.{table_words_of_key}

-- A path is the list of keys whose entries are being read, outermost first: the words are those of the entry of its
-- last key, or of the expression itself if the path is empty.

mutual
  -- Words are clean if none is a refused name, each has targets, and all targets are clean.
  pub data AreClean (table : EntryTable) : List Key → List WordUse → Type 0 where
    NoWord : {path : List Key} → AreClean table path []
    NextWord : {path : List Key} {u : WordUse} {us : List WordUse} → is_refused u.text ≡ false
        → table_word_targets table u ≢ []
        → AreCleanKeys table path (table_word_targets table u) → AreClean table path us → AreClean table path (u ∷ us)

  -- Keys are clean if none is on the path, and the words of each entry are clean.
  pub data AreCleanKeys (table : EntryTable) : List Key → List Key → Type 0 where
    NoKey : {path : List Key} → AreCleanKeys table path []
    NextKey : {path : List Key} {n : Key} {ns : List Key} → is_entry_key_among path n ≡ false
        → AreClean table (path ++ n ∷ []) (table_words_of_key table n) → AreCleanKeys table path ns
        → AreCleanKeys table path (n ∷ ns)

mutual
  -- Words meet the first fault from left to right.
  pub data Meets (table : EntryTable) : List Key → List WordUse → NameFault → Type 0 where
    -- The first word is a refused name.
    AtRefusedName : {path : List Key} {u : WordUse} {us : List WordUse} {f : NameFault} → is_refused u.text ≡ true
        → f ≡ Refused u.text (last_or None path) → Meets table path (u ∷ us) f
    -- The first word is not a refused name, and has no targets.
    AtUnknownWord : {path : List Key} {u : WordUse} {us : List WordUse} {f : NameFault} → is_refused u.text ≡ false
        → table_word_targets table u ≡ [] → f ≡ Unknown u.text (last_or None path) → Meets table path (u ∷ us) f
    -- The first word is not a refused name, and its targets meet the fault.
    AtTargets : {path : List Key} {u : WordUse} {us : List WordUse} {f : NameFault} → is_refused u.text ≡ false
        → MeetKeys table path (table_word_targets table u) f → Meets table path (u ∷ us) f
    -- The first word is clean, and the other words meet the fault.
    InOtherWords : {path : List Key} {u : WordUse} {us : List WordUse} {f : NameFault} → AreClean table path (u ∷ [])
        → Meets table path us f → Meets table path (u ∷ us) f

  -- Keys meet the first fault in order.
  pub data MeetKeys (table : EntryTable) : List Key → List Key → NameFault → Type 0 where
    -- The first key is on the path: a cycle, from the key's place on the path to the key again.
    OnPath : {path : List Key} {n : Key} {ns : List Key} {f : NameFault} → is_entry_key_among path n ≡ true
        → f ≡ Cycle (name_fault_cycle_chain n path) → MeetKeys table path (n ∷ ns) f
    -- The first key is not on the path, and the words of its entry meet the fault.
    InEntry : {path : List Key} {n : Key} {ns : List Key} {f : NameFault} → is_entry_key_among path n ≡ false
        → Meets table (path ++ n ∷ []) (table_words_of_key table n) f → MeetKeys table path (n ∷ ns) f
    -- The first key is clean, and the other keys meet the fault.
    InOtherKeys : {path : List Key} {n : Key} {ns : List Key} {f : NameFault} → AreCleanKeys table path (n ∷ [])
        → MeetKeys table path ns f → MeetKeys table path (n ∷ ns) f
