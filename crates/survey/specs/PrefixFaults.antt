-- The name faults of the bodies of prefixes.
use Rattle.std.specs.Prelude.{◌≡◌, ◌++◌, ℕ, true, List, take, drop, position, Option, Some, None, option_map}
use Rattle.def_entry.specs.declared.key.Key.{Key}
use Rattle.def_entry.specs.SameKeys.{is_same_entry_key}
use Rattle.def_entry.specs.Tables.{EntryTable, is_entry_present}
use Rattle.table_names.specs.declared.fault.NameFault.{NameFault}
use Rattle.table_names.specs.declared.fault.NameFault.TheVariants.{Unknown, Refused, Cycle}
use Rattle.table_names.specs.Faults.{key_fault, name_fault}
use Rattle.table_names.specs.Words.{table_words_of_key}

-- a chain from a place on, continued around to that place again
abbrev pub checked_chain_turned_to : Option ℕ → List Key → List Key
checked_chain_turned_to None chain = chain
checked_chain_turned_to (Some place) chain = drop place chain ++ take place (drop 1 chain)

-- a chain turned so that it begins and ends with a key, if it contains that key
abbrev pub checked_chain_from_key : Key → List Key → List Key
checked_chain_from_key k chain = checked_chain_turned_to (position (is_same_entry_key k) chain) chain

-- a name fault of the body of a prefix, as one of the prefix: a word of the body is reported as a word in the prefix,
-- and a chain that contains the prefix begins and ends with it
abbrev pub checked_prefix_fault : Key → NameFault → NameFault
checked_prefix_fault k (Unknown word None) = Unknown word (Some k)
checked_prefix_fault k (Refused word None) = Refused word (Some k)
checked_prefix_fault k (Cycle chain) = Cycle (checked_chain_from_key k chain)
checked_prefix_fault k fault = fault

-- law: turned in this way, the fault of the words of a key is the fault of the key itself
abbrev pub CheckedPrefixLaw : Type 0
CheckedPrefixLaw = (table : EntryTable) (k : Key) → is_entry_present table k ≡ true
    → key_fault table k ≡ option_map (checked_prefix_fault k) (name_fault table (table_words_of_key table k))
