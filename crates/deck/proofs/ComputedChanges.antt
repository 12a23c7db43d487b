-- The computed list of the keys that an edit changes.
use Rattle.std.proofs.Common.{◌≡◌, ◌++◌, ◌||◌, false, refl, sym, ap, ◌∙◌, Option, Some, None}
use Rattle.std.specs.Option.{is_some}
use Rattle.def_entry.specs.declared.key.Key.{Key}
use Rattle.def_entry.specs.Entries.{Entry}
use Rattle.def_entry.specs.EntryReading.{SameEntryTextLaw}
use Rattle.def_entry.specs.SameKeys.{is_entry_key_among}
use Rattle.deck.specs.Changes.{KeysChangedByEditLaw, each_deck_key_once}
use Rattle.deck.specs.Tables.{EntryTable, active_definitions, entry_at, is_entry_present, keys_of_entries}
use Rattle.deck.specs.Tables.{table_of_deck}
use Rattle.deck.proofs.ChangedKeys.{deck_entries_same_by_text, edit_changes_keys_among}
use Rattle.deck.proofs.KeyTallies.{key_among_deck_table_keys}
use Rattle.deck.proofs.DistinctKeys.{deck_key_among-append, deck_key_among_each_once, each_deck_key_is_once}
use Rattle.deck.proofs.PlacedDefinitions.{active_definitions_in_place}

-- a key that is in neither table has no entry in either
key_absent_in_deck_tables : (t u : EntryTable) (k : Key)
    → is_entry_key_among (each_deck_key_once (keys_of_entries t ++ keys_of_entries u)) k ≡ false
    → entry_at t k ≡ entry_at u k
key_absent_in_deck_tables t u k e =
    none (entry_at t k) (entry_at u k)
    (sym (deck_key_among_each_once (keys_of_entries t ++ keys_of_entries u) k
    ∙ deck_key_among-append (keys_of_entries t) (keys_of_entries u) k
    ∙ ap (λ b. b || is_entry_key_among (keys_of_entries u) k) (key_among_deck_table_keys t k)
    ∙ ap (λ b. is_entry_present t k || b) (key_among_deck_table_keys u k))
    ∙ e)
  where
    none : (a b : Option Entry) → (is_some a || is_some b) ≡ false → a ≡ b
    none None None h = refl
    none None (Some f) h = cc
    none (Some f) b h = cc

-- the law of changed keys
pub keys_changed_by_edit_law : SameEntryTextLaw → KeysChangedByEditLaw
keys_changed_by_edit_law law before after =
    let t : EntryTable = table_of_deck before in
    let u : EntryTable = table_of_deck after in
    edit_changes_keys_among t u (each_deck_key_once (keys_of_entries t ++ keys_of_entries u))
    (each_deck_key_is_once (keys_of_entries t ++ keys_of_entries u)) (key_absent_in_deck_tables t u)
    (deck_entries_same_by_text law before.lines after.lines (active_definitions before.settings before.lines)
    (active_definitions after.settings after.lines)
    (active_definitions_in_place before.settings before.lines) (active_definitions_in_place after.settings after.lines))
