-- Definitions that C passes in memory.
use Rattle.std.specs.Prelude.{◌≡◌, ◌≢◌, [], ◌∷◌, ℕ, List, Option, Some, None, Result, Ok, Err}
use Rattle.deck.specs.Decks.{DeckContents}
use Rattle.deck.specs.FileLoads.{deck_after_loading}
use Rattle.deck.specs.declared.fault.DeckFault.{DeckFault}
use Rattle.deck.specs.declared.settings.Settings.{Settings}
use Rattle.edited_table.specs.Faults.{load_status}
use Rattle.edited_table.specs.Statuses.{status_code}
use Rattle.edited_table.specs.TableValue.{EditedTableView, IsTableLoaded}
use Rattle.edited_table.specs.declared.status.Status.TheVariants as status
use Rattle.units_c.specs.declared.definitions.UnitsDefinitions.{UnitsDefinitions}
use Rattle.units_c.specs.declared.definitions.UnitsEntry.{UnitsEntry}
use Rattle.units_io.specs.FileMap.{FileMap, no_files_in_map, with_file}
use Rattle.units_io.specs.NamedValues.{NamedTexts, with_named_text}

-- files with those of a list added; the last file of a name counts
abbrev pub c_files_with_entries : FileMap → List UnitsEntry → FileMap
c_files_with_entries files [] = files
c_files_with_entries files (e ∷ es) = c_files_with_entries (with_file files e.name.now e.content.now) es

-- variables with those of a list added; the last value of a name counts
abbrev pub c_variables_with_entries : NamedTexts → List UnitsEntry → NamedTexts
c_variables_with_entries pairs [] = pairs
c_variables_with_entries pairs (e ∷ es) = c_variables_with_entries (with_named_text pairs e.name.now e.content.now) es

abbrev pub c_definition_settings : UnitsDefinitions → Settings
c_definition_settings d = record { locale = d.locale.now; vars = c_variables_with_entries [] d.variables.now }

-- the deck of the main file and of the files that it includes
abbrev pub c_deck_of_files : UnitsDefinitions → Result DeckContents DeckFault
c_deck_of_files d = deck_after_loading (c_files_with_entries no_files_in_map d.files.now) d.main.now
    (c_definition_settings d)

-- the table is open over these definitions, with no name settled and no edit made
abbrev pub IsCTableOpened : UnitsDefinitions → Option EditedTableView → Type 0
IsCTableOpened d None = ⊥
IsCTableOpened d (Some e) = IsTableLoaded (c_deck_of_files d) e

-- the status of opening a closed table over a deck with this outcome: the status of the outcome, `NoMemory` or
-- `ReadFailed`
abbrev pub IsOpenStatus : Result DeckContents DeckFault → (result : ℕ) → Type 0
IsOpenStatus (Ok deck) result =
    (result ≢ status_code status.NoMemory) → (result ≢ status_code status.ReadFailed) → result ≡ status_code status.Done
IsOpenStatus (Err why) result =
    (result ≢ status_code status.NoMemory) → (result ≢ status_code status.ReadFailed)
    → result ≡ status_code (load_status why)
