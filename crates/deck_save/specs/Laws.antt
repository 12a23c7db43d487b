-- Laws of reading saved texts.
use Rattle.std.specs.Prelude.{◌≡◌, ◌≤◌, ℕ, List, [], ◌∷◌, length, true, false, Some, Result, Ok}
use Rattle.std.specs.List.{list_all}
use Rattle.units_io.specs.FileMap.{FileMap, file_of_name, longest_file}
use Rattle.def_lines.specs.Kinds.{kind_of_line}
use Rattle.def_entry.specs.declared.key.Key.{Key}
use Rattle.def_entry.specs.Entries.{Entry}
use Rattle.def_entry.specs.EntryReading.{entry_of, has_entry}
use Rattle.deck_lines.specs.Excerpts.{Excerpt}
use Rattle.deck_lines.specs.Limits.{pass_store_limit}
use Rattle.deck_lines.specs.Transcripts.{TranscriptFetch, Yields}
use Rattle.deck.specs.Decks.{DeckContents}
use Rattle.deck.specs.FileLoads.{deck_after_loading, deck_after_text_loading, deck_excerpt_of_lines, deck_load_of_name}
use Rattle.deck.specs.Messages.{active_definition_texts}
use Rattle.deck.specs.Tables.{table_of_deck}
use Rattle.deck.specs.declared.fault.DeckFault.{DeckFault}
use Rattle.deck.specs.declared.settings.Settings.{Settings}
use Rattle.deck_save.specs.SavedText.{saved_text, saved_texts}
use Rattle.deck_save.specs.SavedLines.{is_saved_line_byte}

-- a deck within the limits, as every deck is, whose saved text is not too long for a file
pub record CanBeSaved (d : DeckContents) : Type 0 where
  pub lines_within_limit : pass_store_limit d.lines ≡ false
  pub text_within_limit : length (saved_text d) ≤ longest_file

-- a loaded deck has no notices and has the definitions of another deck: the same texts, and the same entry for each key
pub record SaveGivesBack (d loaded : DeckContents) : Type 0 where
  pub without_notices : loaded.notices ≡ []
  pub texts : active_definition_texts loaded ≡ saved_texts d
  pub same_table : table_of_deck loaded ≡ table_of_deck d

-- a load yields such a deck, with the settings that it is given
pub record IsSavedDeckGivenBack (d : DeckContents) (under : Settings) (outcome : Result DeckContents DeckFault) : Type 0
  where
    pub load_result : DeckContents
    pub loads_ok : outcome ≡ Ok load_result
    pub same_settings : load_result.settings ≡ under
    pub gives_back : SaveGivesBack d load_result

-- law: loading a file with the saved text of a deck gives the deck back, whatever the name of the file, the other files
-- and the settings are
abbrev pub SavedFileLaw : Type 0
SavedFileLaw = (d : DeckContents) (files : FileMap) (name : List ℕ) (settings : Settings) → CanBeSaved d
    → file_of_name files name ≡ Some (saved_text d) → IsSavedDeckGivenBack d settings
    (deck_after_loading files name settings)

-- law: loading the saved text itself gives the deck back
abbrev pub SavedTextLaw : Type 0
SavedTextLaw = (d : DeckContents) (name : List ℕ) (settings : Settings) → CanBeSaved d
    → IsSavedDeckGivenBack d settings (deck_after_text_loading (saved_text d) name settings)

-- law: loading a file gives the deck back if its fetch returns the saved text, even if the files are not known; no
-- other file is fetched
abbrev pub SavedAnswerLaw : Type 0
SavedAnswerLaw = (d : DeckContents) (name : List ℕ) (rest : List TranscriptFetch) → CanBeSaved d
    → (read : Excerpt)
    × (deck_load_of_name name (deck_excerpt_of_lines []) (record { name = name; answer = Ok (saved_text d) } ∷ rest)
    ≡ Yields read rest)
    × ((settings : Settings)
    → SaveGivesBack d (record { lines = read.lines; settings = settings; notices = read.notices }))

-- law: a deck that was given back has the same saved text again
abbrev pub SavedAgainLaw : Type 0
SavedAgainLaw = (d loaded : DeckContents) → SaveGivesBack d loaded → saved_text loaded ≡ saved_text d

-- law: a line that defines a key contains no line feed, no carriage return and no `#`
abbrev pub SavableLineLaw : Type 0
SavableLineLaw = (line : List ℕ) (k : Key) (e : Entry) → has_entry (kind_of_line line) ≡ true
    → entry_of line ≡ Ok (k, e)
    → list_all is_saved_line_byte line ≡ true
