-- The outcomes of edits of a deck, and the reasons why edits are refused.
use Rattle.std.specs.Prelude.{◌≡◌, ◌⊎◌, ◌+◌, ◌++◌, ℕ, List, [], ◌∷◌, take, drop, if◌then◌else◌, Option, Some, None}
use Rattle.std.specs.Prelude.{Result, Ok, Err}
use Rattle.def_lines.specs.Kinds.{kind_of_line}
use Rattle.def_entry.specs.declared.fault.EntryFault.{EntryFault}
use Rattle.def_entry.specs.declared.fault.EntryFault.TheVariants.{BadForm}
use Rattle.def_entry.specs.declared.key.Key.{Key}
use Rattle.def_entry.specs.Entries.{Entry}
use Rattle.def_entry.specs.EntryReading.{entry_of, has_entry}
use Rattle.deck_lines.specs.Excerpts.{Excerpt}
use Rattle.deck_lines.specs.Limits.{pass_store_limit}
use Rattle.deck_lines.specs.Marks.{plain_store_line}
use Rattle.deck.specs.Changes.{IsEditChange}
use Rattle.deck.specs.Decks.{DeckContents}
use Rattle.deck.specs.Tables.{last_definition_place}
use Rattle.deck.specs.declared.fault.DeckFault.{DeckFault}
use Rattle.deck.specs.declared.fault.DeckFault.TheVariants.{BadLine, NoSuchKey, DeckFull, OutOfMemory}
use Rattle.deck.specs.declared.settings.Settings.{Settings}

-- the deck, or `DeckFull` if its lines pass a limit
abbrev pub deck_within_limit : DeckContents → Result DeckContents DeckFault
deck_within_limit d = if pass_store_limit d.lines then Err DeckFull else Ok d

-- the deck with a line appended
abbrev pub deck_with_line : List ℕ → DeckContents → DeckContents
deck_with_line text d = record d { lines = d.lines ++ plain_store_line 0 text ∷ [] }

-- the outcome for a deck with one more line, given how that line is read as an entry
abbrev pub edit_by_entry : Result (Key × Entry) EntryFault → DeckContents → Result DeckContents DeckFault
edit_by_entry (Err fault) d = Err (BadLine fault)
edit_by_entry (Ok entry) d = deck_within_limit d

-- the outcome of appending a line that defines a key
abbrev pub deck_after_defining : List ℕ → DeckContents → Result DeckContents DeckFault
deck_after_defining text d =
    if has_entry (kind_of_line text) then edit_by_entry (entry_of text) (deck_with_line text d) else Err
    (BadLine BadForm)

-- the deck without the line at a place
abbrev pub deck_without_line : ℕ → DeckContents → DeckContents
deck_without_line place d = record d { lines = take place d.lines ++ drop (place + 1) d.lines }

-- the deck without the line at a place, or `NoSuchKey` if there is no place
abbrev pub deck_without_some_line : Option ℕ → DeckContents → Result DeckContents DeckFault
deck_without_some_line None d = Err NoSuchKey
deck_without_some_line (Some place) d = Ok (deck_without_line place d)

-- the outcome of removing the last active line of a key
abbrev pub deck_after_dropping : Key → DeckContents → Result DeckContents DeckFault
deck_after_dropping k d = deck_without_some_line (last_definition_place d.settings d.lines k) d

-- the deck with other settings
abbrev pub deck_after_switching : Settings → DeckContents → DeckContents
deck_after_switching settings d = record d { settings = settings }

-- the deck with the deck of a file appended
abbrev pub deck_with_excerpt : Excerpt → DeckContents → DeckContents
deck_with_excerpt excerpt d = record d { lines = d.lines ++ excerpt.lines; notices = excerpt.notices }

-- an edit with this outcome yields its deck and returns the keys that it changes; or it fails with the error of the
-- outcome or with `OutOfMemory`, and the deck is unchanged
abbrev pub IsDeckEdit : Result DeckContents DeckFault → DeckContents → DeckContents → Result (List Key) DeckFault
    → Type 0
IsDeckEdit outcome old new (Ok keys) = (outcome ≡ Ok new) × IsEditChange old new keys
IsDeckEdit outcome old new (Err fault) = (new ≡ old) × ((fault ≡ OutOfMemory) ⊎ (outcome ≡ Err fault))
