-- The definitions of a run: those of a file, or the built-in ones.
use Rattle.std.specs.Prelude.{◌++◌, ℕ, List, codes}
use Rattle.deck.specs.BuiltIn.{built_in_deck_text}
use Rattle.deck.specs.Decks.{DeckContents}
use Rattle.deck.specs.declared.fault.DeckFault.{DeckFault}
use Rattle.deck.specs.declared.fault.DeckFault.TheVariants as fault
use Rattle.deck.specs.declared.settings.Settings.{Settings}
use Rattle.session.specs.TextDecks.{text_deck}

-- the name of the built-in file in notices
abbrev pub run_built_in_name : List ℕ
run_built_in_name = codes "builtin"

-- the deck of the built-in text
abbrev pub run_built_in_deck : Settings → DeckContents
run_built_in_deck settings = text_deck run_built_in_name built_in_deck_text settings

-- the reason why a file gives no deck
abbrev pub no_deck_run_reason : DeckFault → List ℕ
no_deck_run_reason fault.TooLong = codes "units: file too long: "
no_deck_run_reason fault.DeckFull = codes "units: deck full: "
no_deck_run_reason _ = codes "units: no file: "

-- the line that reports why the file of this name gives no deck
abbrev pub no_deck_run_line : DeckFault → (name : List ℕ) → List ℕ
no_deck_run_line fault name = no_deck_run_reason fault ++ name ++ codes "\n"
