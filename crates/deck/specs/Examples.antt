-- A small deck and the results of edits of it, worked out by hand.
use Rattle.std.specs.Prelude.{◌≡◌, ◌++◌, ◌∷◌, ℕ, List, [], true, false, Some, None, Ok, Err, codes}
use Rattle.expr_tree.specs.declared.fault.ParseFault.TheVariants.{Syntax}
use Rattle.def_entry.specs.declared.fault.EntryFault.TheVariants.{BadForm, Parse}
use Rattle.def_entry.specs.declared.key.Key.{Key}
use Rattle.def_entry.specs.declared.key.Kind.TheVariants as kind
use Rattle.def_entry.specs.Keys.{key}
use Rattle.deck_lines.specs.Marks.{marked_store_line, plain_store_line}
use Rattle.deck_lines.specs.declared.line.DeckLine.{DeckLine}
use Rattle.deck.specs.Active.{active_lines}
use Rattle.deck.specs.Changes.{keys_changed_by_edit}
use Rattle.deck.specs.Decks.{DeckContents}
use Rattle.deck.specs.Edits.{deck_after_defining, deck_after_dropping}
use Rattle.deck.specs.Tables.{last_definition_place, table_of_deck}
use Rattle.deck.specs.declared.fault.DeckFault.TheVariants.{BadLine, NoSuchKey}
use Rattle.deck.specs.declared.settings.Settings.{Settings}

-- the lines before the one that defines `g` for the second time, in a block that holds if a variable has one of two
-- values
abbrev pub example_deck_first_lines : List DeckLine
example_deck_first_lines =
    plain_store_line 1 (codes "m !")
    ∷ plain_store_line 2 (codes "!locale en_US")
    ∷ plain_store_line 3 (codes "g 3 m")
    ∷ plain_store_line 4 (codes "!endlocale")
    ∷ plain_store_line 5 (codes "!set SIZE big")
    ∷ plain_store_line 6 (codes "!var SIZE big large")
    ∷ []

-- the lines after that line; the last one has a notice
abbrev pub example_deck_last_lines : List DeckLine
example_deck_last_lines = plain_store_line 8 (codes "!endvar") ∷ marked_store_line 9 (codes "h 2 +") ∷ []

-- all lines of the deck
abbrev pub example_deck_all_lines : List DeckLine
example_deck_all_lines = example_deck_first_lines ++ plain_store_line 7 (codes "g 5 m") ∷ example_deck_last_lines

-- settings with this locale
abbrev pub settings_in_locale : List ℕ → Settings
settings_in_locale locale = record { locale = locale; vars = [] }

-- settings with this locale and this value of the variable
abbrev pub settings_with_size : List ℕ → List ℕ → Settings
settings_with_size locale size = record { locale = locale; vars = (codes "SIZE", size) ∷ [] }

-- a deck of these lines under these settings
abbrev pub example_deck : Settings → List DeckLine → DeckContents
example_deck settings these = record { lines = these; settings = settings; notices = [] }

-- the key of a unit
abbrev pub deck_unit : List ℕ → Key
deck_unit name = key kind.Unit name

-- law: the active lines of the deck, the last places of keys, the results of edits, and the keys that other settings
-- change
pub record DeckExamplesLaw : Type 0 where
  -- both blocks hold
  pub active_in_us : active_lines (settings_in_locale (codes "en_US")) example_deck_all_lines
      ≡ true ∷ true ∷ true ∷ true ∷ true ∷ true ∷ true ∷ true ∷ false ∷ []
  -- the block of another locale does not hold
  pub active_in_gb : active_lines (settings_in_locale (codes "en_GB")) example_deck_all_lines
      ≡ true ∷ true ∷ false ∷ false ∷ true ∷ true ∷ true ∷ true ∷ false ∷ []
  -- a variable that has a value keeps it
  pub neither : active_lines (settings_with_size (codes "en_GB") (codes "small")) example_deck_all_lines
      ≡ true ∷ true ∷ false ∷ false ∷ true ∷ true ∷ false ∷ false ∷ false ∷ []
  -- the places of `g`, counted from 0, and of a key that only a line with a notice would define
  pub last_place_us : last_definition_place (settings_in_locale (codes "en_US")) example_deck_all_lines
      (deck_unit (codes "g")) ≡ Some 6
  pub last_place_of_small : last_definition_place (settings_with_size (codes "en_US") (codes "small"))
      example_deck_all_lines
      (deck_unit (codes "g")) ≡ Some 2
  pub no_last_place : last_definition_place (settings_with_size (codes "en_GB") (codes "small")) example_deck_all_lines
      (deck_unit (codes "g")) ≡ None
  pub no_place_of_refused_line : last_definition_place (settings_in_locale (codes "en_US")) example_deck_all_lines
      (deck_unit (codes "h")) ≡ None
  -- a line that is appended, and two lines that are refused
  pub defined_line : deck_after_defining (codes "h 2 g")
      (example_deck (settings_in_locale (codes "en_US")) example_deck_all_lines)
      ≡ Ok (example_deck (settings_in_locale (codes "en_US"))
      (example_deck_all_lines ++ plain_store_line 0 (codes "h 2 g") ∷ []))
  pub unread : deck_after_defining (codes "h 2 +")
      (example_deck (settings_in_locale (codes "en_US")) example_deck_all_lines)
      ≡ Err (BadLine (Parse (Syntax 3)))
  pub directive : deck_after_defining (codes "!set SIZE small")
      (example_deck (settings_in_locale (codes "en_US")) example_deck_all_lines)
      ≡ Err (BadLine BadForm)
  -- the last active line of `g` is removed, and the earlier one stays; `h` has no line
  pub g_after_drop : deck_after_dropping (deck_unit (codes "g"))
      (example_deck (settings_in_locale (codes "en_US")) example_deck_all_lines)
      ≡ Ok (example_deck (settings_in_locale (codes "en_US")) (example_deck_first_lines ++ example_deck_last_lines))
  pub no_such_definition : deck_after_dropping (deck_unit (codes "h"))
      (example_deck (settings_in_locale (codes "en_US")) example_deck_all_lines) ≡ Err
      NoSuchKey
  -- settings under which another line of `g` is the last, and settings under which the same line is
  pub after_switch : keys_changed_by_edit
      (table_of_deck (example_deck (settings_in_locale (codes "en_US")) example_deck_all_lines))
      (table_of_deck (example_deck (settings_with_size (codes "en_US") (codes "small")) example_deck_all_lines))
      ≡ deck_unit (codes "g") ∷ []
  pub unchanged_keys : keys_changed_by_edit
      (table_of_deck (example_deck (settings_in_locale (codes "en_US")) example_deck_all_lines))
      (table_of_deck (example_deck (settings_in_locale (codes "en_GB")) example_deck_all_lines)) ≡ []
