-- The saved texts of a few decks, worked out by hand.
use Rattle.std.specs.Prelude.{◌≡◌, ◌++◌, ◌∷◌, ℕ, List, [], codes}
use Rattle.deck_lines.specs.Marks.{marked_store_line, plain_store_line}
use Rattle.deck_lines.specs.declared.line.DeckLine.{DeckLine}
use Rattle.deck.specs.Decks.{DeckContents}
use Rattle.deck_save.specs.SavedText.{saved_text}

-- a deck with this locale and these lines
abbrev pub save_example_deck : List ℕ → List DeckLine → DeckContents
save_example_deck locale lines = record {
  lines = lines;
  settings = record { locale = locale; vars = [] };
  notices =
      [];
}

-- lines with a block that holds in one locale, and a line with a notice
abbrev pub save_example_lines : List DeckLine
save_example_lines =
    plain_store_line 1 (codes "m !")
    ∷ plain_store_line 2 (codes "!locale en_US")
    ∷ plain_store_line 3 (codes "g 3 m")
    ∷ plain_store_line 4 (codes "!endlocale")
    ∷ marked_store_line 5 (codes "h 2 +")
    ∷ plain_store_line 0 (codes "h 2 g")
    ∷ []

-- law: the lines of a block are saved if the block holds; a line that ends in `\` is saved so that it does not continue
-- on the next definition; a line with blanks at its ends, which edits may produce, is saved without them
abbrev pub SaveExamplesLaw : Type 0
SaveExamplesLaw =
    (saved_text (save_example_deck (codes "en_US") save_example_lines) ≡ codes "m !" ++ 10 ∷ codes "g 3 m" ++ 10 ∷ codes
    "h 2 g"
    ++ 10 ∷ [])
    × (saved_text (save_example_deck (codes "en_GB") save_example_lines) ≡ codes "m !" ++ 10 ∷ codes "h 2 g" ++ 10 ∷ [])
    × (saved_text (save_example_deck []
    (plain_store_line 1 (codes "m !") ∷ plain_store_line 2 (codes "\\ 3 m") ∷ plain_store_line 3 (codes "x \\") ∷ []))
    ≡ codes "m !" ++ 10 ∷ codes "\\ 3 m" ++ 10 ∷ codes "x \\\\" ++ 10 ∷ 10 ∷ [])
    × (saved_text (save_example_deck [] (plain_store_line 1 (codes "x  !  ") ∷ [])) ≡ codes "x  !" ++ 10 ∷ [])
    × (saved_text (save_example_deck [] []) ≡ [])
