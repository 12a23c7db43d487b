-- Lines that a later line with the same name shadows.
use Rattle.std.specs.Prelude.{◌≡◌, ◌∷◌, [], codes}
use Rattle.deck.specs.BlockExamples.{enclosing_example_lines}
use Rattle.deck.specs.Decks.{DeckContents}
use Rattle.deck_save.specs.SavedText.{saved_text}

abbrev pub shadowing_deck : DeckContents
shadowing_deck = record {
  lines = enclosing_example_lines (codes "m !" ∷ codes "g 2 m" ∷ codes "g 3 m" ∷ []);
  settings = record { locale = []; vars = [] };
  notices = [];
}

pub record ShadowedLineExamples : Type 0 where
  -- a shadowed line is saved too, so that a drop after a load uncovers it
  pub saved_lines_of_one_name : saved_text shadowing_deck ≡ codes "m !\ng 2 m\ng 3 m\n"
