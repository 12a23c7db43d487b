-- The active lines of small decks with blocks, worked out by hand.
use Rattle.std.specs.Prelude.{◌≡◌, ◌∷◌, ℕ, List, [], true, false, codes, map}
use Rattle.deck_lines.specs.Marks.{marked_store_line, plain_store_line}
use Rattle.deck_lines.specs.declared.line.DeckLine.{DeckLine}
use Rattle.deck.specs.Active.{active_lines}
use Rattle.deck.specs.declared.settings.Settings.{Settings}

-- no locale and no variable
abbrev pub no_settings : Settings
no_settings = record { locale = []; vars = [] }

-- one variable with a value
abbrev pub big_size_setting : Settings
big_size_setting = record { locale = []; vars = (codes "SIZE", codes "big") ∷ [] }

-- lines with these texts
abbrev pub enclosing_example_lines : List (List ℕ) → List DeckLine
enclosing_example_lines texts = map (λ text. plain_store_line 1 text) texts

-- a line that is active unless a variable has a value
abbrev pub line_unless_big_setting : List DeckLine
line_unless_big_setting =
    enclosing_example_lines (codes "!varnot SIZE big" ∷ codes "a !" ∷ codes "!endvar" ∷ codes "b !" ∷ [])

-- a block in a block, a line after the inner one and a line after both
abbrev pub nested_enclosing_blocks : List DeckLine
nested_enclosing_blocks = enclosing_example_lines
    (codes "!var SIZE big" ∷ codes "!varnot SIZE big" ∷ codes "a !" ∷ codes "!endvar" ∷ codes "b !"
    ∷ codes "!endvar" ∷ codes "c !" ∷ [])

-- a `!set` in a block that does not hold sets nothing; one after the block sets the variable, and a second one for the
-- same variable changes nothing
abbrev pub setting_in_enclosing_block : List DeckLine
setting_in_enclosing_block =
    enclosing_example_lines
    (codes "!var SIZE big" ∷ codes "!set COLOUR red" ∷ codes "!endvar" ∷ codes "!set COLOUR blue"
    ∷ codes "!set COLOUR red" ∷ codes "!var COLOUR red" ∷ codes "a !" ∷ codes "!endvar" ∷ codes "!var COLOUR blue"
    ∷ codes "b !" ∷ codes "!endvar" ∷ [])

-- law: which of these lines are active
pub record EnclosingExamplesLaw : Type 0 where
  -- `!varnot` holds if the variable has no value, and does not if it has the value
  pub not_big : active_lines no_settings line_unless_big_setting ≡ true ∷ true ∷ true ∷ true ∷ []
  pub is_big : active_lines big_size_setting line_unless_big_setting ≡ true ∷ false ∷ false ∷ true ∷ []
  -- if the outer block holds, the inner one does not; if it does not hold, no line in it is active
  pub inner : active_lines big_size_setting nested_enclosing_blocks ≡ true ∷ true ∷ false ∷ false ∷ true ∷ true ∷ true ∷
      []
  pub outer : active_lines no_settings nested_enclosing_blocks ≡ true ∷ false ∷ false ∷ false ∷ false ∷ false ∷ true ∷
      []
  -- only the first active `!set` of a variable has an effect
  pub set_first : active_lines no_settings setting_in_enclosing_block
      ≡ true ∷ false ∷ false ∷ true ∷ true ∷ true ∷ false ∷ false ∷ true ∷ true ∷ true ∷ []
  pub set_outside : active_lines big_size_setting setting_in_enclosing_block
      ≡ true ∷ true ∷ true ∷ true ∷ true ∷ true ∷ true ∷ true ∷ true ∷ false ∷ false ∷ []
  -- `!utf8` always holds
  pub utf8 : active_lines no_settings (enclosing_example_lines (codes "!utf8" ∷ codes "a !" ∷ codes "!endutf8" ∷ []))
      ≡ true ∷ true ∷ true ∷ []
  -- a line with a mark begins no block
  pub active_marked_line : active_lines no_settings
      (marked_store_line 1 (codes "!var SIZE big") ∷ plain_store_line 2 (codes "a !") ∷ [])
      ≡ false ∷ true ∷ []
