-- Blocks of locales that differ little from the locale of the deck. A block holds exactly in its own locale.
use Rattle.std.specs.Prelude.{◌≡◌, ◌∷◌, ℕ, List, [], Bool, true, false, codes}
use Rattle.deck.specs.Active.{active_lines}
use Rattle.deck.specs.BlockExamples.{enclosing_example_lines}

-- whether each line of a block of one locale is active in another
abbrev pub block_lines_active_in : (block locale : List ℕ) → List Bool
block_lines_active_in block locale =
    active_lines (record { locale = locale; vars = [] })
    (enclosing_example_lines (block ∷ codes "g 2 m" ∷ codes "!endlocale" ∷ codes "h 3 m" ∷ []))

-- the flags of the lines if the block holds, and if it does not: the line that begins a block is outside of it, and the
-- one that ends it is inside
abbrev pub block_holds : List Bool
block_holds = true ∷ true ∷ true ∷ true ∷ []

abbrev pub block_does_not_hold : List Bool
block_does_not_hold = true ∷ false ∷ false ∷ true ∷ []

pub record LocaleBlockExamples : Type 0 where
  pub own_locale : block_lines_active_in (codes "!locale en_US") (codes "en_US") ≡ block_holds
  -- the block names the beginning of the locale, or the locale is the beginning of the name
  pub beginning_of_locale : block_lines_active_in (codes "!locale en") (codes "en_US") ≡ block_does_not_hold
  pub locale_is_beginning : block_lines_active_in (codes "!locale en_US") (codes "en") ≡ block_does_not_hold
  pub all_but_last_letter : block_lines_active_in (codes "!locale en_U") (codes "en_US") ≡ block_does_not_hold
  pub end_of_locale : block_lines_active_in (codes "!locale US") (codes "en_US") ≡ block_does_not_hold
  -- the letter case counts
  pub lower_case : block_lines_active_in (codes "!locale en_us") (codes "en_US") ≡ block_does_not_hold
  pub upper_case : block_lines_active_in (codes "!locale EN_US") (codes "en_US") ≡ block_does_not_hold
  pub upper_case_locale : block_lines_active_in (codes "!locale en_US") (codes "EN_US") ≡ block_does_not_hold
  -- an empty locale is in no block
  pub no_locale : block_lines_active_in (codes "!locale en_US") [] ≡ block_does_not_hold
