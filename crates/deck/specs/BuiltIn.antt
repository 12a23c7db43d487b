-- The built-in definitions.
use Rattle.std.specs.Prelude.{◌≡◌, ◌+◌, ◌*◌, ◌-◌, ◌^◌, ◌%◌, ℕ, List, fold, length}
use Rattle.deck.specs.declared.built_in.TheConstants.{BUILT_IN}

-- the text of the built-in definitions, which is written out once, in the code
unfoldable pub built_in_deck_text : List ℕ
built_in_deck_text = BUILT_IN.now

-- a text as one number: its bytes are the digits in base 256, the first byte the highest
abbrev pub deck_text_as_number : List ℕ → ℕ
deck_text_as_number bytes = fold (λ n b. n * 256 + b) 0 bytes

-- law: the text has this length, and its number has this remainder modulo the prime 2 ^ 127 - 1, so that a constant
-- with another byte is refused
pub record PinnedDeckText : Type 0 where
  pub length_is : length built_in_deck_text ≡ 1057
  pub sum : deck_text_as_number built_in_deck_text % (2 ^ 127 - 1) ≡ 28873304339660549336200513564783994945
