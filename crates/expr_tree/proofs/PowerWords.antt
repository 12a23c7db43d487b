-- Words with a power.
use Rattle.std.proofs.Common.{◌≡◌, ◌<◌, ℕ, true, List, [], ◌∷◌, length, arith}
use Rattle.std.proofs.lemmas.Bool.{and_parts}
use Rattle.expr_tree.specs.Names.{has_power, is_name, is_power_byte, last_byte, word_token_base}

-- a word with a power ends in a digit from 2 to 9
pub power-word-token-digit : (word : List ℕ) → has_power word ≡ true → is_power_byte (last_byte word) ≡ true
power-word-token-digit word h = (and_parts (is_power_byte (last_byte word)) (is_name (word_token_base word)) h).0

-- a word with a power is not empty
pub power-word-token-not-empty : (word : List ℕ) → has_power word ≡ true → 0 < length word
power-word-token-not-empty [] h = cc
power-word-token-not-empty (b ∷ bs) h = omega arith

pub ruleset powers = (power-word-token-digit, power-word-token-not-empty)
