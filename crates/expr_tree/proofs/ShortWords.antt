-- Bytes that are too short to be one of some words.
use Rattle.std.proofs.Common.{◌≡◌, ℕ, ◌+◌, ◌<◌, ◌||◌, Bool, true, false, List, [], ◌∷◌, length, ap, arith, refl, sym}
use Rattle.std.specs.Prelude.{nat_lt}
use Rattle.std.specs.List.{list_all}
use Rattle.std.specs.Str.{bytes_eq}
use Rattle.std.proofs.lemmas.Bool.{and_parts, ltb-true}
use Rattle.std.proofs.lemmas.Slice.Eq.{bytes_eq-Decides}
use Rattle.expr_tree.specs.Names.{is_expression_word_among}

-- bytes that are shorter than a word are not the word
shorter_bytes_are_not_word : (bytes word : List ℕ) → length bytes < length word → bytes_eq bytes word ≡ false
shorter_bytes_are_not_word bytes word short = go (bytes_eq bytes word) refl where
  go : (same : Bool) → bytes_eq bytes word ≡ same → same ≡ false
  go true e = let even : length bytes ≡ length word = ap length ((bytes_eq-Decides bytes word).0 e) in absurd
      (omega arith)
  go false e = refl

-- bytes that are shorter than each of some words are none of them
pub short_bytes_are_not_among : (n : ℕ) (words : List (List ℕ)) (bytes : List ℕ)
    → list_all (λ word. nat_lt n (length word)) words ≡ true → length bytes < n + 1
    → false ≡ is_expression_word_among words bytes
short_bytes_are_not_among n [] bytes long short = refl
short_bytes_are_not_among n (word ∷ words) bytes long short =
    let parts : (nat_lt n (length word) ≡ true) × (list_all (λ word. nat_lt n (length word)) words ≡ true) =
    and_parts _ _ long in
    let longer : n < length word = ltb-true n (length word) parts.0 in
    let first : bytes_eq bytes word ≡ false = shorter_bytes_are_not_word bytes word (omega arith) in
    λ i. sym first i || short_bytes_are_not_among n words bytes parts.1 short i
