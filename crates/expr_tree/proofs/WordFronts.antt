-- Words of expressions, and the bytes that a word may have.
use Rattle.std.specs.List.{list_all, prefix_len}
use Rattle.std.proofs.Common.{◌≡◌, ◌+◌, ◌&&◌, ℕ, zero, suc, Bool, true, false, cond, List, [], ◌∷◌, take, refl, ap, ◌∙◌}
use Rattle.std.proofs.Common.{one-add}
use Rattle.expr_tree.specs.Names.{is_word_byte}

-- the front of a word consists of bytes of words
pub word-token-bytes-take : (n : ℕ) (word : List ℕ) → list_all is_word_byte word ≡ true
    → list_all is_word_byte (take n word) ≡ true
word-token-bytes-take zero [] h = refl
word-token-bytes-take (suc n) [] h = refl
word-token-bytes-take zero (b ∷ word) h = refl
word-token-bytes-take (suc n) (b ∷ word) h = go (is_word_byte b) h (word-token-bytes-take n word)
  where
    go : (t : Bool) → (t && list_all is_word_byte word) ≡ true
        → (list_all is_word_byte word ≡ true → list_all is_word_byte (take n word) ≡ true)
        → (t && list_all is_word_byte (take n word)) ≡ true
    go true h rest = rest h
    go false h rest = cc

-- the longest front of bytes of words consists of such bytes
pub prefix_len-word-token-bytes : (text : List ℕ)
    → list_all is_word_byte (take (prefix_len is_word_byte text) text) ≡ true
prefix_len-word-token-bytes [] = refl
prefix_len-word-token-bytes (b ∷ text) = go (is_word_byte b) refl (prefix_len-word-token-bytes text)
  where
    go : (t : Bool) → is_word_byte b ≡ t → list_all is_word_byte (take (prefix_len is_word_byte text) text) ≡ true
        → list_all is_word_byte (take (cond t (1 + prefix_len is_word_byte text) 0) (b ∷ text)) ≡ true
    go true e rest =
        ap (λ n. list_all is_word_byte (take n (b ∷ text))) (one-add (prefix_len is_word_byte text))
        ∙ ap (λ t. t && list_all is_word_byte (take (prefix_len is_word_byte text) text)) e ∙ rest
    go false e rest = refl

pub ruleset words = (word-token-bytes-take, prefix_len-word-token-bytes)
