-- The words of a text, which are separated by blanks.
use Rattle.std.specs.Prelude.{◌&&◌, ℕ, List, [], ◌∷◌, Bool, true, false, not, length, drop}
use Rattle.std.specs.List.{before_first, list_any, slice_split}
use Rattle.std.specs.Str.{bytes_eq}
use Rattle.units_io.specs.Blanks.{is_blank_text_byte}
use Rattle.def_lines.specs.Blanks.{after_blanks, trimmed_of_blanks}

-- the texts that are not empty
abbrev pub nonempty_between_blanks : List (List ℕ) → List (List ℕ)
nonempty_between_blanks [] = []
nonempty_between_blanks ([] ∷ texts) = nonempty_between_blanks texts
nonempty_between_blanks ((b ∷ bytes) ∷ texts) = (b ∷ bytes) ∷ nonempty_between_blanks texts

-- the words: the nonempty texts between blanks
unfoldable pub words_between_blanks : List ℕ → List (List ℕ)
words_between_blanks text = nonempty_between_blanks (slice_split is_blank_text_byte text)

-- the text before the first blank, or all of it if there is none
abbrev pub first_word_before_blank : List ℕ → List ℕ
first_word_before_blank text = before_first is_blank_text_byte text

-- the text after the first word, without leading blanks
abbrev pub after_word_and_blanks : List ℕ → List ℕ
after_word_and_blanks text = after_blanks (drop (length (first_word_before_blank text)) text)

-- the text after the first word, trimmed
abbrev pub after_word_trimmed_of_blanks : List ℕ → List ℕ
after_word_trimmed_of_blanks text = trimmed_of_blanks (drop (length (first_word_before_blank text)) text)

-- the text is empty
abbrev pub is_empty : List ℕ → Bool
is_empty [] = true
is_empty (b ∷ bytes) = false

-- the text is a single word
abbrev pub is_word : List ℕ → Bool
is_word text = not (is_empty text) && not (list_any is_blank_text_byte text)

-- the value is one of the words of a text
abbrev pub is_listed : List ℕ → List ℕ → Bool
is_listed values value = list_any (λ word. bytes_eq word value) (words_between_blanks values)
