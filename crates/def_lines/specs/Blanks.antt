-- Blanks at the ends of a text.
use Rattle.std.specs.Prelude.{ℕ, List, [], ◌∷◌, reverse, if◌then◌else◌}
use Rattle.units_io.specs.Blanks.{is_blank_text_byte}

-- a text without leading blanks
abbrev pub after_blanks : List ℕ → List ℕ
after_blanks [] = []
after_blanks (b ∷ bytes) = if is_blank_text_byte b then after_blanks bytes else b ∷ bytes

-- a text without trailing blanks
abbrev pub before_blanks : List ℕ → List ℕ
before_blanks bytes = reverse (after_blanks (reverse bytes))

-- a text without the blanks at both ends
abbrev pub trimmed_of_blanks : List ℕ → List ℕ
trimmed_of_blanks bytes = after_blanks (before_blanks bytes)
