-- The bytes that separate words.
use Rattle.std.specs.Prelude.{◌==◌, ◌||◌, ℕ, Bool}

-- the byte is a space or a tab
abbrev pub is_blank_text_byte : ℕ → Bool
is_blank_text_byte b = b == 32 || b == 9
