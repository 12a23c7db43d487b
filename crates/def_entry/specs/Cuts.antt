-- The ends of the parts of a line.
use Rattle.std.specs.Prelude.{◌==◌, ◌+◌, ℕ, List, [], ◌∷◌, Bool, not, take, drop, if◌then◌else◌, Option, Some, None}
use Rattle.std.specs.Prelude.{option_map}
use Rattle.std.specs.List.{list_all, position}

-- the text after its first byte, if that byte is `mark`
abbrev pub behind_byte : ℕ → List ℕ → Option (List ℕ)
behind_byte mark [] = None
behind_byte mark (b ∷ text) = if b == mark then Some text else None

-- the text before the first `mark` and the text after it
abbrev pub cut_at : ℕ → List ℕ → Option (List ℕ × List ℕ)
cut_at mark text = option_map (λ n. (take n text, drop (n + 1) text)) (position (λ b. b == mark) text)

-- the text does not contain `mark`
abbrev pub entry_text_lacks : ℕ → List ℕ → Bool
entry_text_lacks mark text = list_all (λ b. not (b == mark)) text
