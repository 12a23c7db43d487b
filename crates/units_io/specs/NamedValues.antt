-- Names with their values, as a list of pairs.
use Rattle.std.specs.Prelude.{◌≡◌, ◌≢◌, ℕ, List, [], ◌∷◌, Option, Some, ⊤, if◌then◌else◌}
use Rattle.std.specs.Map.{lookup}
use Rattle.std.specs.Str.{bytes_eq}

-- pairs of a name and its value
abbrev pub NamedTexts : Type 0
NamedTexts = List (List ℕ × List ℕ)

-- the value of the first pair with this name
abbrev pub named_text : NamedTexts → List ℕ → Option (List ℕ)
named_text pairs name = lookup (bytes_eq name) pairs

-- the pairs after the first pair with this name gets this value, or with a new pair at the end
abbrev pub with_named_text : NamedTexts → List ℕ → List ℕ → NamedTexts
with_named_text [] name value = (name, value) ∷ []
with_named_text (pair ∷ pairs) name value =
    if bytes_eq name pair.0 then (pair.0, value) ∷ pairs else pair ∷ with_named_text pairs name value

-- this name has this value, and each other name has the value that it had
abbrev pub SetsNamedText : NamedTexts → NamedTexts → List ℕ → List ℕ → Type 0
SetsNamedText old new name value =
    (other : List ℕ) → named_text new other ≡ (if bytes_eq other name then Some value else named_text old other)

-- no pair has this name
abbrev pub HasNoTextOfName : NamedTexts → List ℕ → Type 0
HasNoTextOfName [] name = ⊤
HasNoTextOfName (pair ∷ pairs) name = (pair.0 ≢ name) × HasNoTextOfName pairs name

-- no two pairs have the same name
abbrev pub HasDistinctTextNames : NamedTexts → Type 0
HasDistinctTextNames [] = ⊤
HasDistinctTextNames (pair ∷ pairs) = HasNoTextOfName pairs pair.0 × HasDistinctTextNames pairs
