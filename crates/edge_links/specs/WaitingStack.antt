-- Waiting places, each of which links to the one that began to wait before it.
use Rattle.std.specs.Prelude.{◌≡◌, ◌↔◌, ℕ, ◌<◌, List, [], ◌∷◌, length, Option, Some, None, Bool, true, false}
use Rattle.std.specs.Prelude.{slice_index_or, ◌+◌, Contains}

-- no place occurs twice
abbrev pub AreLinkPlacesApart : List ℕ → Type 0
AreLinkPlacesApart [] = Unit {0}
AreLinkPlacesApart (x ∷ xs) = (Contains xs x → ⊥) × AreLinkPlacesApart xs

-- starting from a place, each links to the next
abbrev pub IsWaitingLinkChain : List (Option ℕ) → Option ℕ → List ℕ → Type 0
IsWaitingLinkChain behind top [] = top ≡ None
IsWaitingLinkChain behind top (x ∷ xs) = (top ≡ Some x) × (x < length behind) × IsWaitingLinkChain behind
    (slice_index_or behind x None) xs

pub record AreWaitingLinks (waits : List Bool) (behind : List (Option ℕ)) (top : Option ℕ) : Type 0 where
  pub size : length behind ≡ length waits
  pub places : List ℕ
  pub stack_chain : IsWaitingLinkChain behind top places
  pub flags_of_places : (x : ℕ) → (slice_index_or waits x false ≡ true) ↔ Contains places x
  pub apart : AreLinkPlacesApart places

-- the number of waiting places
abbrev pub waiting_link_count : List Bool → ℕ
waiting_link_count [] = 0
waiting_link_count (true ∷ qs) = 1 + waiting_link_count qs
waiting_link_count (false ∷ qs) = waiting_link_count qs
