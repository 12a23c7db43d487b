-- The changes that the calls on places make.
use Rattle.std.specs.Prelude.{◌≡◌, ◌⊎◌, ℕ, ◌+◌, ◌<◌, ◌≤◌, length, slice_index, slice_set}
use Rattle.edge_links.specs.Owners.{LinkOwners, link_owned_count, link_owners_with_head}
use Rattle.edge_links.specs.WaitingStack.{waiting_link_count}

-- nothing changed, or place 0 was added
abbrev pub AreLinksBegun : LinkOwners → LinkOwners → Type 0
AreLinksBegun old new = (new ≡ old) ⊎ ((length old.users ≡ 0) × (new ≡ link_owners_with_head old 0 0))

-- a place that satisfies the test became free, and each other place is unchanged
abbrev pub IsLinkPlaceFreed : (ℕ → Type 0) → LinkOwners → LinkOwners → Type 0
IsLinkPlaceFreed Test old new =
    (p : ℕ) → p < length old.users
    → (Test p → (slice_index new.users p ≡ 0) × (slice_index new.keys p ≡ 0))
    × ((Test p → ⊥)
    → (slice_index new.users p ≡ slice_index old.users p) × (slice_index new.keys p ≡ slice_index old.keys p))

-- each place satisfies the test and became free, or does not satisfy it and is unchanged
abbrev pub AreLinkPlacesParted : (ℕ → Type 0) → LinkOwners → LinkOwners → Type 0
AreLinkPlacesParted Test old new =
    (p : ℕ) → p < length old.users
    → (Test p × (slice_index new.users p ≡ 0) × (slice_index new.keys p ≡ 0))
    ⊎ ((Test p → ⊥)
    × (slice_index new.users p ≡ slice_index old.users p) × (slice_index new.keys p ≡ slice_index old.keys p))

-- p is a place other than the head x, and its user (HasUser) or its key (HasKey) is x
abbrev pub HasLinkUser : LinkOwners → ℕ → ℕ → Type 0
HasLinkUser s x p = (p ≡ x → ⊥) × (slice_index s.users p ≡ x)

abbrev pub HasLinkKey : LinkOwners → ℕ → ℕ → Type 0
HasLinkKey s x p = (p ≡ x → ⊥) × (slice_index s.keys p ≡ x)

-- the places with another user and another key for one of them
abbrev pub link_owners_with_both : LinkOwners → ℕ → ℕ → ℕ → LinkOwners
link_owners_with_both s p user key = record s { users = slice_set s.users p user; keys = slice_set s.keys p key }

-- a free place became an edge
pub record IsLinkPlaceFilled (old : LinkOwners) (user key : ℕ) (new : LinkOwners) : Type 0 where
  pub place : ℕ
  pub place_within : place < length old.users
  pub free : (place ≡ 0 → ⊥) × (slice_index old.users place ≡ 0)
  pub slot_filled : new ≡ link_owners_with_both old place user key

-- each place that began to wait is paid for by an edge that was removed
abbrev pub AreWaitingLinksPaid : LinkOwners → LinkOwners → Type 0
AreWaitingLinksPaid old new = waiting_link_count new.waits + link_owned_count 0 old.users ≤ waiting_link_count old.waits
    + link_owned_count 0 new.users
