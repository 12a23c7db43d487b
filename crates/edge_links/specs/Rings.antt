-- Places in rings. Each ring has one head, which owns itself and the other places of the ring.
use Rattle.std.specs.Prelude.{◌≡◌, ℕ, ◌<◌, nat_eq, List, length, slice_index, if◌then◌else◌}
use Rattle.edge_links.specs.Columns.{LinkRing}
use Rattle.edge_links.specs.Times.{times}

abbrev pub update_at : (ℕ → ℕ) → ℕ → ℕ → ℕ → ℕ
update_at f i v k = if nat_eq k i then v else f k

-- `next` and `prev` are inverse to each other, all places of a ring have the same owner, and the rank decreases along
-- `prev` until the head
pub record IsLinkRing (n : ℕ) (next prev owner : ℕ → ℕ) : Type 0 where
  pub next_in : (p : ℕ) → p < n → next p < n
  pub prev_in : (p : ℕ) → p < n → prev p < n
  pub prev_of_next : (p : ℕ) → p < n → prev (next p) ≡ p
  pub next_of_prev : (p : ℕ) → p < n → next (prev p) ≡ p
  pub own_in : (p : ℕ) → p < n → owner p < n
  pub same_owner : (p : ℕ) → p < n → owner (next p) ≡ owner p
  pub top : (p : ℕ) → p < n → owner (owner p) ≡ owner p
  pub rank : ℕ → ℕ
  pub falls : (p : ℕ) → p < n → (owner p ≡ p → ⊥) → rank (prev p) < rank p

pub record AreLinkRings (r : LinkRing) : Type 0 where
  pub sizes : (length r.next ≡ length r.owner) × (length r.prev ≡ length r.owner)
  pub ring : IsLinkRing (length r.owner) (slice_index r.next) (slice_index r.prev) (slice_index r.owner)

-- the places that a head owns, without the head, each once
pub record AreLinkRingMembers (owners : List ℕ) (head : ℕ) (places : List ℕ) : Type 0 where
  pub members_owned : (p : ℕ) → 0 < times p places → (p < length owners) × (slice_index owners p ≡ head)
      × (p ≡ head → ⊥)
  pub once : (p : ℕ) → p < length owners → slice_index owners p ≡ head → (p ≡ head → ⊥) → times p places ≡ 1
