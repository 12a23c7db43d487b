-- Places and their owners: each place is a head, an edge from a user to a key, or free, that is, an edge from 0 to 0.
use Rattle.std.specs.Prelude.{◌≡◌, ◌↔◌, ℕ, ◌-◌, ◌^◌, ◌<◌, List, [], ◌∷◌, ◌++◌, length, Bool, true, false}
use Rattle.std.specs.Prelude.{slice_index, slice_index_or, slice_set}
use Rattle.edge_links.specs.declared.slots.Side.{Side}
use Rattle.edge_links.specs.declared.slots.Side.TheVariants.{User, Key}
use Rattle.edge_links.specs.Columns.{LinkColumns}
use Rattle.edge_links.specs.Times.{times}

-- the user and the key of each place, whether it is waiting, and its name
pub record LinkOwners : Type 0 where
  pub users : List ℕ
  pub keys : List ℕ
  pub waits : List Bool
  pub names : List ℕ

abbrev pub no_link_owners : LinkOwners
no_link_owners = record { users = []; keys = []; waits = []; names = [] }

abbrev pub link_owners : LinkColumns → LinkOwners
link_owners c = record { users = c.users.owner; keys = c.keys.owner; waits = c.waits; names = c.names }

abbrev pub link_owners_of_side : Side → LinkOwners → List ℕ
link_owners_of_side User s = s.users
link_owners_of_side Key s = s.keys

-- the places with another owner for one of them
abbrev pub link_owners_with_owner : Side → LinkOwners → ℕ → ℕ → LinkOwners
link_owners_with_owner User s p head = record s { users = slice_set s.users p head }
link_owners_with_owner Key s p head = record s { keys = slice_set s.keys p head }

-- the places with one of them waiting or not
abbrev pub link_owners_with_waits : LinkOwners → ℕ → Bool → LinkOwners
link_owners_with_waits s p flag = record s { waits = slice_set s.waits p flag }

-- the places with one more, which is a head that owns only itself
abbrev pub link_owners_with_head : LinkOwners → ℕ → ℕ → LinkOwners
link_owners_with_head s p name = record {
  users = s.users ++ p ∷ [];
  keys = s.keys ++ p ∷ [];
  waits = s.waits ++ false ∷ [];
  names = s.names ++ name ∷ [];
}

-- heads own themselves, and edges belong to heads
pub record AreLinkEdges (users keys : List ℕ) : Type 0 where
  pub keys_size : length keys ≡ length users
  pub zero_owner : slice_index users 0 ≡ 0
  pub heads : (p : ℕ) → p < length users → (slice_index users p ≡ p) ↔ (slice_index keys p ≡ p)
  pub free : (p : ℕ) → p < length users → (slice_index users p ≡ 0) ↔ (slice_index keys p ≡ 0)
  pub owners_within : (p : ℕ) → p < length users → slice_index users p < length users
  pub key_within : (p : ℕ) → p < length users → slice_index keys p < length users
  pub top : (p : ℕ) → p < length users → slice_index users (slice_index users p) ≡ slice_index users p
  pub key_top : (p : ℕ) → p < length users → slice_index users (slice_index keys p) ≡ slice_index keys p

-- a head other than that of the free places
abbrev pub IsLinkHead : LinkOwners → ℕ → Type 0
IsLinkHead s x = (x < length s.users) × (slice_index s.users x ≡ x) × (x ≡ 0 → ⊥)

-- the place is waiting
abbrev pub LinkPlaceWaits : LinkOwners → ℕ → Type 0
LinkPlaceWaits s x = slice_index_or s.waits x false ≡ true

-- the number of places that a head owns
abbrev pub link_owned_count : ℕ → List ℕ → ℕ
link_owned_count x owners = times x owners

-- the number of free places, without place 0, is `spare`, and the number of places fits in 64 bits
pub record AreLinkPlaces (s : LinkOwners) (spare : ℕ) : Type 0 where
  pub edges : AreLinkEdges s.users s.keys
  pub spare_count : spare ≡ link_owned_count 0 s.users - 1
  pub size : length s.users < 2 ^ 64
