-- The data of each place, as lists.
use Rattle.std.specs.Prelude.{ℕ, List, [], ◌∷◌, ◌++◌, Bool, false, Option, None, map, slice_set}
use Rattle.edge_links.specs.declared.slots.Seat.{Seat}
use Rattle.edge_links.specs.declared.slots.Side.{Side}
use Rattle.edge_links.specs.declared.slots.Side.TheVariants.{User, Key}
use Rattle.edge_links.specs.declared.slots.Slot.{Slot}

-- for each place its neighbours in a ring, and the head that owns it
pub record LinkRing : Type 0 where
  pub next : List ℕ
  pub prev : List ℕ
  pub owner : List ℕ

-- for each place its position in the ring of its user and of its key, whether it is waiting, the place that began to
-- wait before it, and its name
pub record LinkColumns : Type 0 where
  pub users : LinkRing
  pub keys : LinkRing
  pub waits : List Bool
  pub behind : List (Option ℕ)
  pub names : List ℕ

abbrev pub no_link_ring : LinkRing
no_link_ring = record { next = []; prev = []; owner = [] }

abbrev pub no_link_columns : LinkColumns
no_link_columns = record { users = no_link_ring; keys = no_link_ring; waits = []; behind = []; names = [] }

abbrev pub link_ring : (Slot → Seat) → List Slot → LinkRing
link_ring seat slots = record {
  next = map (λ s. (seat s).next) slots;
  prev = map (λ s. (seat s).prev) slots;
  owner = map (λ s. (seat s).owner) slots;
}

abbrev pub link_columns : List Slot → LinkColumns
link_columns slots = record {
  users = link_ring (λ s. s.user) slots;
  keys = link_ring (λ s. s.key) slots;
  waits = map (λ s. s.waits) slots;
  behind = map (λ s. s.behind) slots;
  names = map (λ s. s.name) slots;
}

abbrev pub link_ring_of_side : Side → LinkColumns → LinkRing
link_ring_of_side User c = c.users
link_ring_of_side Key c = c.keys

abbrev pub link_columns_with_ring : Side → LinkColumns → LinkRing → LinkColumns
link_columns_with_ring User c r = record c { users = r }
link_columns_with_ring Key c r = record c { keys = r }

-- the columns with one number of one place replaced
abbrev pub link_columns_with_next : Side → LinkColumns → ℕ → ℕ → LinkColumns
link_columns_with_next side c p q = link_columns_with_ring side c
    (record (link_ring_of_side side c) { next = slice_set (link_ring_of_side side c).next p q })

abbrev pub link_columns_with_prev : Side → LinkColumns → ℕ → ℕ → LinkColumns
link_columns_with_prev side c p q = link_columns_with_ring side c
    (record (link_ring_of_side side c) { prev = slice_set (link_ring_of_side side c).prev p q })

abbrev pub link_columns_with_seat : Side → LinkColumns → ℕ → Seat → LinkColumns
link_columns_with_seat side c p seat = link_columns_with_ring side c (record {
  next = slice_set (link_ring_of_side side c).next p seat.next;
  prev = slice_set (link_ring_of_side side c).prev p seat.prev;
  owner = slice_set (link_ring_of_side side c).owner p seat.owner;
})

abbrev pub link_columns_with_waits : LinkColumns → ℕ → Bool → LinkColumns
link_columns_with_waits c p flag = record c { waits = slice_set c.waits p flag }

abbrev pub link_columns_with_next_place : LinkColumns → ℕ → Option ℕ → LinkColumns
link_columns_with_next_place c p q = record c { behind = slice_set c.behind p q }

-- a ring with one more place, which is alone
abbrev pub link_ring_with_alone : LinkRing → ℕ → LinkRing
link_ring_with_alone r p = record { next = r.next ++ p ∷ []; prev = r.prev ++ p ∷ []; owner = r.owner ++ p ∷ [] }

-- the columns with one more place, which is alone in both rings and has this name
abbrev pub link_columns_with_slot : LinkColumns → ℕ → ℕ → LinkColumns
link_columns_with_slot c p name = record {
  users = link_ring_with_alone c.users p;
  keys = link_ring_with_alone c.keys p;
  waits = c.waits ++ false ∷ [];
  behind = c.behind ++ None ∷ [];
  names = c.names ++ name ∷ [];
}
