-- Writing one slot.
use Rattle.std.proofs.Common.{◌≡◌, ℕ, List, Bool, Option, map, set, get_or, refl, ap, ◌∙◌}
use Rattle.std.proofs.lemmas.List.{map-set}
use Rattle.std.proofs.Math.Seq.{map-set_same}
use Rattle.edge_links.specs.declared.slots.Seat.{Seat}
use Rattle.edge_links.specs.declared.slots.Slot.{Slot}
use Rattle.edge_links.specs.Columns.{LinkRing, link_ring, link_columns}

module _ (slots : List Slot) (i : ℕ) (s : Slot) (at : s ≡ get_or slots i s) where
  -- a column in which the new slot equals the old one does not change
  kept : {A : Type 0} (f : Slot → A) (t : Slot) → f t ≡ f s → map f (set slots i t) ≡ map f slots
  kept f t e = map-set_same f slots i t s (e ∙ ap f at)

  ring_kept : (seat : Slot → Seat) (t : Slot) → seat t ≡ seat s → link_ring seat (set slots i t) ≡ link_ring seat slots
  ring_kept seat t e = λ j. record {
    next = kept (λ x. (seat x).next) t (ap (λ (x : Seat). x.next) e) j;
    prev = kept (λ x. (seat x).prev) t (ap (λ (x : Seat). x.prev) e) j;
    owner = kept (λ x. (seat x).owner) t (ap (λ (x : Seat). x.owner) e) j;
  }

  next_set : (seat : Slot → Seat) (t : Slot) (v : ℕ) → seat t ≡ record (seat s) { next = v }
      → link_ring seat (set slots i t) ≡ record (link_ring seat slots) { next = set (link_ring seat slots).next i v }
  next_set seat t v e = λ j. record {
    next = (map-set (λ x. (seat x).next) slots i t ∙ ap (λ (x : Seat). set (link_ring seat slots).next i x.next) e) j;
    prev = kept (λ x. (seat x).prev) t (ap (λ (x : Seat). x.prev) e) j;
    owner = kept (λ x. (seat x).owner) t (ap (λ (x : Seat). x.owner) e) j;
  }

  prev_set : (seat : Slot → Seat) (t : Slot) (v : ℕ) → seat t ≡ record (seat s) { prev = v }
      → link_ring seat (set slots i t) ≡ record (link_ring seat slots) { prev = set (link_ring seat slots).prev i v }
  prev_set seat t v e = λ j. record {
    next = kept (λ x. (seat x).next) t (ap (λ (x : Seat). x.next) e) j;
    prev = (map-set (λ x. (seat x).prev) slots i t ∙ ap (λ (x : Seat). set (link_ring seat slots).prev i x.prev) e) j;
    owner = kept (λ x. (seat x).owner) t (ap (λ (x : Seat). x.owner) e) j;
  }

  seat_set : (seat : Slot → Seat) (t : Slot)
      → link_ring seat (set slots i t) ≡ record {
        next = set (link_ring seat slots).next i (seat t).next;
        prev = set (link_ring seat slots).prev i (seat t).prev;
        owner = set (link_ring seat slots).owner i (seat t).owner;
      }
  seat_set seat t = λ j. record {
    next = map-set (λ x. (seat x).next) slots i t j;
    prev = map-set (λ x. (seat x).prev) slots i t j;
    owner = map-set (λ x. (seat x).owner) slots i t j;
  }

  -- writing a slot with another seat in one of its rings
  user_set : (user : Seat) (r : LinkRing) → link_ring (λ x. x.user) (set slots i (record s { user = user })) ≡ r
      → link_columns (set slots i (record s { user = user })) ≡ record (link_columns slots) { users = r }
  user_set user r e =
      let t : Slot = record s { user = user } in
      λ j. record {
        users = e j;
        keys = ring_kept (λ x. x.key) t refl j;
        waits = kept (λ x. x.waits) t refl j;
        behind = kept (λ x. x.behind) t refl j;
        names = kept (λ x. x.name) t refl j;
      }

  key_set : (key : Seat) (r : LinkRing) → link_ring (λ x. x.key) (set slots i (record s { key = key })) ≡ r
      → link_columns (set slots i (record s { key = key })) ≡ record (link_columns slots) { keys = r }
  key_set key r e =
      let t : Slot = record s { key = key } in
      λ j. record {
        users = ring_kept (λ x. x.user) t refl j;
        keys = e j;
        waits = kept (λ x. x.waits) t refl j;
        behind = kept (λ x. x.behind) t refl j;
        names = kept (λ x. x.name) t refl j;
      }

  pub user_next : (v : ℕ) → link_columns (set slots i (record s { user = record s.user { next = v } }))
      ≡ record (link_columns slots)
      { users = record (link_columns slots).users { next = set (link_columns slots).users.next i v } }
  user_next v = user_set _ _ (next_set (λ x. x.user) (record s { user = record s.user { next = v } }) v refl)

  pub key_next : (v : ℕ) → link_columns (set slots i (record s { key = record s.key { next = v } })) ≡ record
      (link_columns slots)
      { keys = record (link_columns slots).keys { next = set (link_columns slots).keys.next i v } }
  key_next v = key_set _ _ (next_set (λ x. x.key) (record s { key = record s.key { next = v } }) v refl)

  pub user_prev : (v : ℕ) → link_columns (set slots i (record s { user = record s.user { prev = v } }))
      ≡ record (link_columns slots)
      { users = record (link_columns slots).users { prev = set (link_columns slots).users.prev i v } }
  user_prev v = user_set _ _ (prev_set (λ x. x.user) (record s { user = record s.user { prev = v } }) v refl)

  pub key_prev : (v : ℕ) → link_columns (set slots i (record s { key = record s.key { prev = v } })) ≡ record
      (link_columns slots)
      { keys = record (link_columns slots).keys { prev = set (link_columns slots).keys.prev i v } }
  key_prev v = key_set _ _ (prev_set (λ x. x.key) (record s { key = record s.key { prev = v } }) v refl)

  pub user_seat : (seat : Seat) → link_columns (set slots i (record s { user = seat })) ≡ record (link_columns slots) {
    users = record {
      next = set (link_columns slots).users.next i seat.next;
      prev = set (link_columns slots).users.prev i seat.prev;
      owner = set (link_columns slots).users.owner i seat.owner;
    };
  }
  user_seat seat = user_set seat _ (seat_set (λ x. x.user) (record s { user = seat }))

  pub key_seat : (seat : Seat) → link_columns (set slots i (record s { key = seat })) ≡ record (link_columns slots) {
    keys = record {
      next = set (link_columns slots).keys.next i seat.next;
      prev = set (link_columns slots).keys.prev i seat.prev;
      owner = set (link_columns slots).keys.owner i seat.owner;
    };
  }
  key_seat seat = key_set seat _ (seat_set (λ x. x.key) (record s { key = seat }))

  pub waits_set : (flag : Bool) → link_columns (set slots i (record s { waits = flag })) ≡ record (link_columns slots)
      { waits = set (link_columns slots).waits i flag }
  waits_set flag =
      let t : Slot = record s { waits = flag } in
      λ j. record {
        users = ring_kept (λ x. x.user) t refl j;
        keys = ring_kept (λ x. x.key) t refl j;
        waits = map-set (λ (x : Slot). x.waits) slots i t j;
        behind = kept (λ x. x.behind) t refl j;
        names = kept (λ x. x.name) t refl j;
      }

  pub behind_set : (q : Option ℕ) → link_columns (set slots i (record s { behind = q })) ≡ record (link_columns slots)
      { behind = set (link_columns slots).behind i q }
  behind_set q =
      let t : Slot = record s { behind = q } in
      λ j. record {
        users = ring_kept (λ x. x.user) t refl j;
        keys = ring_kept (λ x. x.key) t refl j;
        waits = kept (λ x. x.waits) t refl j;
        behind = map-set (λ (x : Slot). x.behind) slots i t j;
        names = kept (λ x. x.name) t refl j;
      }
