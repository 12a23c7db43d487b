-- Columns with one ring replaced, or with one more place.
use Rattle.std.proofs.Common.{◌≡◌, ℕ, List, [], ◌∷◌, ◌++◌, Bool, false, Option, None, length, set, get_or, refl, sym}
use Rattle.std.proofs.Common.{◌∙◌, ap, arith}
use Rattle.std.proofs.lemmas.List.{length-append}
use Rattle.edge_links.specs.declared.slots.Side.{Side}
use Rattle.edge_links.specs.declared.slots.Side.TheVariants.{User, Key}
use Rattle.edge_links.specs.Columns.{LinkRing, LinkColumns, no_link_columns, link_ring_of_side, link_columns_with_ring}
use Rattle.edge_links.specs.Columns.{link_columns_with_next, link_columns_with_prev, link_columns_with_seat}
use Rattle.edge_links.specs.Columns.{link_columns_with_slot}
use Rattle.edge_links.specs.RingInvariants.{AreLinked}
use Rattle.edge_links.specs.Owners.{link_owners, link_owners_of_side, link_owners_with_owner}
use Rattle.edge_links.specs.Rings.{AreLinkRings}
use Rattle.edge_links.specs.WaitingStack.{AreWaitingLinks}
use Rattle.edge_links.proofs.OneMorePlace.{empty_lists_are_link_rings, grown_link_rings_are_rings}
use Rattle.edge_links.proofs.RingJoins.{with_joined}
use Rattle.edge_links.proofs.RingLeaves.{without}
use Rattle.edge_links.proofs.WaitingPlaces.{no_places_no_waiting_links, waiting_links_with_place}

-- the owners on a side are those of its ring
pub link_owners_are_of_ring : (side : Side) (c : LinkColumns)
    → link_owners_of_side side (link_owners c) ≡ (link_ring_of_side side c).owner
link_owners_are_of_ring User c = refl
link_owners_are_of_ring Key c = refl

-- both sides have rings
pub both_link_sides_have_rings : (side : Side) (c : LinkColumns) (top : Option ℕ) → AreLinked c top
    → AreLinkRings (link_ring_of_side side c)
both_link_sides_have_rings User c top l = l.users
both_link_sides_have_rings Key c top l = l.keys

-- columns with a ring replaced by one of the same length are linked
pub linked_columns_with_other_ring : (side : Side) (c : LinkColumns) (top : Option ℕ) (r : LinkRing) → AreLinked c top
    → AreLinkRings r
    → length r.owner ≡ length (link_ring_of_side side c).owner → AreLinked (link_columns_with_ring side c r) top
linked_columns_with_other_ring User c top r l are size = record {
  users = are;
  keys = l.keys;
  waiting_stack = l.waiting_stack;
  users_size = size ∙ l.users_size;
  keys_size = l.keys_size;
  waits_size = l.waits_size;
}
linked_columns_with_other_ring Key c top r l are size = record {
  users = l.users;
  keys = are;
  waiting_stack = l.waiting_stack;
  users_size = l.users_size;
  keys_size = size ∙ l.keys_size;
  waits_size = l.waits_size;
}

-- columns with a ring replaced show its owners
pub link_ring_shows_its_owners : (side : Side) (c : LinkColumns) (r : LinkRing) (p h : ℕ)
    → r.owner ≡ set (link_ring_of_side side c).owner p h
    → link_owners (link_columns_with_ring side c r) ≡ link_owners_with_owner side (link_owners c) p h
link_ring_shows_its_owners User c r p h e = ap (λ xs. record (link_owners c) { users = xs }) e
link_ring_shows_its_owners Key c r p h e = ap (λ xs. record (link_owners c) { keys = xs }) e

-- columns with other waiting lists are linked
pub linked_columns_with_other_waiting : (c : LinkColumns) (top top2 : Option ℕ) (waits : List Bool)
    (behind : List (Option ℕ)) → AreLinked c top
    → length waits ≡ length c.waits → AreWaitingLinks waits behind top2
    → AreLinked (record c { waits = waits; behind = behind }) top2
linked_columns_with_other_waiting c top top2 waits behind l size w = record {
  users = l.users;
  keys = l.keys;
  waiting_stack = w;
  users_size = l.users_size;
  keys_size = l.keys_size;
  waits_size = size ∙ l.waits_size;
}

-- the three writes that put a place after a head
pub link_columns_after_join : (side : Side) (c : LinkColumns) (p h f : ℕ)
    → f ≡ get_or (link_ring_of_side side c).next h 0
    → link_columns_with_next side
    (link_columns_with_prev side (link_columns_with_seat side c p (record { next = f; prev = h; owner = h })) f p) h p
    ≡ link_columns_with_ring side c
    (with_joined (link_ring_of_side side c) p h)
link_columns_after_join User c p h f e =
    ap (λ x. link_columns_with_next User
    (link_columns_with_prev User (link_columns_with_seat User c p (record { next = x; prev = h; owner = h })) x p) h
    p) e
link_columns_after_join Key c p h f e =
    ap (λ x. link_columns_with_next Key
    (link_columns_with_prev Key (link_columns_with_seat Key c p (record { next = x; prev = h; owner = h })) x p) h
    p) e

-- the three writes that remove a place
pub link_columns_after_leave : (side : Side) (c : LinkColumns) (p b a : ℕ)
    → b ≡ get_or (link_ring_of_side side c).prev p 0
    → a ≡ get_or (link_ring_of_side side c).next p 0
    → link_columns_with_seat side (link_columns_with_prev side (link_columns_with_next side c b a) a b) p
    (record { next = p; prev = p; owner = p })
    ≡ link_columns_with_ring side c
    (without (link_ring_of_side side c) p)
link_columns_after_leave User c p b a e f = λ i. link_columns_with_seat User
    (link_columns_with_prev User (link_columns_with_next User c (e i) (f i)) (f i) (e i)) p
    (record { next = p; prev = p; owner = p })
link_columns_after_leave Key c p b a e f = λ i. link_columns_with_seat Key
    (link_columns_with_prev Key (link_columns_with_next Key c (e i) (f i)) (f i) (e i)) p
    (record { next = p; prev = p; owner = p })

-- empty columns are linked
pub empty_columns_are_linked : AreLinked no_link_columns None
empty_columns_are_linked = record {
  users = empty_lists_are_link_rings;
  keys = empty_lists_are_link_rings;
  waiting_stack = no_places_no_waiting_links;
  users_size = refl;
  keys_size = refl;
  waits_size = refl;
}

-- columns with one more place are linked
pub grown_columns_are_linked : (c : LinkColumns) (top : Option ℕ) (p name : ℕ) → AreLinked c top → p ≡ length c.names
    → AreLinked (link_columns_with_slot c p name) top
grown_columns_are_linked c top p name l e = record {
  users = grown_link_rings_are_rings c.users p l.users (e ∙ sym l.users_size);
  keys = grown_link_rings_are_rings c.keys p l.keys (e ∙ sym l.keys_size);
  waiting_stack = waiting_links_with_place c.waits c.behind top l.waiting_stack;
  users_size = longer c.users.owner c.names p name l.users_size;
  keys_size = longer c.keys.owner c.names p name l.keys_size;
  waits_size = longer c.waits c.names false name l.waits_size;
}
  where
    longer : {A : Type 0} (xs : List A) (ys : List ℕ) (x : A) (y : ℕ) → length xs ≡ length ys
        → length (xs ++ x ∷ []) ≡ length (ys ++ y ∷ [])
    longer xs ys x y e = let a = length-append xs (x ∷ []) in let b = length-append ys (y ∷ []) in omega arith
