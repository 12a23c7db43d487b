use Rattle.std.proofs.Common.{◌≡◌, ℕ, ◌-◌, ◌<◌, List, [], ◌∷◌, ◌++◌, length, get_or, sym, ◌∙◌, ap, subst, arith}
use Rattle.std.proofs.lemmas.List.{length-append}
use Rattle.edge_links.specs.Columns.{link_ring_of_side}
use Rattle.edge_links.specs.Rings.{AreLinkRingMembers}
use Rattle.edge_links.proofs.ColumnChanges.{both_link_sides_have_rings}
use Rattle.edge_links.proofs.Moves.{side_link_owners_are_of_ring}
use Rattle.edge_links.proofs.BackwardWalks.{IsWalking, link_ring_walk_starts_before_head, link_ring_walk_continues}
use Rattle.edge_links.proofs.BackwardWalks.{link_ring_walk_meets_fewer, link_ring_walk_meets_all}
use Rattle.edge_links.proofs.rings.Rings.members.Goals as goal

pub loop-place-init : goal.loop-place-init
loop-place-init c =
    let same = side_link_owners_are_of_ring c.args.side c.self.inside.slots c.args.self.now c.self.view_is in
    subst (λ xs. IsWalking (link_ring_of_side c.args.side c.self.inside.slots) c.args.head c.seat-place.result.prev xs)
    (sym c.new-places.ensures.items)
    (subst (λ q. IsWalking (link_ring_of_side c.args.side c.self.inside.slots) c.args.head q [])
    (sym c.seat-place.ensures.prev)
    (link_ring_walk_starts_before_head (link_ring_of_side c.args.side c.self.inside.slots) c.args.head
    (both_link_sides_have_rings c.args.side c.self.inside.slots c.self.inside.last_waiting c.self.invariant)
    (subst (λ (xs : List ℕ). c.args.head < length xs) same c.requires.there)
    (subst (λ (xs : List ℕ). get_or xs c.args.head 0 ≡ c.args.head) same c.requires.head)))

pub loop-place-preserved : goal.loop-place-preserved
loop-place-preserved c =
    subst (λ xs. IsWalking (link_ring_of_side c.args.side c.self.inside.slots) c.args.head
    c.seat-place-in-loop-place.result.prev
    xs)
    (sym c.in_ok-push.ensures.items)
    (subst (λ q. IsWalking (link_ring_of_side c.args.side c.self.inside.slots) c.args.head q
    (c.loop-place.places.items ++ c.loop-place.place ∷ []))
    (sym c.seat-place-in-loop-place.ensures.prev)
    (link_ring_walk_continues (link_ring_of_side c.args.side c.self.inside.slots) c.args.head c.loop-place.place
    c.loop-place.places.items
    c.loop-place.invariant
    c.loop-place-test.true))

less : (met more : List ℕ) (place n : ℕ) → more ≡ met ++ place ∷ [] → length met < n → n - length more < n - length met
less met more place n e l = let a = ap length e ∙ length-append met (place ∷ []) in omega arith

pub loop-place-smaller : goal.loop-place-smaller
loop-place-smaller c =
    less c.loop-place.places.items c.push.new.self.items c.loop-place.place
    (length (link_ring_of_side c.args.side c.self.inside.slots).owner)
    c.in_ok-push.ensures.items
    (link_ring_walk_meets_fewer (link_ring_of_side c.args.side c.self.inside.slots) c.args.head c.loop-place.place
    c.loop-place.places.items
    c.loop-place.invariant
    c.loop-place-test.true)

pub returns : goal.returns
returns c =
    subst (λ (xs : List ℕ). AreLinkRingMembers xs c.args.head c.loop-place.places.items)
    (sym (side_link_owners_are_of_ring c.args.side c.self.inside.slots c.args.self.now c.self.view_is))
    (link_ring_walk_meets_all (link_ring_of_side c.args.side c.self.inside.slots) c.args.head c.loop-place.places.items
    (subst (λ q. IsWalking (link_ring_of_side c.args.side c.self.inside.slots) c.args.head q c.loop-place.places.items)
    c.loop-place-test.false
    c.loop-place.invariant))
