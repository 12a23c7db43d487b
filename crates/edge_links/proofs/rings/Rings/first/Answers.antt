use Rattle.std.proofs.Common.{◌≡◌, ◌<◌, ℕ, Option, length, get_or, sym, ◌∙◌, subst}
use Rattle.edge_links.specs.declared.slots.Side.{Side}
use Rattle.edge_links.specs.Columns.{LinkColumns, link_ring_of_side}
use Rattle.edge_links.specs.RingInvariants.{AreLinked}
use Rattle.edge_links.specs.Owners.{LinkOwners, link_owners, link_owners_of_side}
use Rattle.edge_links.proofs.RingLeaves.{lone_member}
use Rattle.edge_links.proofs.ColumnChanges.{both_link_sides_have_rings}
use Rattle.edge_links.proofs.Moves.{side_link_owners_are_of_ring}
use Rattle.edge_links.proofs.rings.Rings.first.Goals as goal

none : (side : Side) (c : LinkColumns) (top : Option ℕ) (now : LinkOwners) (h p : ℕ) → AreLinked c top
    → link_owners c ≡ now
    → h < length (link_owners_of_side side now) → p ≡ get_or (link_ring_of_side side c).next h 0 → p ≡ h
    → (q : ℕ) → q < length (link_owners_of_side side now) → get_or (link_owners_of_side side now) q 0 ≡ h → q ≡ h
none side c top now h p linked v l r e q m o =
    let same = side_link_owners_are_of_ring side c now v in
    let are = both_link_sides_have_rings side c top linked in
    lone_member (length (link_ring_of_side side c).owner) (λ k. get_or (link_ring_of_side side c).next k 0)
    (λ k. get_or (link_ring_of_side side c).prev k 0)
    (λ k. get_or (link_ring_of_side side c).owner k 0) are.ring h q
    (subst (λ xs. h < length xs) same l) (sym r ∙ e) (subst (λ xs. q < length xs) same m)
    (subst (λ xs. get_or xs q 0 ≡ h) same o)

pub returns-then-place-head : goal.returns-then-place-head
returns-then-place-head c =
    none c.args.side c.self.inside.slots c.self.inside.last_waiting c.args.self.now c.args.head c.seat-place.result.next
    c.self.invariant
    c.self.view_is c.requires.there c.seat-place.ensures.next c.if-place-head.true
